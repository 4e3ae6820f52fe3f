use Rattle.std.proofs.Common.{[], sym, subst, ◌∙◌, arith}
use Rattle.call_spec.proofs.PairLemmas.{same_length}
use Rattle.output_texts.specs.Texts.{Stands}
use Rattle.config_spec.proofs.ConfLemmas.{keep_form}
use Rattle.site_openings.specs.Out.{AreDistinct}
use Rattle.described_sinks.proofs.DistinctLemmas.{distinct_names}
use Rattle.collect_call.proofs.CallLemmas.{calls_ran, calls_unopened}
use Rattle.collect_call.proofs.call.run_prepared.Goals as goal

pub run_described-requires-clause-distinct : goal.run_described-requires-clause-distinct
run_described-requires-clause-distinct g c κs within =
    subst AreDistinct (sym (c.as_slice.ensures.value ∙ c.requires.prepared.1.named)) (distinct_names c.requires.described.0 c.args.conf.now c.requires.described.1)

pub run_described-requires-clause-works : goal.run_described-requires-clause-works
run_described-requires-clause-works g c κs within = c.requires.prepared.1.works

pub run_described-requires-clause-makers : goal.run_described-requires-clause-makers
run_described-requires-clause-makers g c κs within = sym (same_length (λ _ output t. Stands output c.requires.prepared.0 [] t) 0 c.args.conf.now.outputs c.args.prepared.texts.items c.requires.prepared.1.makes)

pub run_described-requires-clause-few : goal.run_described-requires-clause-few
run_described-requires-clause-few g c κs within = let few = (keep_form c.requires.described.0 c.args.conf.now c.requires.described.1).few_inputs in omega arith

pub returns-in-Ok : goal.returns-in-Ok
returns-in-Ok g c = λ rows p.
    (let ran = c.in-Ok.ensures.ran in
    calls_ran g.S.Src.Source.left g.S.Src.Source.faults c.args.conf.now rows ran.0 c.in-Ok.ended (g.S.Site.seen c.args.site.now) (g.S.Site.seen c.run_described.new.site) (g.S.Site.seen c.report_run.new.site) c.report_run.result ran.1 (ran.3 rows p.makes) ran.2
    c.report_run.ensures)

pub returns : goal.returns
returns g c = λ rows p.
    calls_unopened g.S.Src.Source.left g.S.Src.Source.faults c.args.conf.now rows c.in-Err.unopened (g.S.Site.seen c.args.site.now) (g.S.Site.seen c.run_described.new.site) (g.S.Site.seen c.report_unopened.new.site) c.report_unopened.result c.in-Err.ensures.refused
    c.report_unopened.ensures
