use Rattle.std.proofs.Common.{List, sym, subst}
use Rattle.site_openings.specs.All.{AreOut}
use Rattle.described_run.proofs.OverLemmas.{sources_long}
use Rattle.described_run.proofs.run.run_opened.Goals as goal

pub make_inputs-requires-clause-long : goal.make_inputs-requires-clause-long
make_inputs-requires-clause-long g c κs within =
    let o = c.requires.out in
    sources_long g.S.Src.Source.left g.S.Src.Source.faults g.T.MessageTexts.stands g.S.Out.Sink.held g.S.Out.Sink.total g.S.Out.Sink.faults c.args.conf.now c.args.names.now c.requires.named c.args.opened.sources.items c.args.opened.sinks.items o.0 (g.S.Site.seen c.args.site.now) o.1

pub returns-in-Ok-clause-ran : goal.returns-in-Ok-clause-ran
returns-in-Ok-clause-ran g c old out = c.run_over.ensures old c.args.opened.sources.items out c.in-Ok.ensures.made

pub returns-in-Err-clause-refused : goal.returns-in-Err-clause-refused
returns-in-Err-clause-refused g c old out =
    c.back_unused.ensures old
    (subst (λ (l : List g.row.S-Src.Denot). AreOut g.S.Src.Source.left g.S.Src.Source.faults g.S.Out.Sink.held g.S.Out.Sink.faults c.args.conf.now l c.args.opened.sinks.items old (g.S.Site.seen c.args.site.now)) (sym c.in-Err.ensures.refused) out)
