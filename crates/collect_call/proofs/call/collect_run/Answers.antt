use Rattle.described_texts.specs.declared.read.Description.{Description}
use Rattle.collect_call.proofs.CallLemmas.{calls_read, calls_judged}
use Rattle.collect_call.proofs.call.collect_run.Goals as goal

pub returns-in-Ok : goal.returns-in-Ok
returns-in-Ok g c =
    let ok = c.in-Ok.ensures in
    calls_read g.S.Src.Source.left g.S.Src.Source.faults c.args.file.now c.in-Ok.read.conf c.in-Ok.read.elements (g.S.Site.seen c.args.site.now) (g.S.Site.seen c.read_description.new.site) (g.S.Site.seen c.run_read.new.site) c.run_read.result ok.described ok.table ok.texts
    ok.rest c.run_read.ensures

pub returns-in-Err : goal.returns-in-Err
returns-in-Err g c =
    calls_judged g.S.Src.Source.left g.S.Src.Source.faults Description c.args.file.now c.in-Err.refusal (g.S.Site.seen c.args.site.now) (g.S.Site.seen c.read_description.new.site) (g.S.Site.seen c.report_refusal.new.site) c.report_refusal.result c.in-Err.ensures.err
    c.in-Err.ensures.texts c.in-Err.ensures.rest c.report_refusal.ensures
