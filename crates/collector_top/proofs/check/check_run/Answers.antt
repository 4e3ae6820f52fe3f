use Rattle.described_texts.specs.declared.read.Description.{Description}
use Rattle.collector_top.proofs.CallLemmas.{calls_fine, calls_judged}
use Rattle.collector_top.proofs.check.check_run.Goals as goal

pub returns-in-Err : goal.returns-in-Err
returns-in-Err g c =
    calls_judged g.S.Src.Source.left g.S.Src.Source.faults Description c.args.name.now c.in-Err.refusal (g.S.Site.seen c.args.site.now) (g.S.Site.seen c.read_description.new.site) (g.S.Site.seen c.report_refusal.new.site) c.report_refusal.result c.in-Err.ensures.err c.in-Err.ensures.texts
    c.in-Err.ensures.rest c.report_refusal.ensures

pub returns-in-Ok : goal.returns-in-Ok
returns-in-Ok g c =
    let ok = c.in-Ok.ensures in
    calls_fine g.S.Src.Source.left g.S.Src.Source.faults c.args.name.now (g.S.Site.seen c.args.site.now) (g.S.Site.seen c.read_description.new.site) (g.S.Site.seen c.report_fine.new.site) c.report_fine.result (c.in-Ok.read.conf, ok.described, (c.in-Ok.read.elements, ok.table)) ok.texts ok.rest
    c.report_fine.ensures
