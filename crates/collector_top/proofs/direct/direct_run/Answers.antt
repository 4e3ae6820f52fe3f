use Rattle.collector_top.proofs.CallLemmas.{calls_ran, calls_unopened}
use Rattle.collector_top.proofs.direct.direct_run.Goals as goal

pub returns-in-Ok : goal.returns-in-Ok
returns-in-Ok g c =
    calls_ran g.S.Src.Source.left g.S.Src.Source.faults c.args.place.now c.args.out.now c.in-Ok.ended (g.S.Site.seen c.args.site.now) (g.S.Site.seen c.run.new.site) (g.S.Site.seen c.report_run.new.site) c.report_run.result c.in-Ok.ensures.ran c.report_run.ensures

pub returns-in-Err : goal.returns-in-Err
returns-in-Err g c =
    calls_unopened g.S.Src.Source.left g.S.Src.Source.faults c.args.place.now c.args.out.now c.in-Err.refusal (g.S.Site.seen c.args.site.now) (g.S.Site.seen c.run.new.site) (g.S.Site.seen c.report_unopened.new.site) c.report_unopened.result c.in-Err.ensures.refused
    c.report_unopened.ensures
