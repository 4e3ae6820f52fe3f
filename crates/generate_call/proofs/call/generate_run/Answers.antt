use Rattle.generate_call.proofs.CallLemmas.{calls_reported, calls_unrun}
use Rattle.generate_call.proofs.call.generate_run.Goals as goal

pub returns-in_default : goal.returns-in_default
returns-in_default g c = calls_unrun g.S.Src.Source.left g.S.Src.Source.faults c.args.number c.args.count (g.S.Site.seen c.args.site.now) (g.S.Site.seen c.report_refusal.new.site) c.report_refusal.result c.report_refusal.ensures

pub returns-in-Ok-run : goal.returns-in-Ok-run
returns-in-Ok-run g c = calls_reported g.S.Src.Source.left g.S.Src.Source.faults c.args.number c.args.count (g.S.Site.seen c.args.site.now) (g.S.Site.seen c.report_load.new.site) c.report_load.result c.in-Ok.conf c.as_slice.result.now c.in-Ok-run.load c.in-Ok.ensures c.as_slice.ensures.value c.in-Ok-run.ensures c.report_load.ensures

pub returns : goal.returns
returns g c = calls_unrun g.S.Src.Source.left g.S.Src.Source.faults c.args.number c.args.count (g.S.Site.seen c.args.site.now) (g.S.Site.seen c.report_refusal-in-Err.new.site) c.report_refusal-in-Err.result c.report_refusal-in-Err.ensures
