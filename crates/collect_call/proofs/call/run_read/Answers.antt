use Rattle.collect_call.proofs.CallLemmas.{calls_unrun}
use Rattle.collect_call.proofs.call.run_read.Goals as goal

pub returns : goal.returns
returns g c =
    calls_unrun g.S.Src.Source.left g.S.Src.Source.faults c.args.read.conf c.args.read.elements (g.S.Site.seen c.args.site.now) (g.S.Site.seen c.report_unopened.new.site) c.report_unopened.result c.report_unopened.ensures
