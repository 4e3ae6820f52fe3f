use Rattle.collector_top.proofs.CallLemmas.{nothing_opened}
use Rattle.collector_top.proofs.direct.run.Goals as goal

pub returns-in_default-new-clause-refused : goal.returns-in_default-new-clause-refused
returns-in_default-new-clause-refused g c = nothing_opened g.S.Src.Source.left g.S.Src.Source.faults c.args.place.now c.args.out.now (g.S.Site.seen c.args.site.now)
