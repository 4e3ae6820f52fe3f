use Rattle.described_run.proofs.OverLemmas.{nothing_tried}
use Rattle.described_run.proofs.run.run_described.Goals as goal

pub returns-in-Err-clause-refused : goal.returns-in-Err-clause-refused
returns-in-Err-clause-refused g c = nothing_tried g.S.Src.Source.left g.S.Src.Source.faults c.args.conf.now (g.S.Site.seen c.args.site.now)

pub returns-in-Err-room_for_outputs-clause-refused : goal.returns-in-Err-room_for_outputs-clause-refused
returns-in-Err-room_for_outputs-clause-refused g c = nothing_tried g.S.Src.Source.left g.S.Src.Source.faults c.args.conf.now (g.S.Site.seen c.args.site.now)
