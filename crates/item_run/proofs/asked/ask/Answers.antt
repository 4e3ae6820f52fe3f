use Rattle.run_input.proofs.NextLemmas.{brings_right}
use Rattle.item_run.proofs.asked.ask.Goals as goal

pub returns-clause-right : goal.returns-clause-right
returns-clause-right g c = brings_right g.S.Source.left g.S.Source.faults c.args.input.now c.next.new.self c.next.result c.requires c.next.ensures.brings
