use Rattle.std.proofs.Common.{take}
use Rattle.stage_chain.specs.Suits.{AreSuited}
use Rattle.message_stages.proofs.prepare.prepare_stages.Given as goal

abbrev pub invariant-loop-index : goal.invariant-loop-index
invariant-loop-index l = AreSuited (take l.index l.stages) l.def.fields l.prepared.items
