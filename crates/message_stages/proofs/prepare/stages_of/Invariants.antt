use Rattle.std.proofs.Common.{◌≡◌, take}
use Rattle.stage_chain.specs.Behind.{works_of}
use Rattle.message_stages.proofs.prepare.stages_of.Given as goal

abbrev pub invariant-loop-index : goal.invariant-loop-index
invariant-loop-index l = l.made.items ≡ works_of (take l.index l.stages)
