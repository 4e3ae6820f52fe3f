use Rattle.std.proofs.Common.{map, take}
use Rattle.pipeline_message.specs.Items.{set_of}
use Rattle.file_output.specs.Placed.{ArePlacedSets}
use Rattle.file_texts.proofs.placed.sets_of.Given as goal

-- the sets so far
abbrev pub invariant-loop-set : goal.invariant-loop-set
invariant-loop-set l = ArePlacedSets l.sets.items (map (set_of l.fn.message.octets.value) (take l.set-index l.fn.message.sets.items))
