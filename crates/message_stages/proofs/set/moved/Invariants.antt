use Rattle.std.proofs.Common.{◌≡◌, map, take}
use Rattle.message_stages.specs.Sets.{moved}
use Rattle.message_stages.proofs.set.moved.Given as goal

abbrev pub invariant-loop-place : goal.invariant-loop-place
invariant-loop-place l = l.made.items ≡ map (moved l.by) (take l.place-index l.places)
