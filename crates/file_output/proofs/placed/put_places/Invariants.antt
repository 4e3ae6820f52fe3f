use Rattle.std.proofs.Common.{take}
use Rattle.file_output.proofs.RunLemmas.{Runs}
use Rattle.file_output.proofs.placed.put_places.Given as goal

-- what is written of the places so far
abbrev pub invariant-loop-place : goal.invariant-loop-place
invariant-loop-place l = Runs l.octets (take l.place-index l.places) l.fn.out l.out l.start l.end
