use Rattle.std.proofs.Common.{◌≡◌, ◌≤◌, take}
use Rattle.file_output.specs.Within.{placed_size}
use Rattle.file_output.proofs.placed.sum_places.Given as goal

abbrev pub invariant-loop-place : goal.invariant-loop-place
invariant-loop-place l = record {
  sum : l.size ≡ placed_size (take l.place-index l.places);
  small : l.size ≤ 65515;
}
