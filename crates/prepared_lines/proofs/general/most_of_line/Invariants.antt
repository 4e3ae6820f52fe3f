use Rattle.std.proofs.Common.{◌≡◌, take}
use Rattle.std.specs.List.{sum_by}
use Rattle.prepared_lines.specs.General.{most_at}
use Rattle.prepared_lines.proofs.general.most_of_line.Given as goal

abbrev pub invariant-loop-member : goal.invariant-loop-member
invariant-loop-member l = l.most ≡ sum_by (most_at l.places) (take l.member-index l.members)
