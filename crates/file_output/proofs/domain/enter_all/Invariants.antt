use Rattle.std.proofs.Common.{◌≡◌, ◌+◌, ◌≤◌, take, length, max}
use Rattle.file_output.specs.Sets.{known_after}
use Rattle.file_output.proofs.domain.enter_all.Given as goal

abbrev pub invariant-loop-set : goal.invariant-loop-set
invariant-loop-set g l = record {
  entered : l.known ≡ known_after g.S.SetRecords.body l.fn.known (take l.set-index l.sets);
  room : 255 + length l.known ≤ max 255 l.last;
}
