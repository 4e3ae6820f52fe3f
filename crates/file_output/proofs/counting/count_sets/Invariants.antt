use Rattle.std.proofs.Common.{◌+◌, ◌≤◌, take, drop}
use Rattle.file_output.specs.FileSets.{file_sets_size}
use Rattle.file_output.specs.Counted.{AreCounted}
use Rattle.file_output.proofs.counting.count_sets.Given as goal

-- the sets so far are counted, and those that are left have room
abbrev pub invariant-loop-set : goal.invariant-loop-set
invariant-loop-set l = record {
  counted : AreCounted (take l.set-index l.sets) l.counted.items;
  room : 16 + file_sets_size (drop l.set-index l.sets) ≤ 65535;
}
