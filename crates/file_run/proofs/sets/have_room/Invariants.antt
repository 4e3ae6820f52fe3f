use Rattle.std.proofs.Common.{◌≡◌, ◌≤◌, ◌+◌, take}
use Rattle.file_output.specs.FileSets.{file_sets_size}
use Rattle.file_run.proofs.sets.have_room.Given as goal

-- the sets so far have room
abbrev pub invariant-loop-set : goal.invariant-loop-set
invariant-loop-set l = (l.size ≡ 16 + file_sets_size (take l.set-index l.sets)) × (l.size ≤ 65535)
