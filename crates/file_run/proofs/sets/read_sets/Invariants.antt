use Rattle.std.specs.List.{AllByRecursion}
use Rattle.file_output.specs.FileSets.{HasRecords}
use Rattle.file_run.proofs.sets.read_sets.Given as goal

-- each set so far has records
abbrev pub invariant-loop-word : goal.invariant-loop-word
invariant-loop-word l = AllByRecursion HasRecords l.sets.items
