use Rattle.std.proofs.Common.{◌≡◌, ◌++◌, List, ℕ, length}
use Rattle.std.specs.List.{AllByRecursion, concat}
use Rattle.wire_spec.specs.Record.{IsSomeRecord}
use Rattle.record_iter.proofs.record_walk.are_records.Given as goal

abbrev pub invariant-loop-rest : goal.invariant-loop-rest
invariant-loop-rest l = (before : List (List ℕ)) × AllByRecursion (IsSomeRecord l.fields) before × (l.fn.body ≡ concat before ++ l.rest)

abbrev pub decreases-loop-rest : goal.decreases-loop-rest
decreases-loop-rest l = length l.rest
