use Rattle.std.proofs.Common.{◌≡◌, ◌++◌, drop}
use Rattle.anonymise_stage.specs.Segments.{bounds_of}
use Rattle.anonymise_stage.proofs.segment.bounds.Given as goal

abbrev pub invariant-loop-row : goal.invariant-loop-row
invariant-loop-row l = l.bounds.items ++ bounds_of l.octets (drop l.row-index l.rows) ≡ bounds_of l.octets l.rows
