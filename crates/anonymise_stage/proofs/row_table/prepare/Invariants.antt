use Rattle.std.proofs.Common.{◌≡◌, drop, take, map}
use Rattle.std.specs.List.{AllByRecursion}
use Rattle.config_spec.specs.Form.{IsAnonRow}
use Rattle.anonymise_stage.specs.Segments.{row_of}
use Rattle.anonymise_stage.proofs.row_table.prepare.Given as goal

abbrev pub invariant-loop-row : goal.invariant-loop-row
invariant-loop-row l = record { so_far : map row_of l.prepared.items ≡ take l.row-index l.rows; left : AllByRecursion IsAnonRow (drop l.row-index l.rows) }
