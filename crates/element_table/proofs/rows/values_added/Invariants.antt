use Rattle.std.proofs.Common.{◌≡◌, drop, map}
use Rattle.toml.specs.View.{view}
use Rattle.element_spec.specs.Table.{values_added}
use Rattle.element_table.proofs.rows.values_added.Given as goal

abbrev pub invariant-loop-place : goal.invariant-loop-place
invariant-loop-place l = values_added 0 l.fn.known (map view l.values) ≡ values_added l.place l.table (map view (drop l.place l.values))
