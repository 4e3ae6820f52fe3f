use Rattle.std.proofs.Common.{◌≡◌, drop, is_some}
use Rattle.std.specs.List.{list_all}
use Rattle.toml.specs.Data.{as_table}
use Rattle.toml.specs.View.{view}
use Rattle.element_table.proofs.add.all_tables.Given as goal

abbrev pub invariant-loop-value : goal.invariant-loop-value
invariant-loop-value l = list_all (λ value. is_some (as_table (view value))) l.values ≡ list_all (λ value. is_some (as_table (view value))) (drop l.value-index l.values)
