use Rattle.std.proofs.Common.{◌≡◌, drop}
use Rattle.toml.specs.View.{table_view}
use Rattle.config_spec.specs.Faults.{keys_fault}
use Rattle.setting_tables.proofs.walk.keys_fit.Given as goal

abbrev pub invariant-loop-row : goal.invariant-loop-row
invariant-loop-row l = keys_fault l.path l.rows (table_view l.table) ≡ keys_fault l.path (drop l.row-index l.rows) (table_view l.table)
