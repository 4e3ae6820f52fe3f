use Rattle.std.proofs.Common.{◌≡◌, drop}
use Rattle.toml.specs.View.{table_view}
use Rattle.config_spec.specs.Faults.{arrays_fault}
use Rattle.setting_tables.proofs.tables.arrays_fit.Given as goal

abbrev pub invariant-loop-key : goal.invariant-loop-key
invariant-loop-key g l =
    arrays_fault (g.C.Check.fault l.check) l.path l.arrays (table_view l.table) ≡ arrays_fault (g.C.Check.fault l.check) l.path (drop l.key-index l.arrays) (table_view l.table)
