use Rattle.std.proofs.Common.{◌≡◌, drop, map}
use Rattle.toml.specs.View.{view}
use Rattle.config_spec.specs.Faults.{items_fault}
use Rattle.setting_tables.proofs.tables.items_fit.Given as goal

abbrev pub invariant-loop-place : goal.invariant-loop-place
invariant-loop-place g l =
    items_fault (g.C.Check.fault l.check l.sort) l.path l.key 0 (map view l.items) ≡ items_fault (g.C.Check.fault l.check l.sort) l.path l.key l.place (map view (drop l.place l.items))
