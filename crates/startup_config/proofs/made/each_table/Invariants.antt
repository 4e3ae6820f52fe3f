use Rattle.std.proofs.Common.{◌≡◌, ◌++◌, drop, map}
use Rattle.toml.specs.View.{view}
use Rattle.config_spec.specs.Values.{each_table}
use Rattle.startup_config.proofs.made.each_table.Given as goal

abbrev pub invariant-loop-item : goal.invariant-loop-item
invariant-loop-item g l = each_table (g.T.FromTable.value l.version) (map view l.items) ≡ l.made.items ++ each_table (g.T.FromTable.value l.version) (map view (drop l.item-index l.items))
