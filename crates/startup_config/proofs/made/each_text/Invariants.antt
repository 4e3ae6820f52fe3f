use Rattle.std.proofs.Common.{◌≡◌, ◌++◌, drop, map}
use Rattle.toml.specs.View.{view}
use Rattle.config_spec.specs.Values.{each_text}
use Rattle.startup_config.proofs.made.each_text.Given as goal

abbrev pub invariant-loop-item : goal.invariant-loop-item
invariant-loop-item l = each_text (map view l.items) ≡ l.made.items ++ each_text (map view (drop l.item-index l.items))
