use Rattle.std.proofs.Common.{◌≡◌, drop, map}
use Rattle.toml.specs.View.{view}
use Rattle.config_spec.specs.Repeats.{prefixes_fault}
use Rattle.startup_config.proofs.repeats.prefixes_differ.Given as goal

abbrev pub invariant-loop-item : goal.invariant-loop-item
invariant-loop-item l = prefixes_fault (map view l.items) ≡ prefixes_fault (map view (drop l.item-index l.items))
