use Rattle.std.proofs.Common.{◌≡◌, drop, take}
use Rattle.config_spec.specs.Repeats.{repeat_from}
use Rattle.startup_config.proofs.RepeatLemmas.{AreSeen}
use Rattle.startup_config.proofs.repeats.differ.Given as goal

abbrev pub invariant-loop-place : goal.invariant-loop-place
invariant-loop-place l = (repeat_from 0 l.all l.all ≡ repeat_from l.place l.all (drop l.place l.all)) × AreSeen l.seen (take l.place l.all)
