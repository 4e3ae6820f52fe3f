use Rattle.std.proofs.Common.{◌≡◌, ◌++◌, drop}
use Rattle.startup_config.specs.Named.{stages_named}
use Rattle.startup_config.proofs.repeats.put_stages.Given as goal

abbrev pub invariant-loop-stage : goal.invariant-loop-stage
invariant-loop-stage l = l.initial.longer.items ++ stages_named l.stages ≡ l.longer.items ++ stages_named (drop l.stage-index l.stages)
