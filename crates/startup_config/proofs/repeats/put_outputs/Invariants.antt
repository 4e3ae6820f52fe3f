use Rattle.std.proofs.Common.{◌≡◌, ◌++◌, drop}
use Rattle.startup_config.specs.Named.{outputs_named}
use Rattle.startup_config.proofs.repeats.put_outputs.Given as goal

abbrev pub invariant-loop-output : goal.invariant-loop-output
invariant-loop-output l = l.initial.longer.items ++ outputs_named l.outputs ≡ l.longer.items ++ outputs_named (drop l.output-index l.outputs)
