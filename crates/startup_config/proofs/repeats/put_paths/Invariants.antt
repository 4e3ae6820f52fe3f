use Rattle.std.proofs.Common.{◌≡◌, ◌++◌, drop}
use Rattle.startup_config.specs.Named.{outputs_written}
use Rattle.startup_config.proofs.repeats.put_paths.Given as goal

abbrev pub invariant-loop-output : goal.invariant-loop-output
invariant-loop-output l = l.initial.longer.items ++ outputs_written l.outputs ≡ l.longer.items ++ outputs_written (drop l.output-index l.outputs)
