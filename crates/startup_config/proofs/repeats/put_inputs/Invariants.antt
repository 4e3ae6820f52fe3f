use Rattle.std.proofs.Common.{◌≡◌, ◌++◌, drop}
use Rattle.startup_config.specs.Named.{inputs_named}
use Rattle.startup_config.proofs.repeats.put_inputs.Given as goal

abbrev pub invariant-loop-input : goal.invariant-loop-input
invariant-loop-input l = l.initial.longer.items ++ inputs_named l.inputs ≡ l.longer.items ++ inputs_named (drop l.input-index l.inputs)
