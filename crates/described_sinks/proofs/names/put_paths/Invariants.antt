use Rattle.std.proofs.Common.{◌≡◌, ◌++◌, drop}
use Rattle.described_sinks.specs.Paths.{paths}
use Rattle.described_sinks.proofs.names.put_paths.Given as goal

abbrev pub invariant-loop-output : goal.invariant-loop-output
invariant-loop-output l = l.initial.longer.items ++ paths l.outputs ≡ l.longer.items ++ paths (drop l.output-index l.outputs)
