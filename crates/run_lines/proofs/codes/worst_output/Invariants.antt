use Rattle.std.proofs.Common.{◌≡◌, drop, map, max}
use Rattle.std.specs.Prelude.{fold}
use Rattle.call_spec.specs.Status.{output_code, worst}
use Rattle.run_lines.proofs.codes.worst_output.Given as goal

abbrev pub invariant-loop-fault : goal.invariant-loop-fault
invariant-loop-fault l = fold max l.most (map output_code (drop l.fault-index l.faults)) ≡ worst (map output_code l.faults)
