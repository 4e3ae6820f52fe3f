use Rattle.std.proofs.Common.{◌≡◌, ◌≤◌, ◌+◌, ◌++◌, reverse, vec_capacity, vec_len}
use Rattle.run_came.specs.Ran.{output_sinks}
use Rattle.described_run.proofs.taker.end_outputs.Given as goal

abbrev pub invariant-loop-output : goal.invariant-loop-output
invariant-loop-output g l = record {
  given : l.sinks.items ++ output_sinks (reverse l.left.items) ≡ l.fn.sinks.items ++ output_sinks l.fn.outputs.items;
  room : vec_len l.sinks + vec_len l.left ≤ vec_capacity l.sinks;
}

abbrev pub decreases-loop-output : goal.decreases-loop-output
decreases-loop-output g l = vec_len l.left
