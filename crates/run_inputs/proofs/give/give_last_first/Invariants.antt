use Rattle.std.proofs.Common.{◌≡◌, ◌≤◌, ◌+◌, ◌++◌, reverse, vec_capacity, vec_len}
use Rattle.run_inputs.specs.Made.{sources_of}
use Rattle.run_inputs.proofs.give.give_last_first.Given as goal

abbrev pub invariant-loop-input : goal.invariant-loop-input
invariant-loop-input g l = record {
  given : l.sources.items ++ reverse (sources_of l.inputs.items) ≡ l.fn.sources.items ++ reverse (sources_of l.fn.inputs.items);
  room : vec_len l.sources + vec_len l.inputs ≤ vec_capacity l.sources;
}

abbrev pub decreases-loop-input : goal.decreases-loop-input
decreases-loop-input g l = vec_len l.inputs
