use Rattle.std.proofs.Common.{◌≡◌, ◌≤◌, ◌+◌, ◌++◌, None, map, reverse, vec_capacity, vec_len}
use Rattle.std.specs.List.{AllByRecursion}
use Rattle.run_came.specs.Ran.{output_sinks}
use Rattle.described_run.proofs.taker.begin_outputs.Given as goal

abbrev pub invariant-loop-maker : goal.invariant-loop-maker
invariant-loop-maker g l = record {
  over : l.fn.sinks.items ≡ l.sinks.items ++ output_sinks (reverse l.outputs.items);
  make : l.fn.texts.items ≡ l.makers.items ++ map (λ o. o.texts) (reverse l.outputs.items);
  go_on : AllByRecursion (λ o. o.fault ≡ None) (reverse l.outputs.items);
  some : vec_len l.makers ≤ vec_len l.sinks;
  room : vec_len l.outputs + vec_len l.makers ≤ vec_capacity l.outputs;
  kept : vec_capacity l.sinks ≡ vec_capacity l.fn.sinks;
}

abbrev pub decreases-loop-maker : goal.decreases-loop-maker
decreases-loop-maker g l = vec_len l.makers
