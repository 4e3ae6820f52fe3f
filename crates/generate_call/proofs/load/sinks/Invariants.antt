use Rattle.std.proofs.Common.{◌≡◌, vec_len}
use Rattle.std.specs.List.{AllByRecursion}
use Rattle.generate_call.specs.Ran.{total_of}
use Rattle.generate_call.proofs.load.sinks.Given as goal

abbrev pub invariant-loop : goal.invariant-loop
invariant-loop l = record {
  long : vec_len l.sinks ≡ l.counter;
  fresh : AllByRecursion (λ k. total_of k ≡ 0) l.sinks.items;
}
