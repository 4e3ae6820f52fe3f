use Rattle.std.proofs.Common.{◌≡◌, length, map, take, vec_len}
use Rattle.run_entries.specs.Came.{end_or}
use Rattle.run_inputs.proofs.ends.note_ends.Given as goal

abbrev pub invariant-loop-index : goal.invariant-loop-index
invariant-loop-index g l = record {
  front : take l.index l.ends.items ≡ map (λ x. end_or x.end) (take l.index l.inputs);
  long : vec_len l.ends ≡ length l.inputs;
}
