use Rattle.std.proofs.Common.{◌≡◌, length, map, take, vec_len}
use Rattle.described_run.proofs.ended.note_outputs.Given as goal

abbrev pub invariant-loop-index : goal.invariant-loop-index
invariant-loop-index g l = record {
  front : take l.index l.faults.items ≡ map (λ o. o.fault) (take l.index l.outputs);
  long : vec_len l.faults ≡ length l.outputs;
}
