use Rattle.std.proofs.Common.{◌≡◌, length, map, take, vec_len}
use Rattle.generate_call.specs.Ran.{total_of}
use Rattle.generate_call.proofs.load.note_lengths.Given as goal

abbrev pub invariant-loop-index : goal.invariant-loop-index
invariant-loop-index l = record {
  front : take l.index l.lengths.items ≡ map total_of (take l.index l.sinks);
  long : vec_len l.lengths ≡ length l.sinks;
}
