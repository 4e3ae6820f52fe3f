use Rattle.std.proofs.Common.{◌≡◌, ◌+◌, drop, length}
use Rattle.wire_spec.specs.Size.{plus, record_size}
use Rattle.record_iter.proofs.size.record_size.Given as goal

abbrev pub invariant-loop-field : goal.invariant-loop-field
invariant-loop-field l = record {
  left : plus l.size (record_size (drop l.field-index l.fields) l.rest) ≡ record_size l.fields l.octets;
  inside : l.size + length l.rest ≡ length l.octets;
}
