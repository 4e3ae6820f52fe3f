use Rattle.std.proofs.Common.{◌≡◌, ◌≤◌, ◌+◌, ◌*◌, length}
use Rattle.wire_spec.specs.Message.{specifiers_size, shortest_of_specifiers}
use Rattle.ipfix_reader.proofs.template_rules.specifiers.Given as goal

abbrev pub invariant-loop-left : goal.invariant-loop-left
invariant-loop-left l = record {
  size : l.size + specifiers_size l.left l.rest ≡ specifiers_size l.count l.octets;
  least : l.least + shortest_of_specifiers l.left l.rest ≡ shortest_of_specifiers l.count l.octets;
  inside : l.size + length l.rest ≡ length l.octets;
  bound : l.least + 65535 * l.left ≤ 65535 * l.count;
}

abbrev pub decreases-loop-left : goal.decreases-loop-left
decreases-loop-left l = l.left
