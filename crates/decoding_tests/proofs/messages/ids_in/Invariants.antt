use Rattle.std.proofs.Common.{◌≡◌, List}
use Rattle.wire_spec.specs.Content.{Part}
use Rattle.ipfix_reader.specs.Octets.{octets_of}
use Rattle.ipfix_reader.specs.Left.{sets_left}
use Rattle.ipfix_reader.specs.Walk.{HaveSaid}
use Rattle.decoding_tests.specs.DefinedIds.{defined_ids}
use Rattle.decoding_tests.proofs.messages.ids_in.Given as goal

abbrev pub invariant-loop-set : goal.invariant-loop-set
invariant-loop-set l = (parts : List Part) × HaveSaid (octets_of l.fn.message) (sets_left l.set-iterator) parts × (l.ids.items ≡ defined_ids parts)
