use Rattle.wire_spec.proofs.OctetLemmas.{specifier_is}
use Rattle.wire_spec.proofs.specifier.octets_say_a_field.Goals as goal

pub returns-clause-are : goal.returns-clause-are
returns-clause-are c = specifier_is
