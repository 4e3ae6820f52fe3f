use Rattle.wire_spec.proofs.OctetLemmas.{one_scope}
use Rattle.wire_spec.proofs.specifier.scope_fields_are_the_first_fields.Goals as goal

pub returns-clause-one : goal.returns-clause-one
returns-clause-one c = one_scope
