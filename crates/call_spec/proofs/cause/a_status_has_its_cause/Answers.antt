use Rattle.call_spec.proofs.CauseLemmas.{cause_of_3, cause_of_4}
use Rattle.call_spec.proofs.cause.a_status_has_its_cause.Goals as goal

pub returns : goal.returns
returns g c = record { source = cause_of_3; sink = cause_of_4 }
