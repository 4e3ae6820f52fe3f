use Rattle.call_spec.proofs.CompleteLemmas.{limit_of_5, complete}
use Rattle.call_spec.proofs.cause.a_run_without_a_cause_is_done.Goals as goal

pub returns : goal.returns
returns g c = record { limit = limit_of_5; complete = complete }
