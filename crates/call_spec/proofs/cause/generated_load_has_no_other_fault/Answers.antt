use Rattle.call_spec.proofs.CompleteLemmas.{load_ends}
use Rattle.call_spec.proofs.cause.generated_load_has_no_other_fault.Goals as goal

pub returns : goal.returns
returns g c left faults number count old new status k = load_ends left faults number count old new status k
