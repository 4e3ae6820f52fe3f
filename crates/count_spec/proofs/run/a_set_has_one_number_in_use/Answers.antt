use Rattle.count_spec.proofs.RunLemmas.{some_in_use, one_in_use}
use Rattle.count_spec.proofs.run.a_set_has_one_number_in_use.Goals as goal

pub returns : goal.returns
returns c = record { some = some_in_use; one = one_in_use }
