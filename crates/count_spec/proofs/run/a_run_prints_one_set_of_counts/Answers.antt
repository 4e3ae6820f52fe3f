use Rattle.count_spec.proofs.RunLemmas.{some_printed, one_printed}
use Rattle.count_spec.proofs.run.a_run_prints_one_set_of_counts.Goals as goal

pub returns : goal.returns
returns c = record { some = some_printed; one = one_printed }
