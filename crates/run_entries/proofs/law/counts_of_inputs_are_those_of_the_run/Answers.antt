use Rattle.run_entries.proofs.CountLemmas.{run_counts}
use Rattle.run_entries.proofs.law.counts_of_inputs_are_those_of_the_run.Goals as goal

pub returns : goal.returns
returns g c left faults conf run entries xs cs e calm_all counted = run_counts left faults conf run entries xs cs e calm_all counted
