use Rattle.arrival_spec.proofs.RunLemmas.{arrived_before_all, arrived_before_more, front_of_more}
use Rattle.arrival_spec.proofs.run.what_arrived_stays.Goals as goal

pub returns : goal.returns
returns c = record { marks = front_of_more; arrivals = arrived_before_more; all = arrived_before_all }
