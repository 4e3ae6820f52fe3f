use Rattle.count_spec.proofs.TimedLemmas.{first_in_use, second_in_use, third_in_use, first_of_one_message_in_use, second_of_one_message_in_use}
use Rattle.count_spec.proofs.from_events.snapshots_in_use_are_counted.Goals as goal

pub returns : goal.returns
returns c = record { first = first_in_use; second = second_in_use; third = third_in_use; first_of_one_message = first_of_one_message_in_use; second_of_one_message = second_of_one_message_in_use }
