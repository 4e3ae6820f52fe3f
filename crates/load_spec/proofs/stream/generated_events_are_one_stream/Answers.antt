use Rattle.load_spec.proofs.StreamLemmas.{one_stream, all_cut, all_say, all_arrive}
use Rattle.load_spec.proofs.stream.generated_events_are_one_stream.Goals as goal

pub returns : goal.returns
returns c = record { stream = one_stream; cut = all_cut; say = all_say; arrive = all_arrive }
