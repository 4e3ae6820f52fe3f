use Rattle.load_spec.proofs.CountLemmas.{file_counted, tcp_counted}
use Rattle.load_spec.proofs.counts.generated_messages_are_counted.Goals as goal

pub returns : goal.returns
returns c = record { file = file_counted; tcp = tcp_counted }
