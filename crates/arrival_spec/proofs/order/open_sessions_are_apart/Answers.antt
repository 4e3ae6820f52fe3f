use Rattle.arrival_spec.proofs.OrderLemmas.{connections_apart, peers_apart}
use Rattle.arrival_spec.proofs.order.open_sessions_are_apart.Goals as goal

pub returns : goal.returns
returns c = record { peers = peers_apart; connections = connections_apart }
