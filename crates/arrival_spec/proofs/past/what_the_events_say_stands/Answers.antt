use Rattle.arrival_spec.proofs.BackLemmas.{closed_back, connected_back, connection_back, peer_back, unconnected_back}
use Rattle.arrival_spec.proofs.past.what_the_events_say_stands.Goals as goal

pub returns : goal.returns
returns c = record {
  connection = λ settings input number events x stream p. connection_back settings input number events x stream p;
  connected = connected_back;
  unconnected = unconnected_back;
  peer = λ settings input key events x datagrams p. peer_back settings input key events x datagrams p;
  no_peer = closed_back;
}
