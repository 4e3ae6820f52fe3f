use Rattle.arrival_spec.proofs.MessageLemmas.{session_told}
use Rattle.arrival_spec.proofs.piece.a_session_brings_the_messages_of_its_octets.Goals as goal

pub returns : goal.returns
returns c = λ settings input number n events x stream e is. session_told settings input stream number n events x e is
