use Rattle.count_spec.proofs.OpenLemmas.{message_once, closing_once}
use Rattle.count_spec.proofs.in_use.a_message_comes_in_one_open_session.Goals as goal

pub returns : goal.returns
returns c = record { message = message_once; closing = closing_once }
