use Rattle.wire_spec.proofs.WrittenLemmas.{message_back}
use Rattle.wire_spec.proofs.specifier.definitions_of_messages_are_read_again.Goals as goal

pub returns : goal.returns
returns c = message_back
