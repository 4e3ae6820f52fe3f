use Rattle.load_spec.proofs.SaidLemmas.{message_is, records_are}
use Rattle.load_spec.proofs.message.a_generated_message_says_four_records.Goals as goal

pub returns : goal.returns
returns c = record { says = message_is; records = records_are }
