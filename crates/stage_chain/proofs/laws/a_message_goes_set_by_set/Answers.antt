use Rattle.stage_chain.proofs.BehindLemmas.{message_behind}
use Rattle.stage_chain.proofs.laws.a_message_goes_set_by_set.Goals as goal

pub returns : goal.returns
returns c = message_behind
