use Rattle.result_spec.proofs.MoreLemmas.{front_begins}
use Rattle.result_spec.proofs.more.a_front_of_an_order_gives_a_front_of_the_text.Goals as goal

pub returns : goal.returns
returns c = front_begins
