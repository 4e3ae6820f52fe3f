use Rattle.message_stages.proofs.ItemLemmas.{items_more, none_stays}
use Rattle.message_stages.proofs.laws.items_go_one_by_one.Goals as goal

pub returns-clause-none : goal.returns-clause-none
returns-clause-none c = none_stays

pub returns-clause-more : goal.returns-clause-more
returns-clause-more c = items_more
