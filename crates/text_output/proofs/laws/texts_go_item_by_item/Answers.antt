use Rattle.text_output.proofs.LawLemmas.{texts_append, texts_each}
use Rattle.text_output.proofs.laws.texts_go_item_by_item.Goals as goal

pub returns : goal.returns
returns c = record { each = texts_each; more = texts_append }
