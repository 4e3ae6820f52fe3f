use Rattle.run_spec.proofs.TextLemmas.{lines_append, views_append}
use Rattle.run_spec.proofs.text.texts_grow_item_by_item.Goals as goal

pub returns : goal.returns
returns c = record { lines = lines_append; views = views_append }
