use Rattle.run_spec.proofs.TextLemmas.{some_text, one_text}
use Rattle.run_spec.proofs.text.an_input_has_one_text.Goals as goal

pub returns : goal.returns
returns c = record { some = some_text; one = one_text }
