use Rattle.element_spec.proofs.ApartLemmas.{rows_stay}
use Rattle.element_spec.proofs.laws.a_text_puts_its_rows_last.Goals as goal

pub returns : goal.returns
returns c = rows_stay
