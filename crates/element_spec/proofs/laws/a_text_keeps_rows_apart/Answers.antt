use Rattle.element_spec.proofs.ApartLemmas.{stay_apart}
use Rattle.element_spec.proofs.laws.a_text_keeps_rows_apart.Goals as goal

pub returns : goal.returns
returns c = stay_apart
