use Rattle.element_spec.proofs.ApartLemmas.{tables_are_apart}
use Rattle.element_spec.proofs.laws.rows_of_a_table_are_apart.Goals as goal

pub returns : goal.returns
returns c = tables_are_apart
