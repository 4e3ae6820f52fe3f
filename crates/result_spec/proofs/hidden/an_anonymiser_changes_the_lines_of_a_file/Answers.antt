use Rattle.result_spec.proofs.HiddenLemmas.{cut_without_rows, replaced_by_rows, replaced_in_the_other_order}
use Rattle.result_spec.proofs.hidden.an_anonymiser_changes_the_lines_of_a_file.Goals as goal

pub returns : goal.returns
returns c = record { replaced = replaced_by_rows; other_order = replaced_in_the_other_order; cut = cut_without_rows }
