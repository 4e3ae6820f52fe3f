use Rattle.words_spec.proofs.NumberLemmas.{printed_number, only_printed, least_kept, most_kept}
use Rattle.words_spec.proofs.number.a_number_is_its_decimal_text.Goals as goal

pub returns-clause-printed : goal.returns-clause-printed
returns-clause-printed c = printed_number

pub returns-clause-only : goal.returns-clause-only
returns-clause-only c = only_printed

pub returns-clause-least : goal.returns-clause-least
returns-clause-least c = least_kept

pub returns-clause-most : goal.returns-clause-most
returns-clause-most c = most_kept
