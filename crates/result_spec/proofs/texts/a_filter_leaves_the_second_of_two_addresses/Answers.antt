use Rattle.result_spec.proofs.TextLemmas.{second_in_lines, second_in_a_file}
use Rattle.result_spec.proofs.texts.a_filter_leaves_the_second_of_two_addresses.Goals as goal

pub returns : goal.returns
returns c = record { lines = second_in_lines; file = second_in_a_file }
