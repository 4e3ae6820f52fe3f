use Rattle.std.proofs.Common.{refl}
use Rattle.config_spec.specs.Texts.{number_text}
use Rattle.words_spec.specs.Names.{short_option, long_option, option_start}
use Rattle.words_spec.specs.Commands.{direct_word, check_word, collect_word, generate_word}
use Rattle.words_spec.proofs.example.a_name_may_be_a_word_of_the_command_line.Goals as goal

pub returns-clause-words : goal.returns-clause-words
unfolding direct_word check_word collect_word generate_word short_option long_option option_start number_text
returns-clause-words c = refl

pub returns-clause-same : goal.returns-clause-same
unfolding direct_word check_word collect_word generate_word short_option long_option option_start number_text
returns-clause-same c = refl
