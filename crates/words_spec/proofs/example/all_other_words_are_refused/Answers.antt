use Rattle.std.proofs.Common.{refl}
use Rattle.config_spec.specs.Texts.{number_text}
use Rattle.words_spec.specs.Names.{short_option, long_option, option_start}
use Rattle.words_spec.specs.Commands.{direct_word, check_word, collect_word, generate_word}
use Rattle.words_spec.proofs.example.all_other_words_are_refused.Goals as goal

pub returns-clause-commands : goal.returns-clause-commands
unfolding direct_word check_word collect_word generate_word short_option long_option option_start number_text
returns-clause-commands c = refl

pub returns-clause-names : goal.returns-clause-names
unfolding direct_word check_word collect_word generate_word short_option long_option option_start number_text
returns-clause-names c = refl

pub returns-clause-options : goal.returns-clause-options
unfolding direct_word check_word collect_word generate_word short_option long_option option_start number_text
returns-clause-options c = refl

pub returns-clause-numbers : goal.returns-clause-numbers
unfolding direct_word check_word collect_word generate_word short_option long_option option_start number_text
returns-clause-numbers c = refl
