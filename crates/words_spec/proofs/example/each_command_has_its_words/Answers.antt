use Rattle.std.proofs.Common.{refl}
use Rattle.config_spec.specs.Texts.{number_text}
use Rattle.words_spec.specs.Names.{short_option, long_option, option_start}
use Rattle.words_spec.specs.Commands.{direct_word, check_word, collect_word, generate_word}
use Rattle.words_spec.proofs.example.each_command_has_its_words.Goals as goal

pub returns-clause-direct : goal.returns-clause-direct
unfolding direct_word check_word collect_word generate_word short_option long_option option_start number_text
returns-clause-direct c = refl

pub returns-clause-check : goal.returns-clause-check
unfolding direct_word check_word collect_word generate_word short_option long_option option_start number_text
returns-clause-check c = refl

pub returns-clause-collect : goal.returns-clause-collect
unfolding direct_word check_word collect_word generate_word short_option long_option option_start number_text
returns-clause-collect c = refl

pub returns-clause-generate : goal.returns-clause-generate
unfolding direct_word check_word collect_word generate_word short_option long_option option_start number_text
returns-clause-generate c = refl
