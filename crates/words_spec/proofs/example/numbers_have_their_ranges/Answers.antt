use Rattle.std.proofs.Common.{refl}
use Rattle.config_spec.specs.Texts.{number_text}
use Rattle.words_spec.specs.Names.{short_option, long_option, option_start}
use Rattle.words_spec.specs.Commands.{direct_word, check_word, collect_word, generate_word}
use Rattle.words_spec.proofs.example.numbers_have_their_ranges.Goals as goal

pub returns-clause-least : goal.returns-clause-least
unfolding direct_word check_word collect_word generate_word short_option long_option option_start number_text
returns-clause-least c = refl

pub returns-clause-greatest : goal.returns-clause-greatest
unfolding direct_word check_word collect_word generate_word short_option long_option option_start number_text
returns-clause-greatest c = refl
