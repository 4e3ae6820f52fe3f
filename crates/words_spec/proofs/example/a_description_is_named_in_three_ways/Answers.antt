use Rattle.std.proofs.Common.{refl}
use Rattle.config_spec.specs.Texts.{number_text}
use Rattle.words_spec.specs.Names.{short_option, long_option, option_start}
use Rattle.words_spec.specs.Commands.{direct_word, check_word, collect_word, generate_word}
use Rattle.words_spec.proofs.example.a_description_is_named_in_three_ways.Goals as goal

pub returns-clause-long : goal.returns-clause-long
unfolding direct_word check_word collect_word generate_word short_option long_option option_start number_text
returns-clause-long c = refl

pub returns-clause-joined : goal.returns-clause-joined
unfolding direct_word check_word collect_word generate_word short_option long_option option_start number_text
returns-clause-joined c = refl

pub returns-clause-collect_long : goal.returns-clause-collect_long
unfolding direct_word check_word collect_word generate_word short_option long_option option_start number_text
returns-clause-collect_long c = refl

pub returns-clause-collect_joined : goal.returns-clause-collect_joined
unfolding direct_word check_word collect_word generate_word short_option long_option option_start number_text
returns-clause-collect_joined c = refl

pub returns-clause-equals : goal.returns-clause-equals
unfolding direct_word check_word collect_word generate_word short_option long_option option_start number_text
returns-clause-equals c = refl
