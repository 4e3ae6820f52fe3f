use Rattle.result_spec.proofs.TextLemmas.{named_text, without_options_text, templates_stay_text}
use Rattle.result_spec.proofs.texts.lines_are_as_the_settings_say.Goals as goal

pub returns : goal.returns
returns c = record { named = named_text; without_options = without_options_text; templates_stay = templates_stay_text }
