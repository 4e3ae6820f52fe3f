use Rattle.config_spec.proofs.AddressLemmas.{dotted_are_ipv4}
use Rattle.config_spec.proofs.laws.ipv4_texts_are_numbers_with_dots.Goals as goal

pub returns : goal.returns
returns c = dotted_are_ipv4
