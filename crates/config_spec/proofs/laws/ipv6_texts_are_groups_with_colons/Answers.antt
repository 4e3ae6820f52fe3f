use Rattle.config_spec.proofs.AddressLemmas.{grouped_are_ipv6}
use Rattle.config_spec.proofs.laws.ipv6_texts_are_groups_with_colons.Goals as goal

pub returns : goal.returns
returns c = grouped_are_ipv6
