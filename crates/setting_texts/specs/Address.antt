-- The octets of the two kinds of addresses.
use Rattle.std.specs.Prelude.{ℕ, List}
use Rattle.config_spec.specs.declared.tables.Prefix.{Prefix}
use Rattle.config_spec.specs.Texts.{prefix_with}
use Rattle.setting_texts.specs.declared.address_text.AddressOctets.{AddressOctets}
use Rattle.setting_texts.specs.declared.address_text.AddressOctets.TheVariants.{V4, V6}

abbrev pub octets_in : AddressOctets → List ℕ
octets_in (V4 octets) = octets
octets_in (V6 octets) = octets

-- the prefix of an address and a number of bits
abbrev pub parts_with : AddressOctets × ℕ → Prefix
parts_with parts = prefix_with (octets_in parts.0) parts.1
