-- Texts of numbers, addresses and prefixes.
use Rattle.std.specs.Prelude.{ℕ, ◌-◌, ◌*◌, ◌%◌, ◌^◌, min, List, [], ◌∷◌, Option, Some, None, option_map, option_and_then, Bool, ◌&&◌, nat_le, nat_lt, ◌==◌, length, if◌then◌else◌}
use Rattle.std.specs.Option.{option_or}
use Rattle.std.specs.List.{list_all, list_any, position_or_len, before_first, after_first}
use Rattle.std.specs.Char.{is_ascii_digit}
use Rattle.std.specs.Str.Parse.{digits_value}
use Rattle.std.specs.Net.Reader.{read_ipv4, read_ipv6}
use Rattle.std.specs.Net.Addr.{octets_of}
use Rattle.config_spec.specs.declared.tables.Prefix.{Prefix}

abbrev pub are_digits : List ℕ → Bool
are_digits text = list_all is_ascii_digit text

-- a decimal number up to the most, which may have needless zeros
unfoldable pub number_text : ℕ → List ℕ → Option ℕ
number_text most text =
    if (nat_lt 0 (length text) && are_digits text) && nat_le (digits_value 10 text) most then Some (digits_value 10 text) else None

-- what was read, where nothing follows it
abbrev pub whole : Option (List ℕ × List ℕ) → Option (List ℕ)
whole None = None
whole (Some (found, [])) = Some found
whole (Some (found, o ∷ rest)) = None

-- the octets of four decimal numbers up to 255, without needless zeros, joined by dots
unfoldable pub address4 : List ℕ → Option (List ℕ)
address4 text = whole (read_ipv4 text)

abbrev pub has_dot : List ℕ → Bool
has_dot text = list_any (λ o. o == 46) text

-- the octets of eight groups of 1 to 4 hexadecimal digits joined by colons, or of fewer with one `::` in
-- place of at least one zero group, without a dotted part
unfoldable pub address6 : List ℕ → Option (List ℕ)
address6 text = if has_dot text then None else option_map octets_of (whole (read_ipv6 text))

-- the 4 or 16 octets of an address text
unfoldable pub address : List ℕ → Option (List ℕ)
address text = option_or (address4 text) (address6 text)

-- an octet's first bits, and zeros
abbrev pub top_bits : ℕ → ℕ → ℕ
top_bits bits octet = octet - octet % 2 ^ (8 - bits)

-- the first bits of octets, and zeros
abbrev pub masked : ℕ → List ℕ → List ℕ
masked bits [] = []
masked bits (o ∷ octets) = top_bits (min 8 bits) o ∷ masked (bits - 8) octets

abbrev pub prefix_with : List ℕ → ℕ → Prefix
prefix_with octets bits = record { octets = masked bits octets; bits = bits }

-- an address, and the text of a number of bits, up to as many as it has
abbrev pub prefix_from : List ℕ → List ℕ → Option Prefix
prefix_from bits octets = option_map (prefix_with octets) (number_text (8 * length octets) bits)

-- what stands before and after the first mark
unfoldable pub cut : ℕ → List ℕ → Option (List ℕ × List ℕ)
cut mark text = if nat_lt (position_or_len (λ o. o == mark) text) (length text)
    then Some (before_first (λ o. o == mark) text, after_first (λ o. o == mark) text) else None

abbrev pub prefix_cut : Option (List ℕ × List ℕ) → Option Prefix
prefix_cut None = None
prefix_cut (Some parts) = option_and_then (prefix_from parts.1) (address parts.0)

-- the prefix of an address, a slash and a number of bits
unfoldable pub prefix : List ℕ → Option Prefix
prefix text = prefix_cut (cut 47 text)
