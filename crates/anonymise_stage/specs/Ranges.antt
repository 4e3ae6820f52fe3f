-- The addresses that agree with a row, as numbers from a first to a last one.
use Rattle.std.specs.Prelude.{ℕ, ◌+◌, ◌-◌, ◌^◌, ◌==◌, ◌&&◌, min, nat_le, nat_lt, Bool, List, [], ◌∷◌, length}
use Rattle.std.specs.List.{list_all}
use Rattle.text_spec.specs.Number.{number_of}
use Rattle.config_spec.specs.declared.tables.AnonRow.{AnonRow}
use Rattle.config_spec.specs.Texts.{top_bits, masked}

-- octets are below 256
abbrev pub are_octets : List ℕ → Bool
are_octets octets = list_all (λ o. nat_lt o 256) octets

-- an octet's first bits, and ones
abbrev pub with_ones : ℕ → ℕ → ℕ
with_ones bits octet = top_bits bits octet + (2 ^ (8 - bits) - 1)

-- the first bits of octets, and ones
abbrev pub filled : ℕ → List ℕ → List ℕ
filled bits [] = []
filled bits (o ∷ octets) = with_ones (min 8 bits) o ∷ filled (bits - 8) octets

abbrev pub low_of : AnonRow → ℕ
low_of row = number_of (masked row.from.bits row.from.octets)

abbrev pub high_of : AnonRow → ℕ
high_of row = number_of (filled row.from.bits row.from.octets)

-- an address of so many octets agrees with the row, by its number
abbrev pub covers : ℕ → ℕ → AnonRow → Bool
covers octets number row = octets == length row.from.octets && (nat_le (low_of row) number && nat_le number (high_of row))
