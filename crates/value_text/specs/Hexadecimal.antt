-- Digits in hexadecimal.
use Rattle.std.specs.Prelude.{ℕ, ◌%◌, List, [], ◌∷◌, nat_lt, if◌then◌else◌}
use Rattle.std.specs.Char.{digit_char}
use Rattle.text_spec.specs.Value.{hex_pair}

-- the digits of an octet without a zero in front, the last digit apart
abbrev pub short_pair : ℕ → List ℕ
short_pair octet = if nat_lt octet 16 then digit_char (octet % 16) ∷ [] else hex_pair octet
