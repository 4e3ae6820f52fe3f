-- The digits of an octet, and the pieces of an IPv4 address.
use Rattle.std.specs.Prelude.{ℕ, ◌+◌, ◌*◌, ◌%◌, ◌/◌, if◌then◌else◌, List, [], ◌∷◌, ◌++◌, take, drop, nat_lt}
use Rattle.value_text.specs.declared.dotted.TheConstants.{ROWS}

-- the digits of an octet
abbrev pub octet_digits : ℕ → List ℕ
octet_digits n = if nat_lt n 10 then (48 + n % 10) ∷ []
    else (if nat_lt n 100 then (48 + n / 10 % 10) ∷ (48 + n % 10) ∷ [] else (48 + n / 100) ∷ (48 + n / 10 % 10) ∷ (48 + n % 10) ∷ [])

-- an octet and the mark behind it
abbrev pub marked : ℕ → ℕ → List ℕ
marked n mark = octet_digits n ++ mark ∷ []

-- four octets with dots between, in quotes
abbrev pub dotted : ℕ → ℕ → ℕ → ℕ → List ℕ
dotted a b c d = 34 ∷ [] ++ marked a 46 ++ marked b 46 ++ marked c 46 ++ marked d 34

-- the row of an octet
abbrev pub row : ℕ → List ℕ
row n = take 4 (drop (4 * n) ROWS)
