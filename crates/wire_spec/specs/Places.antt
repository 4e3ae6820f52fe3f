-- Where the sets of a message and the template records of a set begin (RFC 7011, sections 3.1, 3.3.2 and 3.4).
use Rattle.std.specs.Prelude.{ℕ, ◌≡◌, ◌+◌, List, drop, length, take}
use Rattle.std.specs.List.{concat}

-- the octet of a message at which its n-th set begins, counted from 0: behind the header and the sets before it
abbrev pub set_place : List (List ℕ) → ℕ → ℕ
set_place sets n = 16 + length (concat (take n sets))

-- the octet of a set at which its n-th template record begins: behind the set's header and the records before it
abbrev pub record_place : List (List ℕ) → ℕ → ℕ
record_place records n = 4 + length (concat (take n records))

-- the item stands in the octets from this place on
abbrev pub StandsAt : List ℕ → ℕ → List ℕ → Type 0
StandsAt octets place item = take (length item) (drop place octets) ≡ item
