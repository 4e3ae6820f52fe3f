-- What a call that was refused memory has put.
use Rattle.std.specs.Prelude.{ℕ, ◌≡◌, List, ◌++◌, take}

-- the first octets of a text were put behind what was there, none or some or all of them
abbrev pub GrowsByFront : List ℕ → List ℕ → List ℕ → Type 0
GrowsByFront old new text = (n : ℕ) × (new ≡ old ++ take n text)
