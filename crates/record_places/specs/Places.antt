-- Where the records of a body stand: each behind those before it, the first at the start of the body.
use Rattle.std.specs.Prelude.{ℕ, zero, suc, ◌≡◌, ◌+◌, List, [], ◌∷◌, Option, MatchOption, length}
use Rattle.std.specs.declared.vec.Vec.{Vec}
use Rattle.std.specs.declared.alloc.Global.{Global}
use Rattle.wire_spec.specs.declared.field.FieldSpec.{FieldSpec}
use Rattle.wire_spec.specs.Record.{IsRecords, AreSomeRecords}
use Rattle.pipeline_message.specs.declared.message.Place.{Place}

-- records one behind another, from an octet on
abbrev pub places_from : ℕ → List (List ℕ) → List Place
places_from start [] = []
places_from start (r ∷ records) = record { start = start; len = length r } ∷ places_from (start + length r) records

-- so many places of one length, one behind another, from an octet on
abbrev pub even_places : ℕ → ℕ → ℕ → List Place
even_places start len zero = []
even_places start len (suc n) = record { start = start; len = len } ∷ even_places (start + len) len n

-- the body has these records, at these places
abbrev pub ArePlaced : List FieldSpec → List ℕ → ℕ → List Place → Type 0
ArePlaced fields body start places = (list : List (List ℕ)) × IsRecords fields body list × (places ≡ places_from start list)

-- they are its places, or it has no records
abbrev pub IsPlaced : List FieldSpec → List ℕ → ℕ → Option (Vec Place Global) → Type 0
IsPlaced fields body start found = MatchOption found (AreSomeRecords fields body → ⊥) (λ places. ArePlaced fields body start places.items)
