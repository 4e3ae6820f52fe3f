-- Where the values of a record stand in its octets.
use Rattle.std.specs.Prelude.{ℕ, ◌≡◌, ◌+◌, Bool, true, nat_le, List, [], ◌∷◌, map, take, drop, length}
use Rattle.std.specs.List.{list_all}
use Rattle.wire_spec.specs.declared.field.FieldSpec.{FieldSpec}
use Rattle.record_iter.specs.declared.place.ValuePlace.{ValuePlace}

-- the octets at a place
abbrev pub octets_at : List ℕ → ValuePlace → List ℕ
octets_at octets place = take place.len (drop place.at octets)

-- a place lies in so many octets
abbrev pub is_inside : ℕ → ValuePlace → Bool
is_inside size place = nat_le (place.at + place.len) size

-- the values stand at these places of a record
pub record Stand (octets : List ℕ) (places : List ValuePlace) (values : List (List ℕ)) : Type 0 where
  pub are : map (octets_at octets) places ≡ values
  pub inside : list_all (is_inside (length octets)) places ≡ true

-- the places of the values of fields that don't vary in length, from a place on
abbrev pub fixed_places : ℕ → List FieldSpec → List ValuePlace
fixed_places at [] = []
fixed_places at (f ∷ fields) = record { at = at; len = f.len } ∷ fixed_places (at + f.len) fields
