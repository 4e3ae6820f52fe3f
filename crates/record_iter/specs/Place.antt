-- Where the value of a field stands in its record (RFC 7011, section 7).
use Rattle.std.specs.Prelude.{ℕ, ◌≡◌, ◌+◌, ◌≤◌, List, length, take, drop}
use Rattle.wire_spec.specs.Values.{lead, size_of, value_of}
use Rattle.record_iter.specs.declared.place.ValuePlace.{ValuePlace}

-- The value of the field that begins at an octet of a record stands at a place: behind its length, up to where the next
-- field begins.
pub record IsValuePlace (len : ℕ) (octets : List ℕ) (at : ℕ) (place : ValuePlace) : Type 0 where
  pub begins : place.at ≡ at + lead len (drop at octets)
  pub ends : place.at + place.len ≡ at + size_of len (drop at octets)
  pub inside : place.at + place.len ≤ length octets
  pub value : take place.len (drop place.at octets) ≡ value_of len (drop at octets)
