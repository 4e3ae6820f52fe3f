-- What an anonymiser is prepared to for the records of one definition.
use Rattle.std.specs.Prelude.{ℕ, ◌≡◌, ◌+◌, ◌==◌, ◌&&◌, ◌||◌, ◌++◌, if◌then◌else◌, true, false, List, [], ◌∷◌, map, take, drop}
use Rattle.wire_spec.specs.declared.field.FieldSpec.{FieldSpec}
use Rattle.wire_spec.specs.Size.{are_fixed}
use Rattle.record_iter.specs.declared.place.ValuePlace.{ValuePlace}
use Rattle.config_spec.specs.declared.tables.AnonTable.{AnonTable}
use Rattle.act_spec.specs.Anonymise.{best_row, changed_by, is_address, is_listed}
use Rattle.anonymise_stage.specs.declared.prepared.PreparedAnonymiser.{PreparedAnonymiser}

-- where the listed addresses of these fields stand in each record, if no field varies in length: the first field at this
-- octet
abbrev pub places_of : AnonTable → ℕ → List FieldSpec → List ValuePlace
places_of table at [] = []
places_of table at (f ∷ fields) =
    if is_listed table f && (f.len == 4 || f.len == 16) then record { at = at; len = f.len } ∷ places_of table (at + f.len) fields else places_of table (at + f.len) fields

-- the value of a listed field
abbrev pub address_hidden : AnonTable → List ℕ → List ℕ
address_hidden table value = if is_address value then changed_by table (best_row table.rows value) value else value

-- the octets with the value at a place changed
abbrev pub hidden_place : AnonTable → ValuePlace → List ℕ → List ℕ
hidden_place table p octets = take p.at octets ++ (address_hidden table (take p.len (drop p.at octets)) ++ drop (p.at + p.len) octets)

-- with the values at one place after the other changed
abbrev pub hidden_at : AnonTable → List ValuePlace → List ℕ → List ℕ
hidden_at table [] octets = octets
hidden_at table (p ∷ places) octets = hidden_at table places (hidden_place table p octets)

-- The places of the listed addresses where no field varies in length, and else which fields are listed.
pub record Suits (table : AnonTable) (fields : List FieldSpec) (prepared : PreparedAnonymiser) : Type 0 where
  pub fixed : prepared.is_fixed ≡ are_fixed fields
  pub places : are_fixed fields ≡ true → prepared.places.items ≡ places_of table 0 fields
  pub listed : are_fixed fields ≡ false → prepared.listed.items ≡ map (is_listed table) fields
