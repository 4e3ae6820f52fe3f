-- Records where they stand, and the items whose records they are.
use Rattle.std.specs.Prelude.{ℕ, ◌≡◌, ◌≤◌, ◌<◌, ◌+◌, ◌^◌, ◌⊎◌, List, [], ◌∷◌, length, map, sum_by}
use Rattle.wire_spec.specs.Content.{Definition}
use Rattle.run_spec.specs.Outcome.{DecodedSet}
use Rattle.run_spec.specs.Work.{Item}
use Rattle.run_spec.specs.Work.Item.{Note, Tick, Data}
use Rattle.pipeline_message.specs.declared.message.Place.{Place}
use Rattle.pipeline_message.specs.Items.{record_at}
use Rattle.file_output.specs.declared.placed.PlacedSet.{PlacedSet}
use Rattle.file_output.specs.Sets.{Body}
use Rattle.file_output.specs.Within.{octets_placed, placed_size}

abbrev pub body_of : PlacedSet → Body
body_of s = record { definition = s.definition.now.value; octets = octets_placed s.octets.now s.places.now; records = length s.places.now }

-- the places have more octets than a set can have, or are too many to be counted
abbrev pub TooLong : List Place → Type 0
TooLong places = (65515 < placed_size places) ⊎ (2 ^ 32 ≤ length places)

-- it is of these records
pub record Holds (definition : Definition) (octets : List ℕ) (places : List Place) (s : PlacedSet) : Type 0 where
  pub is : s.definition.now.value ≡ definition
  pub there : s.octets.now ≡ octets
  pub at : s.places.now ≡ places

-- the octets of the data sets with their headers
abbrev pub placed_sets_size : List PlacedSet → ℕ
placed_sets_size sets = sum_by (λ (s : PlacedSet). 4 + placed_size s.places.now) sets

-- the records of a decoded set are those at the places, at least one
pub record IsPlacedSet (s : PlacedSet) (d : DecodedSet) : Type 0 where
  pub definition : s.definition.now.value ≡ d.definition
  pub records : d.records ≡ map (record_at d.definition.fields s.octets.now) s.places.now
  pub some : 0 < length s.places.now

-- the sets are these decoded ones, one by one
abbrev pub ArePlacedSets : List PlacedSet → List DecodedSet → Type 0
ArePlacedSets [] [] = Unit {0}
ArePlacedSets [] (d ∷ decoded) = ⊥
ArePlacedSets (s ∷ sets) [] = ⊥
ArePlacedSets (s ∷ sets) (d ∷ decoded) = IsPlacedSet s d × ArePlacedSets sets decoded

-- the item is one of a message of this domain and export time with these sets
abbrev pub IsPlacedItem : ℕ → ℕ → List PlacedSet → Item → Type 0
IsPlacedItem domain export sets (Data key d e sequence decoded) = (domain ≡ d) × (export ≡ e) × ArePlacedSets sets decoded
IsPlacedItem domain export sets (Note key transport opened) = ⊥
IsPlacedItem domain export sets (Tick input seconds) = ⊥
