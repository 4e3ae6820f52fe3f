-- Sets whose octets are joined already, and the items whose records they are.
use Rattle.std.specs.Prelude.{ℕ, ◌≡◌, ◌≢◌, ◌<◌, ◌+◌, List, [], ◌∷◌, length, flat_map, sum_by}
use Rattle.std.specs.List.{AllByRecursion, concat}
use Rattle.wire_spec.specs.Record.{IsSomeRecord}
use Rattle.run_spec.specs.Outcome.{DecodedSet}
use Rattle.run_spec.specs.Work.{Item}
use Rattle.run_spec.specs.Work.Item.{Note, Tick, Data}
use Rattle.file_output.specs.declared.file_set.FileSet.{FileSet}

-- the octets are records of the definition, at least one, and nothing else
pub record HasRecords (s : FileSet) : Type 0 where
  pub list : List (List ℕ)
  pub each : AllByRecursion (IsSomeRecord s.def.value.fields) list
  pub whole : s.octets ≡ concat list
  pub some : list ≢ []

-- the octets of the data sets with their headers
abbrev pub file_sets_size : List FileSet → ℕ
file_sets_size sets = sum_by (λ (s : FileSet). 4 + length s.octets) sets

-- the records of a decoded set are those of the octets, at least one
pub record IsFileSet (s : FileSet) (d : DecodedSet) : Type 0 where
  pub definition : s.def.value ≡ d.definition
  pub octets : s.octets ≡ flat_map (λ r. r.octets) d.records
  pub each : AllByRecursion (λ r. IsSomeRecord d.definition.fields r.octets) d.records
  pub some : 0 < length d.records

-- the sets are these decoded ones, one by one
abbrev pub AreFileSets : List FileSet → List DecodedSet → Type 0
AreFileSets [] [] = Unit {0}
AreFileSets [] (d ∷ decoded) = ⊥
AreFileSets (s ∷ sets) [] = ⊥
AreFileSets (s ∷ sets) (d ∷ decoded) = IsFileSet s d × AreFileSets sets decoded

-- the item is one of a message of this domain and export time with these sets
abbrev pub IsFileItem : ℕ → ℕ → List FileSet → Item → Type 0
IsFileItem domain export sets (Data key d e sequence decoded) = (domain ≡ d) × (export ≡ e) × AreFileSets sets decoded
IsFileItem domain export sets (Note key transport opened) = ⊥
IsFileItem domain export sets (Tick input seconds) = ⊥
