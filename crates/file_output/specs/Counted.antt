-- Sets whose records are counted.
use Rattle.std.specs.Prelude.{ℕ, ◌≡◌, ◌<◌, List, [], ◌∷◌, length}
use Rattle.wire_spec.specs.Record.{IsRecords, shortest}
use Rattle.file_output.specs.declared.file_set.FileSet.{FileSet}
use Rattle.file_output.specs.declared.file_set.CountedSet.{CountedSet}
use Rattle.file_output.specs.Sets.{Body}

abbrev pub counted_body : CountedSet → Body
counted_body s = record { definition = s.definition.now.value; octets = s.octets.now; records = s.records }

-- one set with the number of its records
pub record IsCounted (s : FileSet) (counted : CountedSet) : Type 0 where
  pub definition : counted.definition.now.value ≡ s.def.value
  pub octets : counted.octets.now ≡ s.octets
  pub records : (list : List (List ℕ)) → IsRecords s.def.value.fields s.octets list → counted.records ≡ length list
  pub shortest : 0 < shortest s.def.value.fields

-- those of each, one by one
abbrev pub AreCounted : List FileSet → List CountedSet → Type 0
AreCounted [] [] = Unit {0}
AreCounted [] (c ∷ counted) = ⊥
AreCounted (s ∷ sets) [] = ⊥
AreCounted (s ∷ sets) (c ∷ counted) = IsCounted s c × AreCounted sets counted
