-- The text of sets that is put.
use Rattle.std.specs.Prelude.{ℕ, ◌≡◌, List, ◌++◌, length}
use Rattle.std.specs.List.{flat_map}
use Rattle.run_spec.specs.Outcome.{DecodedSet}
use Rattle.run_spec.specs.View.{count_records}
use Rattle.text_forms.specs.Made.{Made}
use Rattle.text_forms.specs.Kind.{set_text}

-- the text of a set is put behind what was there, and its records are counted
pub record PutsSet (made : Made) (d : DecodedSet) (before now : List ℕ) (count : ℕ) : Type 0 where
  pub text : now ≡ before ++ set_text made.kind made.elements d
  pub counted : count ≡ length d.records

-- the text of the sets of a message, and their records
pub record PutsSets (made : Made) (sets : List DecodedSet) (before now : List ℕ) (count : ℕ) : Type 0 where
  pub text : now ≡ before ++ flat_map (set_text made.kind made.elements) sets
  pub counted : count ≡ count_records sets
