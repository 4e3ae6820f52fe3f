-- The values of the records of a body as rows of numbers: the tests collect them, to show how a caller walks over records
-- and fields.
use Rattle.std.specs.Prelude.{ℕ, ◌≡◌, List, [], ◌∷◌, length, map, flat_map}
use Rattle.wire_spec.specs.declared.field.FieldSpec.{FieldSpec}
use Rattle.wire_spec.specs.Record.{IsRecord, IsRecords}

-- a value with its place
abbrev pub Placed : Type 0
Placed = ℕ × List ℕ

-- the row of a value: its place, its length, and its octets
abbrev pub row_of : Placed → List ℕ
row_of p = p.0 ∷ length p.1 ∷ p.1

abbrev pub values_of : List Placed → List (List ℕ)
values_of placed = map (λ p. p.1) placed

-- each record has these values
abbrev pub HaveAllValues : List FieldSpec → List (List ℕ) → List (List Placed) → Type 0
HaveAllValues fields [] [] = Unit {0}
HaveAllValues fields (r ∷ records) (p ∷ placed) = IsRecord fields r (values_of p) × HaveAllValues fields records placed
HaveAllValues fields records placed = ⊥

-- the rows are those of all values of a body's records
pub record AreRowsOf (fields : List FieldSpec) (body rows : List ℕ) : Type 0 where
  pub records : List (List ℕ)
  pub placed : List (List Placed)
  pub cut : IsRecords fields body records
  pub each : HaveAllValues fields records placed
  pub are : rows ≡ flat_map (flat_map row_of) placed
