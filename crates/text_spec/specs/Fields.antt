-- The elements of a record's fields (RFC 7011, sections 3.2 and 8): a template may name one element several times.
use Rattle.std.specs.Prelude.{ℕ, Bool, true, not, ◌&&◌, ◌==◌, List, [], ◌∷◌, map, filter}
use Rattle.std.specs.List.{list_any}
use Rattle.wire_spec.specs.declared.field.FieldSpec.{FieldSpec}

-- an element, by its enterprise number and ID
pub record Pair : Type 0 where
  pub pen : ℕ
  pub id : ℕ

abbrev pub pair_of : FieldSpec → Pair
pair_of field = record { pen = field.pen; id = field.id }

abbrev pub is_pair : Pair → Pair → Bool
is_pair pair other = pair.pen == other.pen && pair.id == other.id

-- whether a field is of this element
abbrev pub is_of : Pair → FieldSpec → Bool
is_of pair field = is_pair pair (pair_of field)

-- IANA's element 210, paddingOctets, fills records up and says nothing
abbrev pub is_padding : Pair → Bool
is_padding pair = pair.pen == 0 && pair.id == 210

-- the different elements of the fields, in order of first occurrence
abbrev pub different : List FieldSpec → List Pair
different [] = []
different (field ∷ fields) = pair_of field ∷ filter (λ other. not (is_pair (pair_of field) other)) (different fields)

-- those that are printed
abbrev pub printed_pairs : List FieldSpec → List Pair
printed_pairs fields = filter (λ pair. not (is_padding pair)) (different fields)

-- the values of an element's fields, in order: one value stands beside each field
abbrev pub values_at : Pair → List (FieldSpec × List ℕ) → List (List ℕ)
values_at pair items = map (λ item. item.1) (filter (λ item. is_of pair item.0) items)

-- whether each field is printed for itself: no two are of one element, and none is padding
abbrev pub are_single : List FieldSpec → Bool
are_single [] = true
are_single (field ∷ fields) = not (is_padding (pair_of field)) && not (list_any (is_of (pair_of field)) fields) && are_single fields
