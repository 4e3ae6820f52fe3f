-- What the definitions of records say, in other words.
use Rattle.std.specs.Prelude.{◌≡◌, ◌≢◌, ℕ, List, [], ◌∷◌, ◌++◌, length, zip, flat_map, if◌then◌else◌, IsTrue}
use Rattle.std.specs.List.{list_any, IsDistinct}
use Rattle.col_base.specs.declared.base.Kind.{Kind}
use Rattle.wire_spec.specs.declared.field.FieldSpec.{FieldSpec}
use Rattle.text_spec.specs.declared.element.Element.{Element}
use Rattle.text_spec.specs.Marks.{line_end}
use Rattle.text_spec.specs.Value.{before_end_zeros}
use Rattle.text_spec.specs.Fields.{Pair, pair_of, is_of, is_pair, different, are_single}
use Rattle.text_spec.specs.Json.{Writer, json_line, line_by, line_start, single_text, single_by}

-- the different elements are those of the fields
abbrev pub DifferentOccur : Type 0
DifferentOccur = (pair : Pair) (fields : List FieldSpec) → list_any (is_pair pair) (different fields) ≡ list_any (is_of pair) fields

-- and each is there once
abbrev pub DifferentDiffer : Type 0
DifferentDiffer = (fields : List FieldSpec) → IsDistinct is_pair (different fields)

-- one field more adds its element at the end, if no field before is of it
abbrev pub DifferentGrow : Type 0
DifferentGrow = (fields : List FieldSpec) (field : FieldSpec)
    → different (fields ++ field ∷ []) ≡ different fields ++ (if list_any (is_of (pair_of field)) fields then [] else pair_of field ∷ [])

-- where no two fields are of one element and none is padding, the line is the fields one by one
abbrev pub SinglesOneByOne : Type 0
SinglesOneByOne = (table : List Element) (kind : Kind) (fields : List FieldSpec) (values : List (List ℕ))
    → IsTrue (are_single fields) → length values ≡ length fields
    → json_line table kind fields values ≡ line_start kind ++ flat_map (single_text table) (zip fields values) ++ line_end

-- and it is so however values are written
abbrev pub AllOneByOne : Type 0
AllOneByOne = (write : Writer) (table : List Element) (kind : Kind) (fields : List FieldSpec) (values : List (List ℕ))
    → IsTrue (are_single fields) → length values ≡ length fields
    → line_by write table kind fields values ≡ line_start kind ++ flat_map (single_by write table) (zip fields values) ++ line_end

-- what is cut from the end of a text are zero octets
abbrev pub ZerosAreCut : Type 0
ZerosAreCut = (octets : List ℕ) → before_end_zeros (octets ++ 0 ∷ []) ≡ before_end_zeros octets

-- and nothing else is
abbrev pub OthersStay : Type 0
OthersStay = (octets : List ℕ) (octet : ℕ) → octet ≢ 0 → before_end_zeros (octets ++ octet ∷ []) ≡ octets ++ octet ∷ []
