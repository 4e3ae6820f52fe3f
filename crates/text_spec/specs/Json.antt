-- The line of a record in JSON (RFC 8259, section 4).
use Rattle.std.specs.Prelude.{ℕ, List, [], ◌∷◌, ◌++◌, zip, flat_map}
use Rattle.std.specs.List.{join_by}
use Rattle.col_base.specs.declared.base.Kind.{Kind}
use Rattle.col_base.specs.declared.base.Kind.TheVariants.{Template, Options}
use Rattle.wire_spec.specs.declared.field.FieldSpec.{FieldSpec}
use Rattle.text_spec.specs.declared.element.Element.{Element}
use Rattle.text_spec.specs.Marks.{comma, before_name, after_name, list_start, list_end, entry_start, options_start, line_end}
use Rattle.text_spec.specs.Name.{name_text, type_at}
use Rattle.text_spec.specs.Value.{value_text}
use Rattle.text_spec.specs.Fields.{Pair, pair_of, printed_pairs, values_at}

-- what begins the line of a record by a Template Record or an Options Template Record
abbrev pub line_start : Kind → List ℕ
line_start Template = entry_start
line_start Options = options_start

-- one value, or a list of two or more
abbrev pub values_text : (List ℕ → List ℕ) → List (List ℕ) → List ℕ
values_text text (value ∷ []) = text value
values_text text values = list_start ++ join_by text comma values ++ list_end

-- the name of an element as a member of the line
abbrev pub member_name : List Element → Pair → List ℕ
member_name table pair = before_name ++ name_text table pair.pen pair.id ++ after_name

-- how the value of an element is written
abbrev pub Writer : Type 0
Writer = Pair → List ℕ → List ℕ

-- by the type of the element
abbrev pub text_at : List Element → Writer
text_at table pair value = value_text (type_at table pair.pen pair.id) value

-- an element with its values, each written so
abbrev pub member_by : Writer → List Element → List (FieldSpec × List ℕ) → Pair → List ℕ
member_by write table items pair = member_name table pair ++ values_text (write pair) (values_at pair items)

abbrev pub member_text : List Element → List (FieldSpec × List ℕ) → Pair → List ℕ
member_text table items pair = member_by (text_at table) table items pair

-- the line of a record from its fields and its values, one value for each field, each written so
abbrev pub line_by : Writer → List Element → Kind → List FieldSpec → List (List ℕ) → List ℕ
line_by write table kind fields values = line_start kind
    ++ flat_map (member_by write table (zip fields values)) (printed_pairs fields)
    ++ line_end

-- the line of a record whose values are written by the types of their elements
unfoldable pub json_line : List Element → Kind → List FieldSpec → List (List ℕ) → List ℕ
json_line table kind fields values = line_by (text_at table) table kind fields values

-- a field with its value, where no other field is of its element
abbrev pub single_by : Writer → List Element → FieldSpec × List ℕ → List ℕ
single_by write table item = member_name table (pair_of item.0) ++ write (pair_of item.0) item.1

abbrev pub single_text : List Element → FieldSpec × List ℕ → List ℕ
single_text table item = single_by (text_at table) table item
