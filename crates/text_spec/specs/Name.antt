-- Elements by enterprise number and ID (RFC 7011, section 3.2), and their names.
use Rattle.std.specs.Prelude.{ℕ, Bool, ◌&&◌, ◌==◌, List, ◌++◌, Option, Some, None, option_map, find, decimal}
use Rattle.text_spec.specs.declared.element.Element.{Element}
use Rattle.text_spec.specs.declared.element.ElementType.{ElementType}
use Rattle.text_spec.specs.Marks.{colon, enterprise_mark, id_mark}

abbrev pub is_at : ℕ → ℕ → Element → Bool
is_at pen id element = pen == element.pen && id == element.id

-- the first row of the pair
unfoldable pub find_element : ℕ → ℕ → List Element → Option Element
find_element pen id table = find (is_at pen id) table

-- prefix, colon, name
abbrev pub printed_name : Element → List ℕ
printed_name element = element.prefix ++ colon ++ element.name

-- the name of an element without a row: its enterprise number and its ID
abbrev pub number_name : ℕ → ℕ → List ℕ
number_name pen id = enterprise_mark ++ decimal pen ++ id_mark ++ decimal id

abbrev pub name_of : Option Element → ℕ → ℕ → List ℕ
name_of (Some element) pen id = printed_name element
name_of None pen id = number_name pen id

-- the name that a table gives to a pair
unfoldable pub name_text : List Element → ℕ → ℕ → List ℕ
name_text table pen id = name_of (find_element pen id table) pen id

-- the type that a table gives to a pair
unfoldable pub type_at : List Element → ℕ → ℕ → Option ElementType
type_at table pen id = option_map (λ element. element.kind) (find_element pen id table)
