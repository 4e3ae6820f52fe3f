-- The elements that TOML texts add to those that are known, or the first fault.
use Rattle.std.specs.Prelude.{ℕ, ◌+◌, Bool, ◌&&◌, nat_le, is_some, List, [], ◌∷◌, ◌++◌, length, Option, Some, None, Result, Ok, Err, if◌then◌else◌}
use Rattle.std.specs.List.{list_all}
use Rattle.std.specs.Str.{is_utf8}
use Rattle.toml.specs.Parse.{parse_document}
use Rattle.toml.specs.Data.{Data, Items, no_items, item, as_array, Members, get_member, as_table}
use Rattle.text_spec.specs.declared.element.Element.{Element}
use Rattle.text_spec.specs.Name.{find_element}
use Rattle.text_spec.specs.Builtin.{builtin_rows}
use Rattle.element_spec.specs.declared.key.Key.TheVariants as K
use Rattle.element_spec.specs.declared.fault.TableFault.{TableFault}
use Rattle.element_spec.specs.declared.fault.TableFault.TheVariants.{NotToml, BadRow, Duplicate, DuplicateName}
use Rattle.element_spec.specs.Faults.{and_then}
use Rattle.element_spec.specs.Words.{word_of, document_keys}
use Rattle.element_spec.specs.Names.{has_name}
use Rattle.element_spec.specs.Rows.{are_known, row_of}

-- the rows with one more, whose pair and whose name are new
abbrev pub row_added : ℕ → List Element → Element → Result (List Element) TableFault
row_added place rows element = if is_some (find_element element.pen element.id rows) then Err (Duplicate element.pen element.id)
    else if has_name element.prefix element.name rows then Err (DuplicateName place)
    else Ok (rows ++ element ∷ [])

abbrev pub result_added : ℕ → List Element → Result Element TableFault → Result (List Element) TableFault
result_added place rows (Err fault) = Err fault
result_added place rows (Ok element) = row_added place rows element

abbrev pub table_added : ℕ → List Element → Option Members → Result (List Element) TableFault
table_added place rows None = Err (BadRow place)
table_added place rows (Some members) = result_added place rows (row_of place members)

-- the rows with that of a value, which stands at this place
unfoldable pub value_added : ℕ → List Element → Data → Result (List Element) TableFault
value_added place rows value = table_added place rows (as_table value)

-- the rows with those of values, which stand from this place on
abbrev pub values_added : ℕ → List Element → List Data → Result (List Element) TableFault
values_added place rows [] = Ok rows
values_added place rows (value ∷ more) = and_then (value_added place rows value) (λ longer. values_added (place + 1) longer more)

unfoldable pub items_list : Items → List Data
items_list no_items = []
items_list (item value more) = value ∷ items_list more

-- tables alone, and at most 65,536
abbrev pub are_tables : List Data → Bool
are_tables values = list_all (λ value. is_some (as_table value)) values && nat_le (length values) 65536

abbrev pub if_tables : List Data → Option (List Data)
if_tables values = if are_tables values then Some values else None

abbrev pub array_tables : Option Items → Option (List Data)
array_tables None = None
array_tables (Some items) = if_tables (items_list items)

abbrev pub data_tables : Option Data → Option (List Data)
data_tables None = Some []
data_tables (Some value) = array_tables (as_array value)

-- the tables of a document that has no key but `element`
unfoldable pub document_tables : Members → Option (List Data)
document_tables members = if are_known document_keys members then data_tables (get_member (word_of K.Element) members) else None

abbrev pub tables_added : List Element → Option (List Data) → Result (List Element) TableFault
tables_added rows None = Err (BadRow 0)
tables_added rows (Some values) = values_added 0 rows values

-- the finished tree of octets
abbrev pub tree_of : List ℕ → Option Members
tree_of octets = if is_utf8 octets then parse_document octets else None

abbrev pub tree_added : List Element → Option Members → Result (List Element) TableFault
tree_added rows None = Err NotToml
tree_added rows (Some members) = tables_added rows (document_tables members)

-- the rows with those of a text behind them, or the text's first fault
unfoldable pub text_added : List Element → List ℕ → Result (List Element) TableFault
text_added rows octets = tree_added rows (tree_of octets)

-- the built-in rows with those of each text behind them, or the first fault
abbrev pub texts_added : List Element → List (List ℕ) → Result (List Element) TableFault
texts_added rows [] = Ok rows
texts_added rows (octets ∷ more) = and_then (text_added rows octets) (λ longer. texts_added longer more)

unfoldable pub element_table : List (List ℕ) → Result (List Element) TableFault
element_table texts = texts_added builtin_rows texts
