-- The first fault of the tables of a description.
use Rattle.std.specs.Prelude.{ℕ, ◌+◌, ◌-◌, slice_get, Result, Ok, Err, List, [], ◌∷◌, ◌++◌, map, Option, Some, None, option_and_then, option_map, not, Bool, false, if◌then◌else◌, find}
use Rattle.std.specs.List.{list_any, filter}
use Rattle.std.specs.Ordering.{nat_cmp, is_lt}
use Rattle.std.specs.Cmp.Lexicographic.{slice_cmp}
use Rattle.std.specs.Option.{option_or, ok_or, unwrap_or}
use Rattle.std.specs.Str.{bytes_eq}
use Rattle.std.specs.Fmt.{decimal}
use Rattle.toml.specs.Data.{Data, Items, Members, no_members, member, as_str, as_array, as_table}
use Rattle.config_spec.specs.declared.key.Version.{Version}
use Rattle.config_spec.specs.declared.key.Version.TheVariants as V
use Rattle.config_spec.specs.declared.key.Key.{Key}
use Rattle.config_spec.specs.declared.key.Key.TheVariants as K
use Rattle.config_spec.specs.declared.key.TableKind.{TableKind}
use Rattle.config_spec.specs.declared.key.TableKind.TheVariants as T
use Rattle.config_spec.specs.declared.key.TableSort.{TableSort}
use Rattle.config_spec.specs.declared.key.TableSort.TheVariants as Sort
use Rattle.config_spec.specs.declared.key.Choice.{Choice}
use Rattle.config_spec.specs.declared.key.Choice.TheVariants.{By, Always}
use Rattle.config_spec.specs.declared.key_row.KeyRow.{KeyRow}
use Rattle.config_spec.specs.declared.key_row.Shape.{Shape}
use Rattle.config_spec.specs.declared.key_row.Need.{Need}
use Rattle.config_spec.specs.declared.key_row.Need.TheVariants as N
use Rattle.config_spec.specs.declared.key_row.Verdict.{Verdict}
use Rattle.config_spec.specs.declared.key_row.Verdict.TheVariants as R
use Rattle.config_spec.specs.declared.fault.ConfFault.{ConfFault}
use Rattle.config_spec.specs.declared.fault.ConfFault.TheVariants.{UnknownKey, Missing, WrongType, OutOfRange, UnknownPlugin}
use Rattle.config_spec.specs.First.{first_fault}
use Rattle.config_spec.specs.Keys.{versions, word_of, kind_word, choice_of, kinds_of, children_of, rows_of}
use Rattle.config_spec.specs.Fits.{value_at, least_at, items_list, is_table, fits, default_fits}

-- the path to a table: it ends in a dot, but that of the top table is empty
abbrev pub Path : Type 0
Path = List ℕ

-- the path to a table in an array
unfoldable pub below : Path → Key → ℕ → Path
below path key place = path ++ word_of key ++ (46 ∷ []) ++ decimal place ++ (46 ∷ [])

abbrev pub verdict_fault : Path → Verdict → Option ConfFault
verdict_fault at R.Right = None
verdict_fault at R.WrongType = Some (WrongType at)
verdict_fault at R.OutOfRange = Some (OutOfRange at)

-- the fault of a key that is left out: a number that stands for it is judged as one that is there
abbrev pub absent_fault : Path → Members → Shape → Need → Option ConfFault
absent_fault at entries shape N.Required = Some (Missing at)
absent_fault at entries shape N.Optional = None
absent_fault at entries shape (N.Number default) = verdict_fault at (default_fits shape entries default)
absent_fault at entries shape (N.Flag default) = None

-- the fault of a key whose value may not be there
abbrev pub value_fault : Path → Members → KeyRow → Option Data → Option ConfFault
value_fault path entries row None = absent_fault (path ++ word_of row.key) entries row.shape row.need
value_fault path entries row (Some value) = verdict_fault (path ++ word_of row.key) (fits row.shape entries value)

unfoldable pub key_fault : Path → Members → KeyRow → Option ConfFault
key_fault path entries row = value_fault path entries row (value_at row.key entries)

-- the fault of the first key that has one
abbrev pub keys_fault : Path → List KeyRow → Members → Option ConfFault
keys_fault path rows entries = first_fault (map (key_fault path entries) rows)

abbrev pub is_known : List KeyRow → List ℕ → Bool
is_known rows word = list_any (λ row. bytes_eq (word_of row.key) word) rows

-- the keys that a table has
abbrev pub words_of : Members → List (List ℕ)
words_of no_members = []
words_of (member word value entries) = word ∷ words_of entries

-- the earlier of two texts in the order of octets
abbrev pub earlier : List ℕ → Option (List ℕ) → List ℕ
earlier text None = text
earlier text (Some other) = if is_lt (slice_cmp nat_cmp text other) then text else other

-- the least of some texts in the order of octets
abbrev pub least : List (List ℕ) → Option (List ℕ)
least [] = None
least (text ∷ texts) = Some (earlier text (least texts))

abbrev pub unknown_words : List KeyRow → Members → List (List ℕ)
unknown_words rows entries = filter (λ word. not (is_known rows word)) (words_of entries)

-- the fault of the least key that isn't among the rows
unfoldable pub unknown_fault : Path → List KeyRow → Members → Option ConfFault
unknown_fault path rows entries = option_map (λ word. UnknownKey (path ++ word)) (least (unknown_words rows entries))

-- a table's unknown keys, then its keys in their order
abbrev pub own_fault : Path → List KeyRow → Members → Option ConfFault
own_fault path rows entries = option_or (unknown_fault path rows entries) (keys_fault path rows entries)

-- the kind of a word
abbrev pub kind_named : List TableKind → List ℕ → Option TableKind
kind_named kinds word = find (λ kind. bytes_eq (kind_word kind) word) kinds

-- the fault of a word that is no kind
abbrev pub strange : TableSort → Path → ConfFault
strange Sort.Rule at = OutOfRange at
strange _ at = UnknownPlugin at

abbrev pub word_kind : Version → TableSort → Path → Option (List ℕ) → Result TableKind ConfFault
word_kind version sort at None = Err (WrongType at)
word_kind version sort at (Some word) = ok_or (kind_named (kinds_of version sort) word) (strange sort at)

abbrev pub value_kind : Version → TableSort → Path → Option Data → Result TableKind ConfFault
value_kind version sort at None = Err (Missing at)
value_kind version sort at (Some value) = word_kind version sort at (as_str value)

abbrev pub chosen_kind : Version → TableSort → Path → Members → Choice → Result TableKind ConfFault
chosen_kind version sort path entries (By key) = value_kind version sort (path ++ word_of key) (value_at key entries)
chosen_kind version sort path entries (Always kind) = Ok kind

-- the kind of a table, or why it has none
unfoldable pub kind_of : Version → TableSort → Path → Members → Result TableKind ConfFault
kind_of version sort path entries = chosen_kind version sort path entries (choice_of sort)

abbrev pub kind_fault : Version → Path → Members → Result TableKind ConfFault → Option ConfFault
kind_fault version path entries (Err fault) = Some fault
kind_fault version path entries (Ok kind) = own_fault path (rows_of version kind) entries

-- the first fault of a table itself: its kind, then a key that it doesn't have, then key by key
unfoldable pub table_fault : Version → TableSort → Path → Members → Option ConfFault
table_fault version sort path entries = kind_fault version path entries (kind_of version sort path entries)

-- a check says the first fault of a table at a path
abbrev pub Check : Type 0
Check = Path → Members → Option ConfFault

-- what is no table was judged at its array
abbrev pub item_fault : Check → Path → Option Members → Option ConfFault
item_fault check path None = None
item_fault check path (Some entries) = check path entries

-- the first fault of the tables from this place on
abbrev pub items_fault : Check → Path → Key → ℕ → List Data → Option ConfFault
items_fault check path key place [] = None
items_fault check path key place (value ∷ more) =
    option_or (item_fault check (below path key place) (as_table value)) (items_fault check path key (place + 1) more)

abbrev pub items_or_none : Option Items → List Data
items_or_none None = []
items_or_none (Some items) = items_list items

-- the items of the array at a key
abbrev pub items_at : Key → Members → List Data
items_at key entries = items_or_none (option_and_then as_array (value_at key entries))

-- the first fault of the tables in the array at a key
unfoldable pub array_fault : Check → Path → Key → Members → Option ConfFault
array_fault check path key entries = items_fault check path key 0 (items_at key entries)

-- the first fault of the tables in several arrays, one array after the other
abbrev pub arrays_fault : (TableSort → Check) → Path → List (Key × TableSort) → Members → Option ConfFault
arrays_fault check path [] entries = None
arrays_fault check path (child ∷ more) entries =
    option_or (array_fault (check child.1) path child.0 entries) (arrays_fault check path more entries)

abbrev pub inner_fault : (TableSort → Check) → Version → Path → Members → Result TableKind ConfFault → Option ConfFault
inner_fault check version path entries (Err fault) = None
inner_fault check version path entries (Ok kind) = arrays_fault check path (children_of version kind) entries

-- the first fault of a table, and then of the tables in it, each by a check of its own
abbrev pub nested_fault : (TableSort → Check) → Version → TableSort → Check
nested_fault inner version sort path entries = option_or (table_fault version sort path entries) (inner_fault inner version path entries (kind_of version sort path entries))

-- the first fault of a table in an array of the top table: in it stand tables that have none in them
unfoldable pub whole_fault : Version → TableSort → Check
whole_fault V.One sort path entries = nested_fault (table_fault V.One) V.One sort path entries

-- one item, which is a table
abbrev pub is_one_table : List Data → Bool
is_one_table (value ∷ []) = is_table value
is_one_table _ = false

-- the kind of the top table: with a single input it has no key for an order log
unfoldable pub top_kind : Members → TableKind
top_kind entries = if is_one_table (items_at K.Input entries) then T.SingleTop else T.Top

-- the version that a top table names; where it names none, which is a fault, the first
abbrev pub version_of : Members → Version
version_of entries = unwrap_or (slice_get versions (least_at K.Version entries - 1)) V.One

abbrev pub top_fault : Version → Members → Option ConfFault
top_fault version entries = option_or (own_fault [] (rows_of version (top_kind entries)) entries)
    (arrays_fault (whole_fault version) [] (children_of version (top_kind entries)) entries)

-- the first fault of a description's tables: the top table's, then that of each input, each intermediate
-- and each output with the tables in it
unfoldable pub tables_fault : Members → Option ConfFault
tables_fault entries = top_fault (version_of entries) entries
