-- Known tables, to which the definition is held.
use Rattle.std.specs.Prelude.{◌≡◌, ℕ, List, [], ◌∷◌, ◌++◌, codes, Ok, Err}
use Rattle.text_spec.specs.Builtin.{builtin_rows}
use Rattle.text_spec.specs.Examples.{enterprise_row}
use Rattle.element_spec.specs.declared.fault.TableFault.TheVariants.{BadType, Duplicate}
use Rattle.element_spec.specs.Table.{text_added}

-- one row, that of an element of enterprise 9
abbrev pub one_row : List ℕ
one_row = codes "element = [{ pen = 9, id = 7, prefix = \"cisco\", name = \"thing\", type = \"unsigned16\" }]"

-- and a second one, of a type that is none
abbrev pub unknown_type : List ℕ
unknown_type = codes "element = [{ pen = 9, id = 7, prefix = \"cisco\", name = \"thing\", type = \"unsigned16\" }, { pen = 9, id = 8, prefix = \"cisco\", name = \"other\", type = \"unsigned128\" }]"

abbrev pub HasOneRow : Type 0
HasOneRow = text_added builtin_rows one_row ≡ Ok (builtin_rows ++ enterprise_row ∷ [])

abbrev pub IsDuplicateTwice : Type 0
IsDuplicateTwice = text_added (builtin_rows ++ enterprise_row ∷ []) one_row ≡ Err (Duplicate 9 7)

abbrev pub HasBadType : Type 0
HasBadType = text_added builtin_rows unknown_type ≡ Err (BadType 1)

abbrev pub HasNoRows : Type 0
HasNoRows = text_added builtin_rows [] ≡ Ok builtin_rows
