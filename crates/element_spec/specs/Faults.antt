-- Faults of element tables.
use Rattle.std.specs.Prelude.{◌≡◌, ℕ, List, ◌++◌, codes, decimal, Result, Ok, Err}
use Rattle.text_spec.specs.declared.element.Element.{Element}
use Rattle.element_spec.specs.declared.fault.TableFault.{TableFault}
use Rattle.element_spec.specs.declared.fault.TableFault.TheVariants.{NotToml, BadRow, BadType, Duplicate, DuplicateName, NoMemory}

-- want of memory may come at any call
abbrev pub IsMemory : TableFault → Type 0
IsMemory fault = fault ≡ NoMemory

-- what comes after rows that have no fault
abbrev pub and_then : Result (List Element) TableFault → (List Element → Result (List Element) TableFault) → Result (List Element) TableFault
and_then (Err fault) next = Err fault
and_then (Ok rows) next = next rows

-- how a fault is printed
unfoldable pub fault_text : TableFault → List ℕ
fault_text NotToml = codes "not TOML"
fault_text (BadRow place) = codes "bad row " ++ decimal place
fault_text (BadType place) = codes "bad type " ++ decimal place
fault_text (Duplicate pen id) = codes "duplicate " ++ (decimal pen ++ (codes " " ++ decimal id))
fault_text (DuplicateName place) = codes "duplicate name " ++ decimal place
fault_text NoMemory = codes "no memory"
