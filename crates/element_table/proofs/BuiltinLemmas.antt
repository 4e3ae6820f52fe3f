-- The built-in rows have no fault.
use Rattle.std.proofs.Common.{◌≡◌, Ok, Result, List, [], refl}
use Rattle.text_spec.specs.declared.element.Element.{Element}
use Rattle.text_spec.specs.Name.{find_element}
use Rattle.text_spec.specs.Builtin.{builtin_rows}
use Rattle.element_spec.specs.declared.fault.TableFault.{TableFault}
use Rattle.element_spec.specs.Names.{has_name}
use Rattle.element_table.specs.Adding.{rows_added}

pub builtin_added : rows_added [] builtin_rows ≡ Ok builtin_rows
unfolding builtin_rows find_element has_name
builtin_added = refl

same_rows : (made rows : List Element) (r : Result (List Element) TableFault) → r ≡ Ok rows → r ≡ Ok made → made ≡ rows
same_rows made rows r e f = cc

pub builtin_only : (start made : List Element) → start ≡ [] → rows_added start builtin_rows ≡ Ok made → made ≡ builtin_rows
builtin_only start made empty e = same_rows made builtin_rows _ builtin_added (rw empty at e)
