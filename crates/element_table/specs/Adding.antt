-- Rows that are added one after another.
use Rattle.std.specs.Prelude.{List, [], ◌∷◌, Result, Ok}
use Rattle.text_spec.specs.declared.element.Element.{Element}
use Rattle.element_spec.specs.declared.fault.TableFault.{TableFault}
use Rattle.element_spec.specs.Faults.{and_then}
use Rattle.element_spec.specs.Table.{row_added}

abbrev pub rows_added : List Element → List Element → Result (List Element) TableFault
rows_added known [] = Ok known
rows_added known (row ∷ rows) = and_then (row_added 0 known row) (λ longer. rows_added longer rows)
