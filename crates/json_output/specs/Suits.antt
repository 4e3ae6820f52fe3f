-- For which definition, by which elements, lines were prepared.
use Rattle.std.specs.Prelude.{ℕ, ◌≡◌, Bool, List, [], ◌++◌, length, Option, Some, None}
use Rattle.wire_spec.specs.declared.field.FieldSpec.{FieldSpec}
use Rattle.wire_spec.specs.Content.{Definition}
use Rattle.wire_spec.specs.Record.{IsRecord}
use Rattle.text_spec.specs.declared.element.Element.{Element}
use Rattle.prepared_lines.specs.Line.{Line, line_text}
use Rattle.json_output.specs.declared.prepared.Prepared.{Prepared}
use Rattle.json_output.specs.Printed.{printed_text}

-- a line that is printed, or none
abbrev pub text_by : Option Line → List (List ℕ) → List ℕ
text_by None values = []
text_by (Some line) values = line_text line values

-- the fields of the records whose line it is; those that are given, where there is none
abbrev pub fields_by : Option Line → List FieldSpec → List FieldSpec
fields_by None fields = fields
fields_by (Some line) fields = line.fields

-- what was prepared is for records of these fields
abbrev pub IsOf : Definition → Prepared → Type 0
IsOf def prepared = fields_by prepared.line def.fields ≡ def.fields

-- and puts what is printed of each record
pub record Suits (options : Bool) (table : List Element) (def : Definition) (prepared : Prepared) : Type 0 where
  pub of : IsOf def prepared
  pub text : (values : List (List ℕ)) → length values ≡ length def.fields → text_by prepared.line values ≡ printed_text options table def values

-- what was prepared puts its line of a record behind what was there
abbrev pub PutsBy : Definition → Prepared → List ℕ → List ℕ → List ℕ → Type 0
PutsBy def prepared rec before now = (values : List (List ℕ)) × IsRecord def.fields rec values × (now ≡ before ++ text_by prepared.line values)
