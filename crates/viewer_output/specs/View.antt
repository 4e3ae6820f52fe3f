-- The line of a record, prepared by its definition.
use Rattle.std.specs.Prelude.{ℕ, ◌≡◌, List, [], ◌++◌, length, nat_eq, if◌then◌else◌}
use Rattle.wire_spec.specs.declared.field.FieldSpec.{FieldSpec}
use Rattle.wire_spec.specs.Record.{IsRecord}
use Rattle.text_spec.specs.declared.element.Element.{Element}
use Rattle.text_spec.specs.Marks.{space}
use Rattle.text_spec.specs.View.{field_text, view_line}
use Rattle.prepared_lines.specs.Line.{Line, line_text, value_at}

-- a prepared line is that of each record with these fields
pub record Shows (table : List Element) (fields : List FieldSpec) (line : Line) : Type 0 where
  pub fields_are : line.fields ≡ fields
  pub text : (values : List (List ℕ)) → length values ≡ length fields → line_text line values ≡ view_line table fields values

-- the line of a record with these fields is put behind what was there
abbrev pub PutsView : List Element → List FieldSpec → List ℕ → List ℕ → List ℕ → Type 0
PutsView table fields rec before now = (values : List (List ℕ)) × IsRecord fields rec values × (now ≡ before ++ view_line table fields values)

-- what stands before a field, by its number
abbrev pub before_field : ℕ → List ℕ
before_field number = if nat_eq number 0 then [] else space

-- a field by its number, and what stands before it
abbrev pub numbered_text : List Element → FieldSpec → ℕ → List (List ℕ) → List ℕ
numbered_text table field number values = before_field number ++ field_text table (field, value_at values number)
