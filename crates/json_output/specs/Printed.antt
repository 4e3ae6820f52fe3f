-- What is printed of records, in an output that prints those of options templates or leaves them out.
use Rattle.std.specs.Prelude.{ℕ, ◌≡◌, Bool, if◌then◌else◌, List, [], ◌++◌, length}
use Rattle.std.specs.List.{flat_map}
use Rattle.wire_spec.specs.Content.{Definition}
use Rattle.wire_spec.specs.Record.{IsRecord}
use Rattle.text_spec.specs.declared.element.Element.{Element}
use Rattle.text_spec.specs.Json.{json_line}
use Rattle.run_spec.specs.Records.{Record}
use Rattle.run_spec.specs.Result.{record_text, is_printed}
use Rattle.prepared_lines.specs.Line.{Line, line_text}
use Rattle.prepared_lines.specs.Front.{GrowsByFront}

-- of a record, by its values
abbrev pub printed_text : Bool → List Element → Definition → List (List ℕ) → List ℕ
printed_text options table def values = if is_printed options def.kind then json_line table def.kind def.fields values else []

-- a line puts that of each record
pub record IsJson (table : List Element) (def : Definition) (line : Line) : Type 0 where
  pub fields : line.fields ≡ def.fields
  pub text : (values : List (List ℕ)) → length values ≡ length def.fields → line_text line values ≡ json_line table def.kind def.fields values

-- of the records of a set
abbrev pub records_text : Bool → List Element → Definition → List Record → List ℕ
records_text options table def records = if is_printed options def.kind then flat_map (record_text table def) records else []

-- what is printed of a record is put behind what was there
abbrev pub PutsRecord : Bool → List Element → Definition → List ℕ → List ℕ → List ℕ → Type 0
PutsRecord options table def rec before now = (values : List (List ℕ)) × IsRecord def.fields rec values × (now ≡ before ++ printed_text options table def values)

-- a front of it is
abbrev pub PutsFront : Bool → List Element → Definition → List ℕ → List ℕ → List ℕ → Type 0
PutsFront options table def rec before now = (values : List (List ℕ)) × IsRecord def.fields rec values × GrowsByFront before now (printed_text options table def values)
