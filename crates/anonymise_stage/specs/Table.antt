-- What a table's rows are prepared to.
use Rattle.std.specs.Prelude.{ℕ, ◌≡◌, List, Option, None, Some, map}
use Rattle.config_spec.specs.declared.tables.AnonRow.{AnonRow}
use Rattle.config_spec.specs.Texts.{masked}
use Rattle.act_spec.specs.Bits.{in_place}
use Rattle.config_spec.specs.declared.tables.AnonTable.{AnonTable}
use Rattle.anonymise_stage.specs.declared.row_table.RowTable.{RowTable}
use Rattle.anonymise_stage.specs.Segments.{AreSegments, row_of}

-- The table's rows and bits, with the segments of the addresses of four and of sixteen octets.
pub record Holds (table : AnonTable) (prepared : RowTable) : Type 0 where
  pub rows : map row_of prepared.rows.items ≡ table.rows
  pub cut4 : prepared.cut4 ≡ table.cut4
  pub cut6 : prepared.cut6 ≡ table.cut6
  pub four : AreSegments 4 prepared.rows.items prepared.four.items
  pub sixteen : AreSegments 16 prepared.rows.items prepared.sixteen.items

-- an address by the row that agrees best, if one does; else so many of its bits stay
abbrev pub changed_to : ℕ → Option AnonRow → List ℕ → List ℕ
changed_to bits None value = masked bits value
changed_to bits (Some row) value = in_place row.from.bits row.to value
