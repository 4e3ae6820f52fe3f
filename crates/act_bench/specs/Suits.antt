-- What an intermediate is prepared for.
use Rattle.std.specs.Prelude.{List}
use Rattle.wire_spec.specs.declared.field.FieldSpec.{FieldSpec}
use Rattle.config_spec.specs.declared.tables.AnonTable.{AnonTable}
use Rattle.config_spec.specs.declared.tables.FilterTable.{FilterTable}
use Rattle.anonymise_stage.specs.Prepared as anonymiser
use Rattle.anonymise_stage.specs.Table.{Holds}
use Rattle.filter_stage.specs.Prepared as filter
use Rattle.act_bench.specs.declared.work.Prepared.{Prepared}
use Rattle.act_bench.specs.declared.work.Prepared.TheVariants.{Filter, Anonymise}

-- it was prepared of some table for records of these fields
abbrev pub IsFor : List FieldSpec → Prepared → Type 0
IsFor fields (Filter prepared) = (table : FilterTable) × filter.Suits table fields prepared
IsFor fields (Anonymise rows prepared) = (table : AnonTable) × Holds table rows × anonymiser.Suits table fields prepared
