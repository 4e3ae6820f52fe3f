-- What is done to one field of a record.
use Rattle.std.specs.Prelude.{ℕ, ◌≡◌, ◌+◌, ◌≤◌, List, ◌++◌, length, take, drop}
use Rattle.wire_spec.specs.declared.field.FieldSpec.{FieldSpec}
use Rattle.wire_spec.specs.Values.{lead, size_of, value_of}
use Rattle.config_spec.specs.declared.tables.AnonTable.{AnonTable}
use Rattle.act_spec.specs.Anonymise.{hidden_value}

-- The value of the field that begins at an octet of a record was changed. What stands before the value and behind it, its
-- length too, stayed; and there the next field begins.
pub record IsFieldHidden (table : AnonTable) (f : FieldSpec) (at : ℕ) (old new : List ℕ) (to : ℕ) : Type 0 where
  pub goes_on : to ≡ at + size_of f.len (drop at old)
  pub front : at + lead f.len (drop at old) ≤ to
  pub inside : to ≤ length old
  pub octets : new ≡ take (at + lead f.len (drop at old)) old ++ (hidden_value table f (value_of f.len (drop at old)) ++ drop to old)
