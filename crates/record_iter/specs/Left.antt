-- What callers see of a walk: what is left of it.
use Rattle.std.specs.Prelude.{ℕ, List}
use Rattle.wire_spec.specs.declared.field.FieldSpec.{FieldSpec}
use Rattle.record_iter.specs.declared.record_walk.Records.{Records}
use Rattle.record_iter.specs.declared.field_walk.Fields.{Fields}

-- the records that are left, with the padding
abbrev pub records_left : Records → List ℕ
records_left records = records.rest.now

-- the fields that each of them has
abbrev pub fields_of_each : Records → List FieldSpec
fields_of_each records = records.fields.now

-- the fields that are left of a record
abbrev pub fields_left : Fields → List FieldSpec
fields_left fields = fields.fields.now

-- their octets
abbrev pub octets_left : Fields → List ℕ
octets_left fields = fields.rest.now

-- the place of these octets in the record
abbrev pub place_of : Fields → ℕ
place_of fields = fields.at
