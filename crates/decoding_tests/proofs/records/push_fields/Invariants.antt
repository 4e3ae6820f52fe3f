use Rattle.std.proofs.Common.{◌≡◌, ◌++◌, List}
use Rattle.std.specs.Prelude.{flat_map}
use Rattle.record_iter.specs.Left.{fields_left, octets_left, place_of}
use Rattle.record_iter.specs.Walk.{HaveValues}
use Rattle.decoding_tests.specs.Shown.{Placed, row_of, values_of}
use Rattle.decoding_tests.proofs.records.push_fields.Given as goal

abbrev pub invariant-loop-field : goal.invariant-loop-field
invariant-loop-field l = (placed : List Placed) × HaveValues l.fn.def.fields l.fn.rec (fields_left l.field-iterator) (place_of l.field-iterator) (octets_left l.field-iterator) (values_of placed)
    × (l.rows.items ≡ l.fn.rows.items ++ flat_map row_of placed)
