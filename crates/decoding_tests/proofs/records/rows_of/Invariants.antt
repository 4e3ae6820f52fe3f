use Rattle.std.proofs.Common.{◌≡◌, List, ℕ}
use Rattle.std.specs.Prelude.{flat_map}
use Rattle.record_iter.specs.Left.{records_left, fields_of_each}
use Rattle.record_iter.specs.Walk.{HaveRecords}
use Rattle.decoding_tests.specs.Shown.{Placed, row_of, HaveAllValues}
use Rattle.decoding_tests.proofs.records.rows_of.Given as goal

abbrev pub invariant-loop-rec : goal.invariant-loop-rec
invariant-loop-rec l = (list : List (List ℕ)) × (placed : List (List Placed)) × HaveRecords l.fn.def.fields l.fn.body (fields_of_each l.rec-iterator) (records_left l.rec-iterator) list
    × HaveAllValues l.fn.def.fields list placed × (l.rows.items ≡ flat_map (flat_map row_of) placed)
