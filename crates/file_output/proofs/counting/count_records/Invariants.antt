use Rattle.std.proofs.Common.{◌≡◌, ◌≤◌, ◌+◌, List, ℕ, length}
use Rattle.record_iter.specs.Left.{records_left, fields_of_each}
use Rattle.record_iter.specs.Walk.{HaveRecords}
use Rattle.file_output.proofs.counting.count_records.Given as goal

-- the records so far, each of which has an octet
abbrev pub invariant-loop-record : goal.invariant-loop-record
invariant-loop-record l = (list : List (List ℕ)) × HaveRecords l.fn.definition.fields l.fn.octets (fields_of_each l._record-iterator) (records_left l._record-iterator) list
    × (l.count ≡ length list) × (l.count + length (records_left l._record-iterator) ≤ length l.fn.octets)
