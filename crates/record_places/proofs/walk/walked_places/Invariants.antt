use Rattle.std.proofs.Common.{◌≡◌, ◌+◌, ℕ, List, length}
use Rattle.std.specs.List.{concat}
use Rattle.record_iter.specs.Left.{fields_of_each, records_left}
use Rattle.record_iter.specs.Walk.{HaveRecords}
use Rattle.record_places.specs.Places.{places_from}
use Rattle.record_places.proofs.walk.walked_places.Given as goal

abbrev pub invariant-loop-record : goal.invariant-loop-record
invariant-loop-record l = (list : List (List ℕ)) × HaveRecords l.fn.def.fields l.fn.body (fields_of_each l.record-iterator) (records_left l.record-iterator) list
    × (l.places.items ≡ places_from l.fn.start list) × (l.at ≡ l.fn.start + length (concat list))
