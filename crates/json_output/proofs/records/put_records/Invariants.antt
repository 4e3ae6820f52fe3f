use Rattle.record_iter.specs.Left.{records_left, fields_of_each}
use Rattle.json_output.proofs.RecordsLemmas.{HaveLines}
use Rattle.json_output.proofs.records.put_records.Given as goal

abbrev pub invariant-loop-rec : goal.invariant-loop-rec
invariant-loop-rec l = HaveLines l.fn.def l.fn.prepared l.fn.body (fields_of_each l.rec-iterator) (records_left l.rec-iterator) l.fn.lines l.lines
