use Rattle.std.proofs.Common.{◌≡◌}
use Rattle.record_iter.specs.Left.{fields_of_each}
use Rattle.text_run.proofs.listing.put_records.Given as goal

abbrev pub invariant-loop-rec : goal.invariant-loop-rec
invariant-loop-rec l = fields_of_each l.rec-iterator ≡ l.fn.def.fields
