use Rattle.std.proofs.Common.{◌≡◌}
use Rattle.record_iter.specs.Left.{fields_of_each}
use Rattle.lines_run.proofs.made.lines_alone.Given as goal

abbrev pub invariant-loop-rec : goal.invariant-loop-rec
invariant-loop-rec l = fields_of_each l.rec-iterator ≡ l.fn.def.fields
