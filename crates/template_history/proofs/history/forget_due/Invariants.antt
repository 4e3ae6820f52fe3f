use Rattle.std.proofs.Common.{◌≡◌, ℕ}
use Rattle.template_history.specs.Due.{due_count}
use Rattle.template_history.specs.Row.{kept_from}
use Rattle.template_history.specs.Versions.{row_of, time_of, AreKept}
use Rattle.template_history.proofs.history.forget_due.Given as goal

-- what is left to forget is what was
abbrev pub invariant-loop-id : goal.invariant-loop-id
invariant-loop-id l = AreKept l.rows.entries l.due × ((id : ℕ) → kept_from time_of l.before (row_of l.rows.entries id) ≡ kept_from time_of l.before (row_of l.fn.rows.entries id))

abbrev pub decreases-loop-id : goal.decreases-loop-id
decreases-loop-id l = due_count l.due
