use Rattle.std.proofs.Common.{◌≡◌, ◌++◌}
use Rattle.template_manager.specs.Rows.{timed_rows}
use Rattle.template_manager.proofs.table.timed_rows.Given as goal

abbrev pub invariant-loop-id : goal.invariant-loop-id
invariant-loop-id l = l.rows.items ++ timed_rows l.id-iterator ≡ timed_rows l.history
