use Rattle.std.proofs.Common.{◌≡◌, ◌++◌, map}
use Rattle.template_manager.specs.Rows.{stream_entry}
use Rattle.template_manager.proofs.ordered.Ordered.rows.Given as goal

abbrev pub invariant-loop-id : goal.invariant-loop-id
invariant-loop-id l = l.rows.items ++ map stream_entry l.id-iterator ≡ map stream_entry l.self
