use Rattle.std.proofs.Common.{◌≡◌, drop, map}
use Rattle.text_spec.specs.Builtin.{iana}
use Rattle.element_table.specs.Adding.{rows_added}
use Rattle.element_table.proofs.builtin.all_added.Given as goal

abbrev pub invariant-loop-row : goal.invariant-loop-row
invariant-loop-row l = rows_added l.fn.known (map (λ row. iana row.id row.name.now row.kind) l.rows) ≡ rows_added l.table (map (λ row. iana row.id row.name.now row.kind) (drop l.row-index l.rows))
