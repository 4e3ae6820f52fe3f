use Rattle.text_spec.specs.Builtin.{builtin_rows}
use Rattle.element_table.proofs.BuiltinLemmas.{builtin_only}
use Rattle.element_table.proofs.elements.Elements.builtin.Goals as goal

pub returns-in-Ok : goal.returns-in-Ok
unfolding builtin_rows
returns-in-Ok c = builtin_only c.new.result c.in-Ok.table c.new.ensures c.in-Ok.ensures.ok
