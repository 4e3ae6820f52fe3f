use Rattle.std.proofs.Common.{take}
use Rattle.collect_call.specs.Runs.{AreMade}
use Rattle.collect_call.proofs.prepare.texts_of.Given as goal

abbrev pub invariant-loop-output : goal.invariant-loop-output
invariant-loop-output l = AreMade l.fn.elements.value (take l.output-index l.outputs) l.texts.items
