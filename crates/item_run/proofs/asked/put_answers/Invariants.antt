use Rattle.run_input.specs.Inputs.{IsRight}
use Rattle.item_run.proofs.asked.put_answers.Given as goal

abbrev pub invariant-loop : goal.invariant-loop
invariant-loop g l = IsRight g.S.Source.left g.S.Source.faults l.input
