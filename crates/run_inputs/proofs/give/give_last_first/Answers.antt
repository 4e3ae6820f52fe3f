use Rattle.std.proofs.Common.{rules}
use Rattle.run_inputs.proofs.MadeLemmas.{one_back}
use Rattle.run_inputs.proofs.give.give_last_first.Goals as goal
use Rattle.std.proofs.Common.{◌∙◌}

pub loop-input-preserved : goal.loop-input-preserved
loop-input-preserved g c = record {
  given = one_back c.loop-input.sources.items c.put.new.values.items c.pop.new.self.items c.loop-input.inputs.items c.in-Some.input c.back.result c.put.ensures.put c.back.ensures c.in-Some.ensures.items ∙ c.loop-input.invariant.given;
  room = search rules;
}
