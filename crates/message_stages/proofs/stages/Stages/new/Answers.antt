use Rattle.message_stages.proofs.stages.Stages.new.Goals as goal

pub invariant_of-result : goal.invariant_of-result
invariant_of-result c = c.new.ensures c.in_ok-stages.stages.items
