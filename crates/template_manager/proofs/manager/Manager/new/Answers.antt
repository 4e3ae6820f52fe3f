use Rattle.std.proofs.Common.{◌-◌, arith}
use Rattle.template_manager.proofs.manager.Manager.new.Goals as goal

pub invariant_of-result : goal.invariant_of-result
invariant_of-result c = (let e = c.new-3.ensures.len in omega (arith, e), c.new-2.ensures.from (0 - c.args.life.late))
