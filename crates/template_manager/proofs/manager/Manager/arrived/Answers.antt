use Rattle.std.proofs.Common.{◌+◌, ◌-◌, arith}
use Rattle.template_history.proofs.DueLemmas.{from_weaker}
use Rattle.template_manager.proofs.manager.Manager.arrived.Goals as goal

pub invariant_of-self : goal.invariant_of-self
invariant_of-self c = (
  c.self.invariant.0,
  from_weaker (c.args.export - c.self.inside.life.late) (c.saturating_sub.result + 1) c.forget.new.self (let e = c.saturating_sub.ensures in omega (arith, e)) c.forget.ensures.from,
)
