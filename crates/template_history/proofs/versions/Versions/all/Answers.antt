use Rattle.std.proofs.Common.{subst}
use Rattle.template_history.specs.declared.version.Version as version
use Rattle.template_history.specs.Row.{Ascends}
use Rattle.template_history.proofs.versions.Versions.all.Goals as goal

pub returns-clause-in_order : goal.returns-clause-in_order
returns-clause-in_order c = subst (Ascends (λ (v : version.Version). v.t)) c.self.view_is c.self.invariant
