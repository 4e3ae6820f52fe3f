use Rattle.std.proofs.Common.{ap, sym, ◌∙◌}
use Rattle.template_manager.specs.Kinds.{is_change}
use Rattle.template_manager.specs.Table.{definition_in}
use Rattle.template_manager.proofs.TableLemmas.{same_stays}
use Rattle.template_manager.proofs.ordered.Ordered.define.Goals as goal

pub returns-else-is_change-clause-ok : goal.returns-else-is_change-clause-ok
returns-else-is_change-clause-ok c = same_stays (definition_in c.args.self.now) c.args.id c.args.def.value (ap is_change (sym (rw c.deref.ensures at c.judge-taken.ensures)) ∙ (sym c.is_change.ensures ∙ c.if-is_change.false))
