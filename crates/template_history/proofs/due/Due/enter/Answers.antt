use Rattle.std.proofs.Common.{◌∙◌}
use Rattle.std.specs.BTreeMap.{is_at}
use Rattle.template_history.specs.Due.{pair_cmp}
use Rattle.template_history.proofs.DueLemmas.{stays_true}
use Rattle.template_history.proofs.due.Due.enter.Goals as goal

pub returns-clause-kept : goal.returns-clause-kept
returns-clause-kept c = λ u k e. c.in_ok-insert.ensures.updates.0 (u, k) ∙ stays_true (is_at (pair_cmp (c.args.t, c.args.id)) (u, k)) e
