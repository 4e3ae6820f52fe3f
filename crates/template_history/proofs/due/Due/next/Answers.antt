use Rattle.std.proofs.Common.{◌≤◌, arith, rules}
use Rattle.template_history.proofs.DueLemmas.{pair_le}
use Rattle.template_history.proofs.due.Due.next.Goals as goal

pub returns-then-t-before-clause-next : goal.returns-then-t-before-clause-next
returns-then-t-before-clause-next c = λ u k e.
    let le : c.in-Some.field-0.now.0 ≤ u = pair_le c.in-Some.field-0.now (u, k) (c.in-Some.ensures.least (u, k) (search (rules, e))) in
    let lt = c.if-t-before.true in omega (arith, le, lt)
