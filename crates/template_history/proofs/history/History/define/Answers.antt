use Rattle.std.proofs.Common.{ap, refl, subst, sym}
use Rattle.template_history.specs.Due.{is_due}
use Rattle.template_history.specs.Versions.{row_of, AreFrom}
use Rattle.template_history.proofs.DueLemmas.{one_more, one_more_from, none_more}
use Rattle.template_history.proofs.history.History.define.Goals as goal

pub invariant_of-self : goal.invariant_of-self
invariant_of-self c = none_more c.self.inside.rows.entries c.self.inside.rows.entries c.self.inside.due c.enter.new.due c.enter.ensures.kept c.self.invariant (λ k. refl)

pub invariant_of-self-in_err-put : goal.invariant_of-self-in_err-put
invariant_of-self-in_err-put c = none_more c.self.inside.rows.entries c.put.new.rows.entries c.self.inside.due c.enter.new.due c.enter.ensures.kept c.self.invariant (λ k. ap (λ h. row_of h k) c.in_err-put.ensures.err)

pub invariant_of-self-2 : goal.invariant_of-self-2
invariant_of-self-2 c =
    one_more c.args.id c.args.t c.self.inside.rows.entries c.put.new.rows.entries c.self.inside.due c.enter.new.due c.enter.ensures.kept c.self.invariant
    c.put.ensures.in_order (c.in_ok-put.ensures.tail (λ u. is_due c.enter.new.due u c.args.id) c.in_ok-enter.ensures.entered) c.put.ensures.others

pub returns-clause-from : goal.returns-clause-from
returns-clause-from c = λ time le from.
    one_more_from time c.args.t c.args.id c.self.inside.rows.entries c.put.new.rows.entries le c.in_ok-put.ensures.tail c.put.ensures.others (subst (AreFrom time) (sym c.self.view_is) from)
