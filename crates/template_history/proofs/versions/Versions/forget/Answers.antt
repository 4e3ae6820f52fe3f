use Rattle.std.proofs.Common.{◌≡◌, suc, ◌+◌, ◌-◌, ap, sym, subst, ◌∙◌, refl, arith, drop}
use Rattle.template_history.specs.declared.version.Version.{Version}
use Rattle.template_history.specs.Row.{Ascends, kept_from, row_at}
use Rattle.template_history.proofs.RowLemmas.{cut_read, kept_few, left_kept, kept_drop, ascends_drop}
use Rattle.template_history.proofs.versions.Versions.forget.Goals as goal
use Rattle.template_history.proofs.versions.Versions.forget.Goals.{After-drop-drain, Else-count-gt1}

pub count_below-count-requires : goal.count_below-count-requires
count_below-count-requires c = subst (Ascends (λ (v : Version). v.t)) (sym c.deref.ensures.value) c.self.invariant

left : (c : After-drop-drain) → c.drop-drain.new.self.0.items ≡ drop (c.count_below-count.result - 1) c.self.inside.row.items
left c = c.drop-drain.ensures.items ∙ c.drain.ensures.kept

pub invariant_of-self : goal.invariant_of-self
invariant_of-self c = subst (Ascends (λ (v : Version). v.t)) (sym (left c)) (ascends_drop (λ (v : Version). v.t) (c.count_below-count.result - 1) c.self.inside.row.items c.self.invariant)

kept_few_is : (c : Else-count-gt1) → c.args.self.now ≡ kept_from (λ (v : Version). v.t) c.args.before c.args.self.now
kept_few_is c = kept_few (λ (v : Version). v.t) c.args.before c.count_below-count.result c.args.self.now (omega arith)
    (cut_read (λ (v : Version). v.t) (c.from.result + 1) (c.args.before + 1) c.deref.result.now c.args.self.now c.count_below-count.result c.count_below-count.result
    c.count_below-count.ensures (ap (λ n. n + 1) c.from.ensures) (c.deref.ensures.value ∙ c.self.view_is) refl)

kept_more_is : (c : After-drop-drain) → c.drop-drain.new.self.0.items ≡ kept_from (λ (v : Version). v.t) c.args.before c.args.self.now
kept_more_is c =
    let i = c.count_below-count.result - 1 in
    left c ∙ (ap (drop i) c.self.view_is ∙ sym (kept_drop (λ (v : Version). v.t) c.args.before i c.args.self.now
    (cut_read (λ (v : Version). v.t) (c.from.result + 1) (c.args.before + 1) c.deref.result.now c.args.self.now c.count_below-count.result (suc i)
    c.count_below-count.ensures (ap (λ n. n + 1) c.from.ensures) (c.deref.ensures.value ∙ c.self.view_is) (omega arith))))

pub returns-then-count-gt1-clause-is : goal.returns-then-count-gt1-clause-is
returns-then-count-gt1-clause-is c = kept_more_is c

pub returns-then-count-gt1-clause-at : goal.returns-then-count-gt1-clause-at
returns-then-count-gt1-clause-at c = λ e.
    ap (row_at (λ (v : Version). v.t) e) (kept_more_is c)
    ∙ left_kept (λ (v : Version). v.t) c.args.before e c.args.self.now (subst (Ascends (λ (v : Version). v.t)) c.self.view_is c.self.invariant)

pub returns-else-count-gt1-clause-is : goal.returns-else-count-gt1-clause-is
returns-else-count-gt1-clause-is c = kept_few_is c

pub returns-else-count-gt1-clause-at : goal.returns-else-count-gt1-clause-at
returns-else-count-gt1-clause-at c = λ e.
    ap (row_at (λ (v : Version). v.t) e) (kept_few_is c)
    ∙ left_kept (λ (v : Version). v.t) c.args.before e c.args.self.now (subst (Ascends (λ (v : Version). v.t)) c.self.view_is c.self.invariant)
