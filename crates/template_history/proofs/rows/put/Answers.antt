use Rattle.std.proofs.Common.{◌≡◌, ◌∙◌, [], subst, sym, ap, rules}
use Rattle.std.specs.Prelude.{unwrap_or}
use Rattle.std.specs.Prelude.{Result, Ok, Err, OnErr}
use Rattle.std.specs.BTreeMap.{is_at}
use Rattle.std.specs.Map.{set_value}
use Rattle.std.specs.Ordering.{nat_cmp}
use Rattle.std.proofs.lemmas.Map.Steps.{set_value_same}
use Rattle.template_history.specs.Row.{IsBehind, TailIn}
use Rattle.template_history.specs.Versions.{row_of, time_of}
use Rattle.template_history.proofs.rows.put.Goals as goal

pub returns-in-Some-clause-tail : goal.returns-in-Some-clause-tail
returns-in-Some-clause-tail c = λ p b t.
    let old : row_of c.args.rows.now.entries c.args.id ≡ c.in-Some.row.now = sym (ap (λ o. unwrap_or o []) c.in-Some.ensures.value) in
    let new : row_of (c.get_mut.follows.lender c.put.new.self).entries c.args.id ≡ c.put.new.self = search rules in
    subst (TailIn time_of p) (sym new) (c.in_ok-put.ensures.tail p (subst (IsBehind time_of p c.args.version.t) old b) (subst (TailIn time_of p) old t))

pub returns-clause-tail : goal.returns-clause-tail
returns-clause-tail c = λ p b t.
    subst (TailIn time_of p) (sym (ap (λ o. unwrap_or o []) c.in_ok-insert.ensures.updates.1))
    (c.in_ok-put-2.ensures.tail p (subst (IsBehind time_of p c.args.version.t) (sym c.new-row.ensures) tt) (subst (TailIn time_of p) (sym c.new-row.ensures) tt))

on_err : {A E P : Type 0} (r : Result A E) → P → OnErr r P
on_err (Ok x) p = tt
on_err (Err e) p = p

pub returns-in_err-put-clause-err : goal.returns-in_err-put-clause-err
returns-in_err-put-clause-err c =
    let written : (c.get_mut.follows.lender c.put.new.self).entries ≡ set_value (is_at (nat_cmp c.args.id)) c.args.rows.now.entries c.put.new.self = search rules in
    on_err c.from_residual.result
    (written
    ∙ (ap (set_value (is_at (nat_cmp c.args.id)) c.args.rows.now.entries) c.in_err-put.ensures.err
    ∙ set_value_same (is_at (nat_cmp c.args.id)) c.args.rows.now.entries c.in-Some.row.now (sym c.in-Some.ensures.value)))
