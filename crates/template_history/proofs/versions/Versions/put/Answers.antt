use Rattle.std.proofs.Common.{◌≡◌, ℕ, ◌<◌, ap, sym, subst, ◌∙◌, arith, List, length}
use Rattle.template_history.specs.declared.version.Version.{Version}
use Rattle.std.specs.Prelude.{OnOk}
use Rattle.template_history.specs.Row.{Ascends, row_at, put_at}
use Rattle.template_history.proofs.RowLemmas.{set_when, insert_when}
use Rattle.template_history.proofs.DueLemmas.{tail_when}
use Rattle.template_history.proofs.versions.Versions.put.Goals as goal

pub count_below-count-requires : goal.count_below-count-requires
count_below-count-requires c = subst (Ascends (λ (v : Version). v.t)) (sym c.deref.ensures.value) c.self.invariant

pub index_mut-requires : goal.index_mut-requires
index_mut-requires c =
    let lt : c.count_below-count.result < length c.deref-2.result.now = (c.if-is_of.ensures c.args.version).0 in
    omega (arith, lt, c.deref-2.ensures.len)

pub invariant_of-self : goal.invariant_of-self
invariant_of-self c =
    (set_when (λ (v : Version). v.t) c.args.version c.from.result c.count_below-count.result c.self.inside.row.items c.deref.result.now c.deref-2.result.now
    c.self.invariant c.count_below-count.ensures c.from.ensures c.deref.ensures.value c.deref-2.ensures.value (λ d. c.if-is_of.ensures d)).0

pub returns-then-is_of-clause-ok : goal.returns-then-is_of-clause-ok
returns-then-is_of-clause-ok c = λ e.
    (set_when (λ (v : Version). v.t) c.args.version c.from.result c.count_below-count.result c.self.inside.row.items c.deref.result.now c.deref-2.result.now
    c.self.invariant c.count_below-count.ensures c.from.ensures c.deref.ensures.value c.deref-2.ensures.value (λ d. c.if-is_of.ensures d)).1 e
    ∙ ap (λ xs. put_at (λ (v : Version). v.t) e (row_at (λ (v : Version). v.t) e xs) c.args.version) c.self.view_is

pub invariant_of-self-2 : goal.invariant_of-self-2
invariant_of-self-2 c =
    (insert_when (λ (v : Version). v.t) c.args.version c.from.result c.count_below-count.result c.self.inside.row.items c.deref.result.now c.deref-2.result.now c.insert.new.self.items c.insert.result
    c.self.invariant c.count_below-count.ensures c.from.ensures c.deref.ensures.value c.deref-2.ensures.value (λ d. c.if-is_of.ensures d) c.insert.ensures.items).0

pub returns-clause-ok : goal.returns-clause-ok
returns-clause-ok c =
    subst (λ (xs : List Version). OnOk c.insert.result ((e : ℕ) → row_at (λ (v : Version). v.t) e c.insert.new.self.items ≡ put_at (λ (v : Version). v.t) e (row_at (λ (v : Version). v.t) e xs) c.args.version)) c.self.view_is
    (insert_when (λ (v : Version). v.t) c.args.version c.from.result c.count_below-count.result c.self.inside.row.items c.deref.result.now c.deref-2.result.now c.insert.new.self.items c.insert.result
    c.self.invariant c.count_below-count.ensures c.from.ensures c.deref.ensures.value c.deref-2.ensures.value (λ d. c.if-is_of.ensures d) c.insert.ensures.items).1

pub returns-then-is_of-clause-in_order : goal.returns-then-is_of-clause-in_order
returns-then-is_of-clause-in_order c =
    (set_when (λ (v : Version). v.t) c.args.version c.from.result c.count_below-count.result c.self.inside.row.items c.deref.result.now c.deref-2.result.now
    c.self.invariant c.count_below-count.ensures c.from.ensures c.deref.ensures.value c.deref-2.ensures.value (λ d. c.if-is_of.ensures d)).0

pub returns-clause-in_order : goal.returns-clause-in_order
returns-clause-in_order c =
    (insert_when (λ (v : Version). v.t) c.args.version c.from.result c.count_below-count.result c.self.inside.row.items c.deref.result.now c.deref-2.result.now c.insert.new.self.items c.insert.result
    c.self.invariant c.count_below-count.ensures c.from.ensures c.deref.ensures.value c.deref-2.ensures.value (λ d. c.if-is_of.ensures d) c.insert.ensures.items).0

pub returns-clause-tail : goal.returns-clause-tail
returns-clause-tail c =
    tail_when (λ (v : Version). v.t) c.args.version c.from.result c.count_below-count.result c.self.inside.row.items c.deref.result.now c.args.self.now c.insert.new.self.items c.insert.result
    c.count_below-count.ensures c.from.ensures c.deref.ensures.value c.self.view_is c.insert.ensures.items
