use Rattle.std.proofs.Common.{◌≡◌, ℕ, ◌+◌, ◌<◌, Bool, true, false, List, length, arith, sym, ◌∙◌}
use Rattle.std.specs.Prelude.{◌==◌}
use Rattle.std.proofs.lemmas.Bool.{eqb-true, eqb-false}
use Rattle.wire_spec.specs.Message.{least_of}
use Rattle.template_def.proofs.WalkLemmas.{walked_more, cut_short, walked_all}
use Rattle.template_def.proofs.ReadLemmas.{still_some, now_some}
use Rattle.template_def.proofs.checks.count_fields.Goals as goal

pub loop-field-preserved-then-some : goal.loop-field-preserved-then-some
loop-field-preserved-then-some c =
    let i = c.loop-field.invariant in
    (i.0 + least_of c.in-Some.field.len, walked_more c.in-Some.field c.in-Some.after.now i.1 c.in-Some.ensures, still_some c.loop-field.some i.0 c.in-Some.field.len c.if-some.true i.2)

pub loop-field-preserved : goal.loop-field-preserved
loop-field-preserved c =
    let i = c.loop-field.invariant in
    (i.0 + least_of c.in-Some.field.len, walked_more c.in-Some.field c.in-Some.after.now i.1 c.in-Some.ensures, now_some c.loop-field.some i.0 c.in-Some.field.len c.if-some.false i.2)

-- what is left where it isn't empty, and where it is
left_some : (rest : List ℕ) (empty : Bool) → empty ≡ (length rest == 0) → empty ≡ false → 0 < length rest
left_some rest empty e f = let ne = eqb-false (length rest) 0 (sym e ∙ f) in omega arith

left_none : (rest : List ℕ) (empty : Bool) → empty ≡ (length rest == 0) → empty ≡ true → length rest ≡ 0
left_none rest empty e t = eqb-true (length rest) 0 (sym e ∙ t)

pub returns-then-not-is_empty-clause-whole : goal.returns-then-not-is_empty-clause-whole
returns-then-not-is_empty-clause-whole c = cut_short c.loop-field.invariant.1 c.in_default.ensures (left_some c.loop-field.rest.now c.is_empty.result c.is_empty.ensures c.if-not-is_empty.true)

pub returns-then-not-is_empty-clause-some : goal.returns-then-not-is_empty-clause-some
returns-then-not-is_empty-clause-some c = cut_short c.loop-field.invariant.1 c.in_default.ensures (left_some c.loop-field.rest.now c.is_empty.result c.is_empty.ensures c.if-not-is_empty.true)

pub returns-clause-whole : goal.returns-clause-whole
returns-clause-whole c = (walked_all c.loop-field.invariant.1 (left_none c.loop-field.rest.now c.is_empty.result c.is_empty.ensures c.if-not-is_empty.false)).whole

pub returns-clause-some : goal.returns-clause-some
returns-clause-some c =
    let i = c.loop-field.invariant in
    let w = walked_all i.1 (left_none c.loop-field.rest.now c.is_empty.result c.is_empty.ensures c.if-not-is_empty.false) in
    rw w.shortest i.2
