use Rattle.std.proofs.Common.{◌≡◌, ℕ, ◌<◌, ◌+◌, ◌++◌, length, ap, sym, subst, ◌∙◌, arith}
use Rattle.std.specs.Prelude.{Option}
use Rattle.wire_spec.specs.declared.field.FieldSpec.{FieldSpec}
use Rattle.text_spec.specs.Fields.{pair_of}
use Rattle.text_spec.specs.Marks.{comma}
use Rattle.text_spec.specs.Value.{value_text}
use Rattle.json_output.specs.Chain.{first_from}
use Rattle.json_output.proofs.ChainLemmas.{chain_none, chain_more, chain_all, none_from, less_left, fields_left}
use Rattle.json_output.proofs.values.put_others.Goals as goal

pub loop-next-init : goal.loop-next-init
loop-next-init c =
    chain_none (λ value. comma ++ value_text c.args.kind value) (pair_of c.args.field) c.args.fields.now c.args.first c.next-next.result c.args.draft.now
    (c.next-next.ensures c.args.field ∙ ap (λ (f : FieldSpec). first_from (pair_of f) c.args.fields.now (c.args.first + 1)) (sym c.requires.is))

pub put_next-requires : goal.put_next-requires
put_next-requires c =
    let own = c.loop-next.invariant.next_is c.in-Some.at c.args.field c.in-Some.is in
    let long : length c.loop-next.draft.fields ≡ length c.args.fields.now = ap length (c.loop-next.invariant.same ∙ c.requires.fields) in
    omega (arith, long, own.0)

pub next-next-requires-in-Some-clause-inside : goal.next-next-requires-in-Some-clause-inside
next-next-requires-in-Some-clause-inside c = (c.loop-next.invariant.next_is c.in-Some.at c.args.field c.in-Some.is).0

pub loop-next-smaller : goal.loop-next-smaller
loop-next-smaller c =
    let inside = (c.loop-next.invariant.next_is c.in-Some.at c.args.field c.in-Some.is).0 in
    let count = length c.args.fields.now in
    subst (λ (o : Option ℕ). fields_left count c.next-next-in-Some.result < fields_left count o) (sym c.in-Some.is)
    (less_left _ c.args.fields.now c.in-Some.at c.next-next-in-Some.result inside (c.next-next-in-Some.ensures c.args.field))

pub loop-next-preserved : goal.loop-next-preserved
loop-next-preserved c =
    chain_more (λ value. comma ++ value_text c.args.kind value) (pair_of c.args.field) c.args.fields.now c.args.first c.in-Some.at c.loop-next.next c.next-next-in-Some.result c.args.draft.now c.loop-next.draft c.put_next.new.draft
    c.args.field c.requires.fields c.in-Some.is c.loop-next.invariant c.in_ok-put_next.ensures (c.next-next-in-Some.ensures c.args.field)

pub returns : goal.returns
returns c =
    chain_all (λ value. comma ++ value_text c.args.kind value) (pair_of c.args.field) c.args.fields.now c.args.first c.loop-next.next c.args.draft.now c.loop-next.draft (none_from _ c.in_default.not-Some) c.requires.fields c.loop-next.invariant
