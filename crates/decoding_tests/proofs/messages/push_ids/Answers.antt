use Rattle.std.proofs.Common.{◌≡◌, ℕ, inl, inr, ◌++◌, [], ◌∷◌, List, refl, ap, sym, ◌∙◌, append_assoc}
use Rattle.std.specs.Prelude.{flat_map, nat_lt}
use Rattle.std.proofs.lemmas.Bool.{cases_Bool, ne_eqb, eq-eqb}
use Rattle.std.proofs.lemmas.List.{append-nil}
use Rattle.std.proofs.lemmas.List.Concat.{flat_map-append}
use Rattle.wire_spec.specs.Content.{Touch}
use Rattle.wire_spec.specs.Content.Part.{Touches, Body}
use Rattle.ipfix_reader.specs.declared.raw.RawTemplate.{RawTemplate}
use Rattle.ipfix_reader.specs.Left.{kind_left, templates_left}
use Rattle.ipfix_reader.specs.Walk.{touch_by}
use Rattle.decoding_tests.specs.DefinedIds.{id_of}
use Rattle.ipfix_reader.proofs.WalkLemmas.{touched_more, touched_all, body_said, no_kind}
use Rattle.decoding_tests.proofs.messages.push_ids.Goals as goal

defined : (t : RawTemplate) → (t.count ≡ 0 → ⊥) → id_of (touch_by t) ≡ t.id ∷ []
defined t ne = rw (ne_eqb t.count 0 ne) refl

not_defined : (t : RawTemplate) → t.count ≡ 0 → id_of (touch_by t) ≡ []
not_defined t e = elim (cases_Bool (nat_lt t.id 256)) [ inl l ↦ rw (eq-eqb t.count 0 e, l) refl | inr l ↦ rw (eq-eqb t.count 0 e, l) refl ]

ids_more : (before ids : List ℕ) (touches : List Touch) (t : RawTemplate) (new : List ℕ) → ids ≡ before ++ flat_map id_of touches → new ≡ ids ++ id_of (touch_by t) → new ≡ before ++ flat_map id_of (touches ++ touch_by t ∷ [])
ids_more before ids touches t new p q =
    q
    ∙ (ap (λ x. x ++ id_of (touch_by t)) p
    ∙ (append_assoc before (flat_map id_of touches) (id_of (touch_by t))
    ∙ ap (λ x. before ++ x) (ap (λ x. flat_map id_of touches ++ x) (sym (append-nil (id_of (touch_by t)))) ∙ sym (flat_map-append id_of touches (touch_by t ∷ [])))))

pub returns-then-set-ne3 : goal.returns-then-set-ne3
returns-then-set-ne3 c = (Body c.args.set.id c.args.set.body.now, body_said c.args.set (no_kind c.args.set.id c.if-set-ne2.true c.if-set-ne3.true), sym (append-nil c.args.ids.now.items))

pub loop-template-preserved-in-Continue-1 : goal.loop-template-preserved-in-Continue-1
loop-template-preserved-in-Continue-1 c =
    let i = c.loop-template.invariant in
    let t = c.in-Some.template in (
      i.0 ++ touch_by t ∷ [],
      touched_more (kind_left c.next.new.self) (templates_left c.next.new.self) t i.1 c.in-Some.ensures.steps,
      ids_more c.args.ids.now.items c.loop-template.ids.items i.0 t c.push.new.self.items i.2 (rw (defined t c.if-template-ne0.true) c.in_ok-push.ensures.items),
    )

pub loop-template-preserved : goal.loop-template-preserved
loop-template-preserved c =
    let i = c.loop-template.invariant in
    let t = c.in-Some.template in (
      i.0 ++ touch_by t ∷ [],
      touched_more (kind_left c.next.new.self) (templates_left c.next.new.self) t i.1 c.in-Some.ensures.steps,
      ids_more c.args.ids.now.items c.loop-template.ids.items i.0 t c.loop-template.ids.items i.2 (rw (not_defined t c.if-template-ne0.false) (sym (append-nil c.loop-template.ids.items))),
    )

pub returns : goal.returns
returns c =
    let i = c.loop-template.invariant in
    (Touches i.0, touched_all (kind_left c.next.new.self) (templates_left c.next.new.self) i.1 c.in-None.ensures.steps, i.2)
