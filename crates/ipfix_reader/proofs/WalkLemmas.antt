-- What a whole walk over a message adds up to: `Says`. A loop over `template_records(set)` keeps `HaveTouched`,
-- a loop over `message.sets()` keeps `HaveSaid`: both begin with nothing said, and go on by one step.
use Rattle.std.proofs.Common.{◌≡◌, ℕ, ◌≤◌, ◌⊎◌, inl, inr, true, false, List, [], ◌∷◌, ◌++◌, Some, None, length, map, drop, refl, ap, sym, subst, ◌∙◌, arith, length-append, length-drop}
use Rattle.std.specs.Prelude.{Option, ◌==◌}
use Rattle.std.specs.List.{concat}
use Rattle.std.proofs.Props.{props}
use Rattle.std.proofs.Math.Logic.{∥∥₁_elim}
use Rattle.std.proofs.lemmas.Bool.{cases_Bool, not-true, not-false, ne_eqb, eqb-true}
use Rattle.std.proofs.lemmas.List.{map-append, take_all}
use Rattle.col_base.specs.declared.base.Kind.{Kind}
use Rattle.col_base.specs.Numbers.{be16_at}
use Rattle.wire_spec.specs.Message.{IsSet, IsBody, IsTemplateRecord, kind_of, defines, front, first_broken, header_rules}
use Rattle.wire_spec.specs.Places.{set_place}
use Rattle.wire_spec.specs.Content.{Touch, Part, Says, SaysPart, SayParts, touch_of}
use Rattle.wire_spec.specs.Content.Part.{Touches, Body}
use Rattle.wire_spec.proofs.OptionLemmas.{some_or_none}
use Rattle.wire_spec.proofs.RowLemmas.{items_more, concat_more}
use Rattle.ipfix_reader.proofs.SpecifierLemmas.{right_scope}
use Rattle.ipfix_reader.specs.declared.raw.RawSet.{RawSet}
use Rattle.ipfix_reader.specs.declared.raw.RawTemplate.{RawTemplate}
use Rattle.ipfix_reader.specs.Walk.{IsSomeMessage, IsRawSet, GivesSet, IsRawTemplate, GivesTemplate, touch_by, HaveTouched, SaysBy, RawSays, HaveSaid, message_of}

-- What a raw template says is what its record says.
pub touch_is : (raw : RawTemplate) (kind : Kind) (o : List ℕ) → IsRawTemplate raw kind o → touch_by raw ≡ touch_of kind o
touch_is raw kind o r =
    elim (cases_Bool (defines o)) [
      | inl d ↦
          (let n : (raw.count == 0) ≡ false = ap (λ k. k == 0) r.count ∙ not-true (be16_at 2 o == 0) d in
          let s : raw.specs.now ≡ drop (front kind) o = r.specs ∙ rw d refl in
          rw (n, d) (rw (r.id, r.same, right_scope kind o raw.scope r.scope d, r.count, s) refl))
      | inr d ↦
          (let n : (raw.count == 0) ≡ true = ap (λ k. k == 0) r.count ∙ not-false (be16_at 2 o == 0) d in
          rw (n, d) (rw (r.id, r.same) refl))
    ]

-- Nothing is touched before the first step.
pub touched_none : (raw : RawSet) (kind : Kind) → kind_of raw.id ≡ Some kind → HaveTouched raw kind raw.body.now []
touched_none raw kind k = record { of_kind = k; records = []; each = tt; whole = refl; are = refl }

more_touched : (raw : RawSet) (kind : Kind) (old new : List ℕ) (touches : List Touch) (template : RawTemplate)
    → HaveTouched raw kind old touches → GivesTemplate kind old (Some template) new → HaveTouched raw kind new (touches ++ touch_by template ∷ [])
more_touched raw kind old new touches template h g = record {
  of_kind = h.of_kind;
  records = h.records ++ g.0 ∷ [];
  each = items_more (IsTemplateRecord kind) h.records g.0 h.each g.2.are;
  whole = h.whole ∙ (ap (λ r. concat h.records ++ r) g.1 ∙ concat_more h.records g.0 new);
  are = ap (λ t. t ++ touch_by template ∷ []) h.are
      ∙ (ap (λ t. map (touch_of kind) h.records ++ t ∷ []) (touch_is template kind g.0 g.2) ∙ sym (map-append (touch_of kind) h.records (g.0 ∷ [])));
}

-- One template record more: the step is what `next` ensures.
pub touched_more : {raw : RawSet} {kind : Kind} {old : List ℕ} {touches : List Touch} (next : Kind) (new : List ℕ) (template : RawTemplate)
    → HaveTouched raw kind old touches → GivesTemplate kind old (Some template) new × (next ≡ kind) → HaveTouched raw next new (touches ++ touch_by template ∷ [])
touched_more {raw} {kind} {old} {touches} next new template h g =
    subst (λ (k : Kind). HaveTouched raw k new (touches ++ touch_by template ∷ [])) (sym g.1) (more_touched raw kind old new touches template h g.0)

-- A set whose template records were all walked over says their touches.
pub touched_all : {raw : RawSet} {kind : Kind} {old : List ℕ} {touches : List Touch} (next : Kind) (new : List ℕ)
    → HaveTouched raw kind old touches → GivesTemplate kind old None new × (next ≡ kind) → RawSays raw (Touches touches)
touched_all {raw} {kind} {old} {touches} next new h g =
    rw h.of_kind (h.records, record { end = old; whole = h.whole; each = h.each; ends = g.0.0 }, ap Touches h.are)

-- Sets of other IDs than 2 and 3 have no template records.
pub no_kind : (id : ℕ) → (id ≡ 2 → ⊥) → (id ≡ 3 → ⊥) → kind_of id ≡ None
no_kind id a b = rw (ne_eqb id 2 a, ne_eqb id 3 b) refl

-- Only those have template records.
pub kind_ids : (id : ℕ) (kind : Kind) → kind_of id ≡ Some kind → (id ≡ 2) ⊎ (id ≡ 3)
kind_ids id kind e =
    elim (cases_Bool (id == 2)) [
      | inl t ↦ inl (eqb-true id 2 t)
      | inr t ↦ elim (cases_Bool (id == 3)) [
        | inl u ↦ inr (eqb-true id 3 u)
        | inr u ↦ absurd (let none : kind_of id ≡ None = rw (t, u) refl in some_or_none (kind_of id) kind e none)
      ]
    ]

-- A set without template records says its body.
pub body_said : (raw : RawSet) → kind_of raw.id ≡ None → RawSays raw (Body raw.id raw.body.now)
body_said raw k = rw k refl

-- Nothing is said before the first step.
pub said_none : (octets : List ℕ) → HaveSaid octets (drop 16 octets) []
said_none octets = record { sets = []; each = tt; whole = refl; say = tt }

as_part : (kind : Option Kind) (set : List ℕ) (part : Part) → SaysBy kind (be16_at 0 set) (drop 4 set) part → SaysPart kind set part
as_part None set part p = p
as_part (Some kind) set part p = p

as_body : (kind : Option Kind) (set : List ℕ) (part : Part) → SaysPart kind set part → IsBody kind (drop 4 set)
as_body None set part p = tt
as_body (Some kind) set part p = (p.0, p.1)

raw_part : (raw : RawSet) (place : ℕ) (set : List ℕ) (part : Part) → IsRawSet raw place set → RawSays raw part → SaysPart (kind_of (be16_at 0 set)) set part
raw_part raw place set part r p =
    as_part (kind_of (be16_at 0 set)) set part
    (subst (λ (b : List ℕ). SaysBy (kind_of (be16_at 0 set)) (be16_at 0 set) b part) r.body (subst (λ (i : ℕ). SaysBy (kind_of i) i raw.body.now part) r.id p))

parts_more : (sets : List (List ℕ)) (set : List ℕ) (parts : List Part) (part : Part) → SayParts sets parts → SaysPart (kind_of (be16_at 0 set)) set part → SayParts (sets ++ set ∷ []) (parts ++ part ∷ [])
parts_more [] set [] part p q = (q, tt)
parts_more [] set (x ∷ parts) part p q = absurd p
parts_more (s ∷ sets) set [] part p q = absurd p
parts_more (s ∷ sets) set (x ∷ parts) part p q = (p.0, parts_more sets set parts part p.1 q)

-- One set more: the step is what `next` ensures.
pub said_more : {octets old : List ℕ} {at : ℕ} {parts : List Part} (new : List ℕ) (to : ℕ) (raw : RawSet) (part : Part)
    → HaveSaid octets old parts → GivesSet at old (Some raw) to new → RawSays raw part → HaveSaid octets new (parts ++ part ∷ [])
said_more {octets} {old} {at} {parts} new to raw part h g p =
    let said = raw_part raw at g.0 part g.2 p in
    record {
      sets = h.sets ++ g.0 ∷ [];
      each = items_more IsSet h.sets g.0 h.each (record { unbroken = g.2.sized.unbroken; whole = g.2.sized.whole; body = as_body (kind_of (be16_at 0 g.0)) g.0 part said });
      whole = h.whole ∙ (ap (λ r. concat h.sets ++ r) g.1 ∙ concat_more h.sets g.0 new);
      say = parts_more h.sets g.0 parts part h.say said;
    }

-- The sets that are left of a message begin behind those that were walked over: the next stands at this place.
pub said_place : {octets rest : List ℕ} {parts : List Part} (at : ℕ) (h : HaveSaid octets rest parts) → rest ≡ drop at octets → 16 ≤ at → at ≤ length octets → at ≡ set_place h.sets (length h.sets)
said_place {octets} {rest} {parts} at h left front inside =
    let w = ap length h.whole ∙ length-append (concat h.sets) rest in
    let o = length-drop 16 octets in
    let l = ap length left ∙ length-drop at octets in
    let all = ap (λ s. length (concat s)) (take_all (length h.sets) h.sets (omega arith)) in
    omega arith

unbroken-prop : (o : List ℕ) → IsProp (first_broken header_rules o ≡ None)
unbroken-prop o = hlevel props

-- A message whose sets were all walked over says their parts.
pub said_all : {octets old : List ℕ} {at : ℕ} {parts : List Part} (new : List ℕ) (to : ℕ)
    → ∥ IsSomeMessage octets ∥₁ → HaveSaid octets old parts → GivesSet at old None to new → Says octets (message_of octets parts)
said_all {octets} {old} {at} {parts} new to w h g =
    let unbroken = ∥∥₁_elim w (unbroken-prop octets) (λ s. s.1.unbroken) in
    record {
      sets = h.sets;
      are = record { unbroken = unbroken; body = record { end = old; whole = h.whole; each = h.each; ends = g.0 } };
      parts = h.say;
      export = refl;
      sequence = refl;
      domain = refl;
    }
