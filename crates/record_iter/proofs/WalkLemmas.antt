-- What a walk over records, or over the fields of a record, adds up to. A loop over `records` keeps `HaveRecords`, a
-- loop over `fields` keeps `HaveValues`: both begin with nothing, go on by one step, and end with all.
use Rattle.std.proofs.Common.{◌≡◌, ℕ, ◌+◌, ◌-◌, ◌≤◌, ◌⊎◌, inl, inr, Bool, true, false, List, [], ◌∷◌, ◌++◌, Some, None, length, refl, ap, sym, subst, ◌∙◌, arith, append_assoc, length-append}
use Rattle.std.specs.Prelude.{nat_eq, MatchBool}
use Rattle.std.specs.List.{concat}
use Rattle.std.proofs.Props.{props}
use Rattle.std.proofs.Math.Logic.{∥∥₁_elim}
use Rattle.std.proofs.lemmas.List.{append-nil}
use Rattle.wire_spec.specs.declared.field.FieldSpec.{FieldSpec}
use Rattle.wire_spec.specs.Record.{IsShortForm, IsLongForm, IsFixed, IsEncoded, IsRecord, IsSomeRecord, IsShort, IsRecords}
use Rattle.wire_spec.proofs.RowLemmas.{items_more, concat_more}
use Rattle.record_iter.specs.declared.value.FieldValue.{FieldValue}
use Rattle.record_iter.specs.Walk.{GivesRecord, HaveRecords, BeginsValue, IsFieldAt, GivesField, HaveValues, StandsAt}

-- Nothing is found before the first step.
pub records_none : (fields left : List FieldSpec) (body rest : List ℕ) → left ≡ fields → rest ≡ body → HaveRecords fields body left rest []
records_none fields left body rest same is = record { same = same; each = tt; whole = sym is }

-- The record that a step gives is one of the fields.
pub record_given : {fields left : List FieldSpec} {body rest : List ℕ} {list : List (List ℕ)} (next : List FieldSpec) (first new : List ℕ)
    → HaveRecords fields body left rest list → GivesRecord left rest (Some first) new × (next ≡ left) → IsSomeRecord fields first
record_given {fields} {left} {body} {rest} {list} next first new h g = subst (λ (f : List FieldSpec). IsSomeRecord f first) h.same g.0.1

-- One record more: the step is what `next` ensures.
pub records_more : {fields left : List FieldSpec} {body rest : List ℕ} {list : List (List ℕ)} (next : List FieldSpec) (first new : List ℕ)
    → HaveRecords fields body left rest list → GivesRecord left rest (Some first) new × (next ≡ left) → HaveRecords fields body next new (list ++ first ∷ [])
records_more {fields} {left} {body} {rest} {list} next first new h g = record {
  same = g.1 ∙ h.same;
  each = items_more (IsSomeRecord fields) list first h.each (record_given next first new h g);
  whole = h.whole ∙ (ap (λ r. concat list ++ r) g.0.0 ∙ concat_more list first new);
}

-- A body that was walked over is the records that were found.
pub records_all : {fields left : List FieldSpec} {body rest : List ℕ} {list : List (List ℕ)} (next : List FieldSpec) (new : List ℕ)
    → HaveRecords fields body left rest list → GivesRecord left rest None new × (next ≡ left) → IsRecords fields body list
records_all {fields} {left} {body} {rest} {list} next new h g =
    record { end = rest; whole = h.whole; each = h.each; ends = subst (λ (f : List FieldSpec). IsShort f rest) h.same g.0.0 }

-- one more field with its value
record_more : (fields : List FieldSpec) (front octets value : List ℕ) (values : List (List ℕ)) (field : FieldSpec) → IsRecord fields front values → IsEncoded field.len octets value
    → IsRecord (fields ++ field ∷ []) (front ++ octets) (values ++ value ∷ [])
record_more [] front octets value [] field r e = (octets, [], e, refl, ap (λ x. x ++ octets) r ∙ sym (append-nil octets))
record_more [] front octets value (v ∷ values) field r e = absurd r
record_more (f ∷ fields) front octets value [] field r e = absurd r
record_more (f ∷ fields) front octets value (v ∷ values) field r e =
    (r.0, r.1 ++ octets, r.2, record_more fields r.1 octets value values field r.3 e, ap (λ x. x ++ octets) r.4 ∙ append_assoc r.0 r.1 octets)

-- Nothing is found before the first step.
pub values_none : (fields left : List FieldSpec) (octets rest : List ℕ) (at : ℕ) → left ≡ fields → rest ≡ octets → at ≡ 0 → HaveValues fields octets left at rest []
values_none fields left octets rest at same is place = record { done = []; before = []; fields_are = sym same; whole = sym is; place = place; are = refl }

-- One field more: the step is what `next` ensures.
pub values_more : {fields left : List FieldSpec} {octets rest : List ℕ} {at : ℕ} {values : List (List ℕ)} (more : List FieldSpec) (to : ℕ) (new : List ℕ) (found : FieldValue)
    → HaveValues fields octets left at rest values → GivesField left at rest (Some found) more to new → HaveValues fields octets more to new (values ++ found.value.now ∷ [])
values_more {fields} {left} {octets} {rest} {at} {values} more to new found h g =
    let field = g.0 in
    let step = g.2 in
    let first = step.begins.first in
    let l = length-append h.before first in
    let place = h.place in
    let on = step.goes_on in
    record {
      done = h.done ++ field ∷ [];
      before = h.before ++ first;
      fields_are = h.fields_are ∙ (ap (λ (f : List FieldSpec). h.done ++ f) g.1 ∙ sym (append_assoc h.done (field ∷ []) more));
      whole = h.whole ∙ (ap (λ r. h.before ++ r) step.begins.joined ∙ sym (append_assoc h.before first new));
      place = omega arith;
      are = record_more h.done h.before first found.value.now values field h.are step.begins.encoded;
    }

-- A record that was walked over has the values that were found.
pub values_all : {fields left : List FieldSpec} {octets rest : List ℕ} {at : ℕ} {values : List (List ℕ)} (more : List FieldSpec) (to : ℕ) (new : List ℕ)
    → HaveValues fields octets left at rest values → GivesField left at rest None more to new → IsRecord fields octets values
values_all {fields} {left} {octets} {rest} {at} {values} more to new h g =
    let f : h.done ≡ fields = sym (h.fields_are ∙ (ap (λ (l : List FieldSpec). h.done ++ l) g.0 ∙ append-nil h.done)) in
    let o : h.before ≡ octets = sym (h.whole ∙ (ap (λ r. h.before ++ r) g.1 ∙ append-nil h.before)) in
    subst (λ (x : List ℕ). IsRecord fields x values) o (subst (λ (l : List FieldSpec). IsRecord l h.before values) f h.are)

-- a value ends the octets that stand for it
pub record IsEnd (octets value : List ℕ) : Type 0 where
  pub head : List ℕ
  pub whole : octets ≡ head ++ value

pub value_ends : (len : ℕ) (octets value : List ℕ) → IsEncoded len octets value → IsEnd octets value
value_ends len octets value e = by_test (nat_eq len 65535) e
  where
    by_test : (b : Bool) → MatchBool b (IsShortForm octets value ⊎ IsLongForm octets value) (IsFixed len octets value) → IsEnd octets value
    by_test true (inl s) = record { head = length value ∷ []; whole = s.spelled }
    by_test true (inr s) = record { head = 255 ∷ s.high ∷ s.low ∷ []; whole = s.spelled }
    by_test false s = record { head = []; whole = s.spelled }

-- The value that a step gives stands at its place.
pub value_stands : {fields left : List FieldSpec} {octets rest : List ℕ} {at : ℕ} {values : List (List ℕ)} (more : List FieldSpec) (to : ℕ) (new : List ℕ) (found : FieldValue)
    → HaveValues fields octets left at rest values → GivesField left at rest (Some found) more to new → StandsAt octets found
value_stands {fields} {left} {octets} {rest} {at} {values} more to new found h g =
    let step = g.2 in
    let b = step.begins in
    let value = found.value.now in
    let e = value_ends g.0.len b.first value b.encoded in
    let l = ap length e.whole ∙ length-append e.head value in
    let m = length-append h.before e.head in
    let place = h.place in
    let on = step.goes_on in
    let ends = step.ends in
    record {
      before = h.before ++ e.head;
      after = new;
      whole = h.whole ∙ (ap (λ r. h.before ++ r) (b.joined ∙ (ap (λ r. r ++ new) e.whole ∙ append_assoc e.head value new)) ∙ sym (append_assoc h.before e.head (value ++ new)));
      place = omega arith;
    }

-- Where no field is left, no octet is.
⊥-prop : IsProp ⊥
⊥-prop = hlevel props

pub nothing_left : (octets : List ℕ) → ∥ IsSomeRecord [] octets ∥₁ → octets ≡ []
nothing_left [] w = refl
nothing_left (x ∷ octets) w = absurd (∥∥₁_elim w ⊥-prop no_record)
  where
    no_record : IsSomeRecord [] (x ∷ octets) → ⊥
    no_record ([], e) = cc
    no_record (v ∷ values, e) = e

-- What a step over the fields gives.
pub field_given : (at : ℕ) (octets : List ℕ) (field : FieldSpec) (found : FieldValue) (to : ℕ) (rest : List ℕ) → found.spec ≡ field → (b : BeginsValue field.len octets found.value.now rest)
    → length found.value.now + length rest ≤ length octets → to ≡ at + (length octets - length rest) → found.at ≡ to - length found.value.now → IsFieldAt at octets field found to rest
field_given at octets field found to rest spec b room goes place =
    let l = ap length b.joined ∙ length-append b.first rest in
    record { spec = spec; begins = b; goes_on = omega arith; ends = omega arith }
