-- Places of records that have one length.
use Rattle.std.proofs.Common.{◌≡◌, ℕ, zero, suc, ◌+◌, ◌*◌, ◌/◌, ◌<◌, true, List, [], ◌∷◌, ◌++◌, take, set, length, refl, ap, sym, ◌∙◌, arith, length-append}
use Rattle.std.specs.List.{AllByRecursion, concat}
use Rattle.std.proofs.Math.Nat.{suc-mul}
use Rattle.std.proofs.lemmas.List.{take_more_set}
use Rattle.std.proofs.lemmas.Nat.{div-mul-add}
use Rattle.wire_spec.specs.declared.field.FieldSpec.{FieldSpec}
use Rattle.wire_spec.specs.Record.{IsSomeRecord, IsRecords, shortest}
use Rattle.wire_spec.specs.Size.{are_fixed}
use Rattle.wire_spec.proofs.FixedLemmas.{fixed_length, fixed_records}
use Rattle.pipeline_message.specs.declared.message.Place.{Place}
use Rattle.record_places.specs.Places.{places_from, even_places, ArePlaced}

-- one place more stands behind the others.
even_more : (start len n : ℕ) → even_places start len (suc n) ≡ even_places start len n ++ record { start = start + n * len; len = len } ∷ []
even_more start len zero = ap (λ s. record { start = s; len = len } ∷ []) (omega arith)
even_more start len (suc n) =
    let e : (start + len) + n * len ≡ start + suc n * len = (let m = suc-mul n len in omega arith) in
    ap (λ l. record { start = start; len = len } ∷ l) (even_more (start + len) len n ∙ ap (λ s. even_places (start + len) len n ++ record { start = s; len = len } ∷ []) e)

-- records of one length stand at such places
all_even : (fields : List FieldSpec) → are_fixed fields ≡ true → (list : List (List ℕ)) → AllByRecursion (IsSomeRecord fields) list → (start : ℕ) → places_from start list ≡ even_places start (shortest fields) (length list)
all_even fields fixed [] each start = refl
all_even fields fixed (r ∷ list) each start =
    let e : length r ≡ shortest fields = fixed_length fields r each.0.0 fixed each.0.1 in
    ap (λ n. record { start = start; len = n } ∷ places_from (start + n) list) e
    ∙ ap (λ l. record { start = start; len = shortest fields } ∷ l) (all_even fields fixed list each.1 (start + shortest fields))

-- they have so many octets together
all_long : (fields : List FieldSpec) → are_fixed fields ≡ true → (list : List (List ℕ)) → AllByRecursion (IsSomeRecord fields) list → length (concat list) ≡ length list * shortest fields
all_long fields fixed [] each = omega arith
all_long fields fixed (r ∷ list) each =
    let e : length r ≡ shortest fields = fixed_length fields r each.0.0 fixed each.0.1 in
    let l = length-append r (concat list) in
    let rest = all_long fields fixed list each.1 in
    let m = suc-mul (length list) (shortest fields) in
    omega arith

count_is : (fields : List FieldSpec) → are_fixed fields ≡ true → (body : List ℕ) (list : List (List ℕ)) → IsRecords fields body list → length body / shortest fields ≡ length list
count_is fields fixed body list r =
    let whole : length body ≡ length list * shortest fields + length r.end = ap length r.whole ∙ (length-append (concat list) r.end ∙ ap (λ n. n + length r.end) (all_long fields fixed list r.each)) in
    ap (λ n. n / shortest fields) whole ∙ div-mul-add (length list) (shortest fields) (length r.end) r.ends

-- A body has its records at such places, as many as its length tells.
pub even_are_placed : (fields : List FieldSpec) → are_fixed fields ≡ true → 0 < shortest fields → (body : List ℕ) (start : ℕ) (places : List Place) → places ≡ even_places start (shortest fields) (length body / shortest fields)
    → ArePlaced fields body start places
even_are_placed fields fixed some body start places e =
    let r = fixed_records fields body fixed some in
    (r.0, r.1, e ∙ (ap (even_places start (shortest fields)) (count_is fields fixed body r.0 r.1) ∙ sym (all_even fields fixed r.0 r.1.each start)))

one_more : (i : ℕ) → i + 1 ≡ suc i
one_more i = omega arith

-- a place more
next_start : (start len i at : ℕ) → at ≡ start + i * len → at + len ≡ start + (i + 1) * len
next_start start len i at e =
    let m : (i + 1) * len ≡ i * len + len = ap (λ n. n * len) (one_more i) ∙ suc-mul i len in
    omega arith

pub lined_more : (places : List Place) (start len i at : ℕ) → i < length places → (take i places ≡ even_places start len i) × (at ≡ start + i * len)
    → (take (i + 1) (set places i (record { start = at; len = len })) ≡ even_places start len (i + 1)) × (at + len ≡ start + (i + 1) * len)
lined_more places start len i at inside h = (
  take_more_set places i (record { start = at; len = len }) inside
      ∙ (ap (λ l. l ++ record { start = at; len = len } ∷ []) h.0 ∙ (ap (λ n. even_places start len i ++ record { start = n; len = len } ∷ []) h.1 ∙ (sym (even_more start len i) ∙ ap (even_places start len) (sym (one_more i))))),
  next_start start len i at h.1,
)
