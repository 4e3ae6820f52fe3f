-- Records stand at their places, and are found there.
use Rattle.std.proofs.Common.{◌≡◌, ℕ, ◌+◌, ◌^◌, ◌<◌, List, [], ◌∷◌, ◌++◌, None, Some, map, take, drop, length, refl, ap, sym, subst, ◌∙◌, arith, append_assoc, append-nil, length-append}
use Rattle.std.specs.Prelude.{Option}
use Rattle.std.specs.List.{AllByRecursion, concat}
use Rattle.std.proofs.Math.Seq.{take-append_seam, drop-append_seam}
use Rattle.std.proofs.lemmas.List.Folds.{concat-append}
use Rattle.wire_spec.specs.declared.field.FieldSpec.{FieldSpec}
use Rattle.wire_spec.specs.Record.{IsRecord, IsSomeRecord, IsRecords, AreSomeRecords, shortest}
use Rattle.wire_spec.proofs.RecordLemmas.{one_list}
use Rattle.wire_spec.proofs.ValuesLemmas.{values_are}
use Rattle.run_spec.specs.Records.{Record, record_of, records_of}
use Rattle.run_spec.proofs.RecordLemmas.{IsRight, records_right}
use Rattle.record_iter.specs.Walk.{GivesRecord, HaveRecords}
use Rattle.pipeline_message.specs.declared.message.Place.{Place}
use Rattle.pipeline_message.specs.Items.{octets_at, IsRecordAt}
use Rattle.record_places.specs.Places.{places_from}

-- One record more stands behind the others.
pub places_more : (start : ℕ) (list : List (List ℕ)) (r : List ℕ) → places_from start (list ++ r ∷ []) ≡ places_from start list ++ record { start = start + length (concat list); len = length r } ∷ []
places_more start [] r = ap (λ n. record { start = n; len = length r } ∷ []) (omega arith)
places_more start (x ∷ list) r =
    let e : (start + length x) + length (concat list) ≡ start + length (concat (x ∷ list)) = (let l = length-append x (concat list) in omega arith) in
    ap (λ l. record { start = start; len = length x } ∷ l)
    (places_more (start + length x) list r ∙ ap (λ n. places_from (start + length x) list ++ record { start = n; len = length r } ∷ []) e)

-- A record of a body ends before the octet 2 ^ 32 of the message, where the body does.
pub within : {fields left : List FieldSpec} {body rest : List ℕ} {list : List (List ℕ)} (next : List FieldSpec) (first new : List ℕ) (start : ℕ)
    → HaveRecords fields body left rest list → GivesRecord left rest (Some first) new × (next ≡ left) → start + length body < 2 ^ 32 → (start + length (concat list)) + length first < 2 ^ 32
within {fields} {left} {body} {rest} {list} next first new start h g below =
    let whole : length body ≡ length (concat list) + length rest = ap length h.whole ∙ length-append (concat list) rest in
    let parts : length rest ≡ length first + length new = ap length g.0.0 ∙ length-append first new in
    omega arith

concat_last : (list : List (List ℕ)) (r : List ℕ) → concat (list ++ r ∷ []) ≡ concat list ++ r
concat_last list r = concat-append list (r ∷ []) ∙ ap (λ l. concat list ++ l) (append-nil r)

-- One record more has its place.
pub placed_more : (start at : ℕ) (places : List Place) (list : List (List ℕ)) (first : List ℕ) → places ≡ places_from start list → at ≡ start + length (concat list)
    → (places ++ record { start = at; len = length first } ∷ [] ≡ places_from start (list ++ first ∷ [])) × (at + length first ≡ start + length (concat (list ++ first ∷ [])))
placed_more start at places list first e f = (
  ap (λ l. l ++ record { start = at; len = length first } ∷ []) e ∙ (ap (λ n. places_from start list ++ record { start = n; len = length first } ∷ []) f ∙ sym (places_more start list first)),
  (let a : length (concat (list ++ first ∷ [])) ≡ length (concat list) + length first = ap length (concat_last list first) ∙ length-append (concat list) first in omega arith),
)

-- The octets of a record stand at its place.
cut_at : (front r back : List ℕ) → take (length r) (drop (length front) (front ++ (r ++ back))) ≡ r
cut_at front r back = ap (take (length r)) (drop-append_seam front (r ++ back)) ∙ take-append_seam r back

-- a record behind some octets of a message stands at its place
first_at : (octets front r back : List ℕ) (start : ℕ) → start ≡ length front → octets ≡ front ++ (r ++ back) → octets_at octets (record { start = start; len = length r }) ≡ r
first_at octets front r back start s whole = ap (λ n. take (length r) (drop n octets)) s ∙ (ap (λ l. take (length r) (drop (length front) l)) whole ∙ cut_at front r back)

-- The records of a body stand in the message at their places.
pub found_at : (octets front end : List ℕ) (list : List (List ℕ)) (start : ℕ) → start ≡ length front → octets ≡ front ++ (concat list ++ end) → map (octets_at octets) (places_from start list) ≡ list
found_at octets front end [] start s e = refl
found_at octets front end (r ∷ list) start s e =
    let whole : octets ≡ front ++ (r ++ (concat list ++ end)) = e ∙ ap (λ l. front ++ l) (append_assoc r (concat list) end) in
    ap (λ x. x ∷ map (octets_at octets) (places_from (start + length r) list)) (first_at octets front r (concat list ++ end) start s whole)
    ∙ ap (λ l. r ∷ l) (found_at octets (front ++ r) end list (start + length r) (ap (λ n. n + length r) s ∙ sym (length-append front r)) (whole ∙ sym (append_assoc front r (concat list ++ end))))

-- Each of their places lies within the message, and one record stands there.
pub sound_at : (fields : List FieldSpec) (octets front end : List ℕ) (list : List (List ℕ)) (start : ℕ) → start ≡ length front → octets ≡ front ++ (concat list ++ end) → AllByRecursion (IsSomeRecord fields) list
    → AllByRecursion (IsRecordAt fields octets) (places_from start list)
sound_at fields octets front end [] start s e each = tt
sound_at fields octets front end (r ∷ list) start s e each =
    let back = concat list ++ end in
    let whole : octets ≡ front ++ (r ++ back) = e ∙ ap (λ l. front ++ l) (append_assoc r (concat list) end) in
    let size : length octets ≡ length front + (length r + length back) = ap length whole ∙ (length-append front (r ++ back) ∙ ap (λ n. length front + n) (length-append r back)) in (
      (omega arith, subst (IsSomeRecord fields) (sym (first_at octets front r back start s whole)) each.0),
      sound_at fields octets (front ++ r) end list (start + length r) (ap (λ n. n + length r) s ∙ sym (length-append front r)) (whole ∙ sym (append_assoc front r back)) each.1,
    )

-- computed values are those of a record
own_values : (fields : List FieldSpec) (records : List Record) → AllByRecursion (λ r. IsRecord fields r.octets r.values) records → records ≡ map (record_of fields) (map (λ r. r.octets) records)
own_values fields [] each = refl
own_values fields (r ∷ records) each =
    ap (λ v. record { octets = r.octets; values = v } ∷ records) (sym (values_are fields r.octets r.values each.0)) ∙ ap (λ l. record_of fields r.octets ∷ l) (own_values fields records each.1)

-- The records of a body are those that are computed of it.
pub records_are : (fields : List FieldSpec) → 0 < shortest fields → (body : List ℕ) (list : List (List ℕ)) → IsRecords fields body list → records_of fields body ≡ Some (map (record_of fields) list)
records_are fields some body list cut = of (records_of fields body) (records_right fields some body)
  where
    of : (r : Option (List Record)) → IsRight fields body r → r ≡ Some (map (record_of fields) list)
    of None right = absurd (right list cut)
    of (Some records) right = ap Some (own_values fields records right.1 ∙ ap (map (record_of fields)) (one_list fields some body (map (λ (r : Record). r.octets) records) list right.0 cut))

-- A body that isn't records has none.
pub records_not : (fields : List FieldSpec) → 0 < shortest fields → (body : List ℕ) → (AreSomeRecords fields body → ⊥) → records_of fields body ≡ None
records_not fields some body none = of (records_of fields body) (records_right fields some body)
  where
    of : (r : Option (List Record)) → IsRight fields body r → r ≡ None
    of None right = refl
    of (Some records) right = absurd (none (map (λ (r : Record). r.octets) records, right.0))
