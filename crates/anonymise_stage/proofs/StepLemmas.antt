-- A record is changed field by field.
use Rattle.std.proofs.Common.{◌≡◌, ℕ, ◌+◌, ◌-◌, ◌≤◌, true, false, ◌&&◌, cond, List, [], ◌∷◌, ◌++◌, None, length, take, drop, ap, sym, subst, ◌∙◌, arith, append_assoc, length-append, length-take-le, length-drop}
use Rattle.std.proofs.Math.Seq.{take-add, drop-append_seam}
use Rattle.std.proofs.lemmas.List.{take-append-drop, drop-drop, take_at, drop_at}
use Rattle.wire_spec.specs.declared.field.FieldSpec.{FieldSpec}
use Rattle.wire_spec.specs.Record.{IsSomeRecord}
use Rattle.wire_spec.specs.Values.{lead, size_of, value_of}
use Rattle.wire_spec.specs.Size.{value_size}
use Rattle.wire_spec.proofs.FieldLemmas.{value_begins}
use Rattle.wire_spec.proofs.ValuesLemmas.{size_is}
use Rattle.record_iter.specs.declared.place.ValuePlace.{ValuePlace}
use Rattle.record_iter.specs.Place.{IsValuePlace}
use Rattle.config_spec.specs.declared.tables.AnonTable.{AnonTable}
use Rattle.act_spec.specs.Anonymise.{is_listed, is_address, best_row, changed_by, hidden_value, hidden_octets}
use Rattle.act_spec.proofs.HiddenLemmas.{hidden_length}
use Rattle.anonymise_stage.specs.Step.{IsFieldHidden}

-- The value at a place was changed as it is to be.
pub value_hidden : (table : AnonTable) (f : FieldSpec) (at : ℕ) (old : List ℕ) (place : ValuePlace) (value : List ℕ) → IsValuePlace f.len old at place
    → value ≡ hidden_value table f (take place.len (drop place.at old)) → IsFieldHidden table f at old (take place.at old ++ (value ++ drop (place.at + place.len) old)) (place.at + place.len)
value_hidden table f at old place value p e =
    let begins = p.begins in
    let ends = p.ends in
    let inside = p.inside in
    record {
      goes_on = p.ends;
      front = omega arith;
      inside = p.inside;
      octets = ap (λ n. take n old ++ (value ++ drop (place.at + place.len) old)) p.begins
          ∙ ap (λ v. take (at + lead f.len (drop at old)) old ++ (v ++ drop (place.at + place.len) old)) (e ∙ ap (hidden_value table f) p.value);
    }

-- A place parts octets in three.
pub three_parts : (old : List ℕ) (at count : ℕ) → old ≡ take at old ++ (take count (drop at old) ++ drop (at + count) old)
three_parts old at count =
    sym (take-append-drop at old)
    ∙ ap (λ x. take at old ++ x) (sym (take-append-drop count (drop at old)) ∙ ap (λ x. take count (drop at old) ++ x) (drop-drop count at old))

-- A field that isn't listed stays.
pub not_listed : (table : AnonTable) (f : FieldSpec) (at : ℕ) (old : List ℕ) (place : ValuePlace) → IsValuePlace f.len old at place → is_listed table f ≡ false
    → IsFieldHidden table f at old old (place.at + place.len)
not_listed table f at old place p e =
    let value = take place.len (drop place.at old) in
    let same : value ≡ hidden_value table f value = ap (λ b. cond (b && is_address value) (changed_by table (best_row table.rows value) value) value) (sym e) in
    subst (λ (x : List ℕ). IsFieldHidden table f at old x (place.at + place.len)) (sym (three_parts old place.at place.len)) (value_hidden table f at old place value p same)

-- A listed field is changed where it is an address.
pub listed : (table : AnonTable) (f : FieldSpec) (value : List ℕ) → is_listed table f ≡ true
    → cond (is_address value) (changed_by table (best_row table.rows value) value) value ≡ hidden_value table f value
listed table f value e = ap (λ b. cond (b && is_address value) (changed_by table (best_row table.rows value) value) value) (sym e)

-- What is left of a record has its first field, and behind it the others.
pub field_there : (f : FieldSpec) (fields : List FieldSpec) (octets : List ℕ) → IsSomeRecord (f ∷ fields) octets → value_size f.len octets ≡ None → ⊥
field_there f fields octets r = value_begins f fields octets ∣ r ∣₁

rest_left : (f : FieldSpec) (fields : List FieldSpec) (octets : List ℕ) → IsSomeRecord (f ∷ fields) octets → IsSomeRecord fields (drop (size_of f.len octets) octets)
rest_left f fields octets ([], p) = absurd p
rest_left f fields octets (v ∷ values, p) =
    let behind : drop (size_of f.len octets) octets ≡ p.1 = ap (λ o. drop (size_of f.len o) o) p.4 ∙ (ap (λ n. drop n (p.0 ++ p.1)) (size_is f.len p.0 v p.1 p.2) ∙ drop-append_seam p.0 p.1) in
    subst (IsSomeRecord fields) (sym behind) (values, p.3)

-- the front of a changed field, which ends where the next one begins
front_length : (table : AnonTable) (f : FieldSpec) (at : ℕ) (old new : List ℕ) (to : ℕ) → at ≤ length old → IsFieldHidden table f at old new to
    → length (take (at + lead f.len (drop at old)) old ++ hidden_value table f (value_of f.len (drop at old))) ≡ to
front_length table f at old new to within h =
    let n = lead f.len (drop at old) in
    let s = size_of f.len (drop at old) in
    let on = h.goes_on in
    let front = h.front in
    let inside = h.inside in
    let a = length-append (take (at + n) old) (hidden_value table f (value_of f.len (drop at old))) in
    let b : length (take (at + n) old) ≡ at + n = length-take-le (at + n) old (omega arith) in
    let c = hidden_length table f (value_of f.len (drop at old)) in
    let d = length-drop at old in
    let e = length-drop n (drop at old) in
    let g : length (value_of f.len (drop at old)) ≡ s - n = length-take-le (s - n) (drop n (drop at old)) (omega arith) in
    omega arith

abbrev Left : AnonTable → List FieldSpec → ℕ → List ℕ → List ℕ
Left table fields at octets = take at octets ++ hidden_octets table fields (drop at octets)

-- One field more: what is changed so far, and what is left.
pub one_field : (table : AnonTable) (f : FieldSpec) (fields : List FieldSpec) (at : ℕ) (old new : List ℕ) (to : ℕ) → at ≤ length old → IsFieldHidden table f at old new to
    → Left table fields to new ≡ Left table (f ∷ fields) at old
one_field table f fields at old new to within h =
    let o = drop at old in
    let n = lead f.len o in
    let v = hidden_value table f (value_of f.len o) in
    let front = take (at + n) old ++ v in
    let long = front_length table f at old new to within h in
    let whole : new ≡ front ++ drop to old = h.octets ∙ sym (append_assoc (take (at + n) old) v (drop to old)) in
    let begin : take to new ≡ front = ap (take to) whole ∙ take_at front (drop to old) to long in
    let behind : drop to new ≡ drop (size_of f.len o) o = ap (drop to) whole ∙ (drop_at front (drop to old) to long ∙ (ap (λ k. drop k old) h.goes_on ∙ sym (drop-drop (size_of f.len o) at old))) in
    let rest = hidden_octets table fields (drop (size_of f.len o) o) in
    ap (λ x. x ++ hidden_octets table fields (drop to new)) begin
    ∙ (ap (λ x. front ++ hidden_octets table fields x) behind
    ∙ (ap (λ x. (x ++ v) ++ rest) (take-add at n old) ∙ (ap (λ x. x ++ rest) (append_assoc (take at old) (take n o) v) ∙ append_assoc (take at old) (take n o ++ v) rest)))

-- What is left is left of a record.
pub record_left : (table : AnonTable) (f : FieldSpec) (fields : List FieldSpec) (at : ℕ) (old new : List ℕ) (to : ℕ) → at ≤ length old → IsFieldHidden table f at old new to
    → IsSomeRecord (f ∷ fields) (drop at old) → IsSomeRecord fields (drop to new)
record_left table f fields at old new to within h r =
    let o = drop at old in
    let v = hidden_value table f (value_of f.len o) in
    let front = take (at + lead f.len o) old ++ v in
    let whole : new ≡ front ++ drop to old = h.octets ∙ sym (append_assoc (take (at + lead f.len o) old) v (drop to old)) in
    let behind : drop to new ≡ drop (size_of f.len o) o =
    ap (drop to) whole ∙ (drop_at front (drop to old) to (front_length table f at old new to within h) ∙ (ap (λ k. drop k old) h.goes_on ∙ sym (drop-drop (size_of f.len o) at old))) in
    subst (IsSomeRecord fields) (sym behind) (rest_left f fields o r)

-- The record stays as long.
pub inside_left : (table : AnonTable) (f : FieldSpec) (at : ℕ) (old new : List ℕ) (to : ℕ) → at ≤ length old → IsFieldHidden table f at old new to → to ≤ length new
inside_left table f at old new to within h =
    let o = drop at old in
    let v = hidden_value table f (value_of f.len o) in
    let front = take (at + lead f.len o) old ++ v in
    let long = front_length table f at old new to within h in
    let whole = ap length (h.octets ∙ sym (append_assoc (take (at + lead f.len o) old) v (drop to old))) ∙ length-append front (drop to old) in
    omega arith
