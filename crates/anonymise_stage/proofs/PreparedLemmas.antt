-- The places of listed addresses are changed as the fields are.
use Rattle.std.proofs.Common.{◌≡◌, ℕ, suc, ◌+◌, ◌-◌, ◌≤◌, Bool, true, false, ◌&&◌, cond, List, [], ◌∷◌, ◌++◌, Some, None, length, take, drop, refl, ap, sym, subst, ◌∙◌, arith, append_assoc, length-append, length-drop, length-take-le}
use Rattle.std.specs.Prelude.{◌==◌, ◌||◌, nat_eq, Option}
use Rattle.std.specs.List.{AllByRecursion}
use Rattle.std.proofs.lemmas.Bool.{and_parts, not-true, le-ltb}
use Rattle.std.proofs.lemmas.List.{drop-drop, take_at, drop_at, take_all, append-nil}
use Rattle.std.proofs.lemmas.List.Sums.{sum_by-cons}
use Rattle.std.proofs.Math.Seq.{take-add}
use borrow.Rule.Slice.PartMut.{put_mid, mid_of}
use Rattle.wire_spec.specs.declared.field.FieldSpec.{FieldSpec}
use Rattle.wire_spec.specs.Message.{least_of}
use Rattle.wire_spec.specs.Record.{IsSomeRecord, shortest}
use Rattle.wire_spec.specs.Size.{are_fixed, fits, variable_size}
use Rattle.wire_spec.specs.Values.{lead, size_or_none, size_of, value_of}
use Rattle.wire_spec.proofs.FixedLemmas.{fixed_length}
use Rattle.record_iter.specs.declared.place.ValuePlace.{ValuePlace}
use Rattle.config_spec.specs.declared.tables.AnonTable.{AnonTable}
use Rattle.config_spec.specs.declared.tables.AnonRow.{AnonRow}
use Rattle.config_spec.specs.Texts.{masked}
use Rattle.act_spec.specs.Bits.{in_place}
use Rattle.act_spec.specs.Anonymise.{best_row, bits_kept, changed_by, is_address, is_listed, hidden_value, hidden_octets}
use Rattle.anonymise_stage.specs.Prepared.{places_of, address_hidden, hidden_place, hidden_at}

-- What a call over a part of a record leaves of it.
pub placed : (table : AnonTable) (p : ValuePlace) (count : ℕ) (octets value : List ℕ) → count ≡ p.len → value ≡ address_hidden table (mid_of p.at count octets)
    → put_mid p.at count octets value ≡ hidden_place table p octets
placed table p count octets value e v =
    ap (λ n. put_mid p.at n octets value) e
    ∙ (ap (λ x. take p.at octets ++ (value ++ x)) (drop-drop p.len p.at octets)
    ∙ ap (λ x. take p.at octets ++ (x ++ drop (p.at + p.len) octets)) (v ∙ ap (λ n. address_hidden table (mid_of p.at n octets)) e))

-- the first field of fields that don't vary in length
pub record IsFirst (f : FieldSpec) (fields : List FieldSpec) : Type 0 where
  pub other : nat_eq f.len 65535 ≡ false
  pub others : are_fixed fields ≡ true
  pub size : shortest (f ∷ fields) ≡ f.len + shortest fields

first_fixed : (f : FieldSpec) (fields : List FieldSpec) → are_fixed (f ∷ fields) ≡ true → IsFirst f fields
first_fixed f fields e =
    let parts = and_parts _ _ e in
    let other : nat_eq f.len 65535 ≡ false = not-true (nat_eq f.len 65535) parts.0 in
    let least : least_of f.len ≡ f.len = rw other refl in
    let c = sum_by-cons (λ (g : FieldSpec). least_of g.len) f fields in
    record { other = other; others = parts.1; size = omega arith }

fixed_size : (len : ℕ) (o : List ℕ) → nat_eq len 65535 ≡ false → len ≤ length o → size_of len o ≡ len
fixed_size len o other le = ap (λ b. size_or_none (cond b (variable_size o) (fits len o))) other ∙ ap (λ b. size_or_none (cond b None (Some len))) (le-ltb (length o) len le)

no_lead : (len : ℕ) (o : List ℕ) → nat_eq len 65535 ≡ false → lead len o ≡ 0
no_lead len o other = rw other refl

fixed_value : (len : ℕ) (o : List ℕ) → nat_eq len 65535 ≡ false → len ≤ length o → value_of len o ≡ take len o
fixed_value len o other le =
    let size = fixed_size len o other le in
    let all : size_of len o - 0 ≡ len = omega arith in
    ap (λ n. take (size_of len o - n) (drop n o)) (no_lead len o other) ∙ ap (λ n. take n o) all

-- the first field of a record that doesn't vary in length, and the others
first_hidden : (table : AnonTable) (f : FieldSpec) (fields : List FieldSpec) (o : List ℕ) → nat_eq f.len 65535 ≡ false → f.len ≤ length o
    → hidden_octets table (f ∷ fields) o ≡ hidden_value table f (take f.len o) ++ hidden_octets table fields (drop f.len o)
first_hidden table f fields o other le =
    ap (λ n. take n o ++ hidden_value table f (value_of f.len o) ++ hidden_octets table fields (drop (size_of f.len o) o)) (no_lead f.len o other)
    ∙ (ap (λ v. hidden_value table f v ++ hidden_octets table fields (drop (size_of f.len o) o)) (fixed_value f.len o other le)
    ∙ ap (λ n. hidden_value table f (take f.len o) ++ hidden_octets table fields (drop n o)) (fixed_size f.len o other le))

-- Each place lies inside a record.
pub places_inside : (table : AnonTable) (fields : List FieldSpec) (at n : ℕ) → are_fixed fields ≡ true → at + shortest fields ≤ n → AllByRecursion (λ (p : ValuePlace). p.at + p.len ≤ n) (places_of table at fields)
places_inside table [] at n fixed le = tt
places_inside table (f ∷ fields) at n fixed le =
    let p = first_fixed f fields fixed in
    let size = p.size in
    by_test (is_listed table f && (f.len == 4 || f.len == 16)) (omega arith) (places_inside table fields (at + f.len) n p.others (omega arith))
  where
    by_test : (b : Bool) → at + f.len ≤ n → AllByRecursion (λ (p : ValuePlace). p.at + p.len ≤ n) (places_of table (at + f.len) fields)
        → AllByRecursion (λ (p : ValuePlace). p.at + p.len ≤ n) (cond b (record { at = at; len = f.len } ∷ places_of table (at + f.len) fields) (places_of table (at + f.len) fields))
    by_test true first rest = (first, rest)
    by_test false first rest = rest

abbrev Left : AnonTable → List FieldSpec → ℕ → List ℕ → List ℕ
Left table fields at octets = take at octets ++ hidden_octets table fields (drop at octets)

-- a changed value in a record
record IsPlaced (table : AnonTable) (fields : List FieldSpec) (at len : ℕ) (octets value : List ℕ) : Type 0 where
  pub left : Left table fields (at + len) (take at octets ++ (value ++ drop (at + len) octets)) ≡ take at octets ++ (value ++ hidden_octets table fields (drop len (drop at octets)))
  pub long : length (take at octets ++ (value ++ drop (at + len) octets)) ≡ length octets

value_placed : (table : AnonTable) (fields : List FieldSpec) (at len : ℕ) (octets value : List ℕ) → at + len ≤ length octets → length value ≡ len → IsPlaced table fields at len octets value
value_placed table fields at len octets value le e =
    let front = take at octets ++ value in
    let new = take at octets ++ (value ++ drop (at + len) octets) in
    let whole : new ≡ front ++ drop (at + len) octets = sym (append_assoc (take at octets) value (drop (at + len) octets)) in
    let t : length (take at octets) ≡ at = length-take-le at octets (omega arith) in
    let l = length-append (take at octets) value in
    let long : length front ≡ at + len = omega arith in
    let d = length-drop (at + len) octets in
    let m = ap length whole ∙ length-append front (drop (at + len) octets) in
    let begin : take (at + len) new ≡ front = ap (take (at + len)) whole ∙ take_at front (drop (at + len) octets) (at + len) long in
    let behind : drop (at + len) new ≡ drop len (drop at octets) = ap (drop (at + len)) whole ∙ (drop_at front (drop (at + len) octets) (at + len) long ∙ sym (drop-drop len at octets)) in
    record {
      left = ap (λ x. x ++ hidden_octets table fields (drop (at + len) new)) begin
          ∙ (ap (λ x. front ++ hidden_octets table fields x) behind ∙ append_assoc (take at octets) value (hidden_octets table fields (drop len (drop at octets))));
      long = omega arith;
    }

masked_length : (bits : ℕ) (octets : List ℕ) → length (masked bits octets) ≡ length octets
masked_length bits [] = refl
masked_length bits (o ∷ octets) = ap suc (masked_length (bits - 8) octets)

in_place_length : (bits : ℕ) (first octets : List ℕ) → length (in_place bits first octets) ≡ length octets
in_place_length bits [] octets = refl
in_place_length bits (f ∷ first) [] = refl
in_place_length bits (f ∷ first) (o ∷ octets) = ap suc (in_place_length (bits - 8) first octets)

changed_length : (table : AnonTable) (row : Option AnonRow) (value : List ℕ) → length (changed_by table row value) ≡ length value
changed_length table None value = masked_length (bits_kept table value) value
changed_length table (Some row) value = in_place_length row.from.bits row.to value

-- a value that stays
passed : (table : AnonTable) (fields : List FieldSpec) (at len : ℕ) (octets : List ℕ)
    → Left table fields (at + len) octets ≡ take at octets ++ (take len (drop at octets) ++ hidden_octets table fields (drop len (drop at octets)))
passed table fields at len octets =
    ap (λ x. x ++ hidden_octets table fields (drop (at + len) octets)) (take-add at len octets)
    ∙ (append_assoc (take at octets) (take len (drop at octets)) (hidden_octets table fields (drop (at + len) octets))
    ∙ ap (λ x. take at octets ++ (take len (drop at octets) ++ hidden_octets table fields x)) (sym (drop-drop len at octets)))

address_length : (table : AnonTable) (value : List ℕ) → length (address_hidden table value) ≡ length value
address_length table value = by_test (is_address value) refl
  where
    by_test : (b : Bool) → is_address value ≡ b → length (cond b (changed_by table (best_row table.rows value) value) value) ≡ length value
    by_test true e = changed_length table (best_row table.rows value) value
    by_test false e = refl

-- one field
one_place : (table : AnonTable) (f : FieldSpec) (fields : List FieldSpec) (at : ℕ) (octets : List ℕ) (l a : Bool) → is_listed table f ≡ l → is_address (take f.len (drop at octets)) ≡ a
    → hidden_at table (places_of table (at + f.len) fields) (hidden_place table (record { at = at; len = f.len }) octets)
    ≡ take at octets ++ (address_hidden table (take f.len (drop at octets)) ++ hidden_octets table fields (drop f.len (drop at octets)))
    → hidden_at table (places_of table (at + f.len) fields) octets ≡ take at octets ++ (take f.len (drop at octets) ++ hidden_octets table fields (drop f.len (drop at octets)))
    → hidden_at table (cond (l && a) (record { at = at; len = f.len } ∷ places_of table (at + f.len) fields) (places_of table (at + f.len) fields)) octets
    ≡ take at octets ++ (hidden_value table f (take f.len (drop at octets)) ++ hidden_octets table fields (drop f.len (drop at octets)))
one_place table f fields at octets l a listed is changed same = by_test l a listed is
  where
    by_test : (l a : Bool) → is_listed table f ≡ l → is_address (take f.len (drop at octets)) ≡ a
        → hidden_at table (cond (l && a) (record { at = at; len = f.len } ∷ places_of table (at + f.len) fields) (places_of table (at + f.len) fields)) octets
        ≡ take at octets ++ (hidden_value table f (take f.len (drop at octets)) ++ hidden_octets table fields (drop f.len (drop at octets)))
    by_test true true e g = changed
        ∙ ap (λ b. take at octets ++ (cond (b && is_address (take f.len (drop at octets))) (changed_by table (best_row table.rows (take f.len (drop at octets))) (take f.len (drop at octets))) (take f.len (drop at octets))
        ++ hidden_octets table fields (drop f.len (drop at octets)))) (sym e)
    by_test true false e g = same
        ∙ (ap (λ b. take at octets ++ (cond (true && b) (changed_by table (best_row table.rows (take f.len (drop at octets))) (take f.len (drop at octets))) (take f.len (drop at octets))
        ++ hidden_octets table fields (drop f.len (drop at octets)))) (sym g)
        ∙ ap (λ b. take at octets ++ (cond (b && is_address (take f.len (drop at octets))) (changed_by table (best_row table.rows (take f.len (drop at octets))) (take f.len (drop at octets))) (take f.len (drop at octets))
        ++ hidden_octets table fields (drop f.len (drop at octets)))) (sym e))
    by_test false a e g = same
        ∙ ap (λ b. take at octets ++ (cond (b && is_address (take f.len (drop at octets))) (changed_by table (best_row table.rows (take f.len (drop at octets))) (take f.len (drop at octets))) (take f.len (drop at octets))
        ++ hidden_octets table fields (drop f.len (drop at octets)))) (sym e)

-- Changed at their places, the values are those of the changed record.
pub places_hide : (table : AnonTable) (fields : List FieldSpec) (at : ℕ) (octets : List ℕ) → are_fixed fields ≡ true → at + shortest fields ≡ length octets
    → hidden_at table (places_of table at fields) octets ≡ Left table fields at octets
places_hide table [] at octets fixed le = sym (append-nil (take at octets) ∙ take_all at octets (omega arith))
places_hide table (f ∷ fields) at octets fixed le =
    let p = first_fixed f fields fixed in
    let size = p.size in
    let o = drop at octets in
    let l = length-drop at octets in
    let inside : f.len ≤ length o = omega arith in
    let v = take f.len o in
    let long : length v ≡ f.len = length-take-le f.len o inside in
    let test : is_address v ≡ (f.len == 4 || f.len == 16) = ap (λ n. n == 4 || n == 16) long in
    let first = first_hidden table f fields o p.other inside in
    let placed = value_placed table fields at f.len octets (address_hidden table v) (omega arith) (address_length table v ∙ long) in
    let kept = placed.long in
    let new = hidden_place table (record { at = at; len = f.len }) octets in
    let changed = places_hide table fields (at + f.len) new p.others (omega arith) ∙ placed.left in
    let same = places_hide table fields (at + f.len) octets p.others (omega arith) ∙ passed table fields at f.len octets in
    one_place table f fields at octets (is_listed table f) (f.len == 4 || f.len == 16) refl test changed same ∙ ap (λ x. take at octets ++ x) (sym first)

-- What places hide of a record is what `hidden_octets` says.
pub fixed_hide : (table : AnonTable) (places : List ValuePlace) (fields : List FieldSpec) (octets : List ℕ) → are_fixed fields ≡ true → places ≡ places_of table 0 fields → IsSomeRecord fields octets
    → hidden_at table places octets ≡ hidden_octets table fields octets
fixed_hide table places fields octets fixed is r =
    let long = fixed_length fields octets r.0 fixed r.1 in
    ap (λ (p : List ValuePlace). hidden_at table p octets) is ∙ places_hide table fields 0 octets fixed (omega arith)

pub fixed_inside : (table : AnonTable) (places : List ValuePlace) (fields : List FieldSpec) (octets : List ℕ) → are_fixed fields ≡ true → places ≡ places_of table 0 fields → IsSomeRecord fields octets
    → AllByRecursion (λ (p : ValuePlace). p.at + p.len ≤ length octets) places
fixed_inside table places fields octets fixed is r =
    let long = fixed_length fields octets r.0 fixed r.1 in
    subst (AllByRecursion (λ (p : ValuePlace). p.at + p.len ≤ length octets)) (sym is) (places_inside table fields 0 (length octets) fixed (omega arith))
