-- The places of a rule's fields, and the rules that apply, decide as the table does.
use Rattle.std.proofs.Common.{◌≡◌, ℕ, ◌+◌, ◌-◌, ◌≤◌, Bool, true, false, ◌&&◌, cond, List, [], ◌∷◌, Some, None, length, take, drop, map, refl, ap, sym, subst, ◌∙◌, arith, length-drop}
use Rattle.std.specs.Prelude.{◌==◌, ◌||◌, nat_eq, filter}
use Rattle.std.specs.List.{AllByRecursion}
use Rattle.std.proofs.lemmas.Bool.{and_parts, not-true, le-ltb, or_parts, or_from}
use Rattle.std.proofs.lemmas.List.{drop-drop}
use Rattle.std.proofs.lemmas.List.Sums.{sum_by-cons}
use Rattle.wire_spec.specs.declared.field.FieldSpec.{FieldSpec}
use Rattle.wire_spec.specs.Message.{least_of}
use Rattle.wire_spec.specs.Record.{IsSomeRecord, shortest}
use Rattle.wire_spec.specs.Size.{are_fixed, fits, variable_size}
use Rattle.wire_spec.specs.Values.{lead, size_or_none, size_of, value_of, values_of}
use Rattle.wire_spec.proofs.FixedLemmas.{fixed_length}
use Rattle.record_iter.specs.declared.place.ValuePlace.{ValuePlace}
use Rattle.config_spec.specs.declared.tables.FilterTable.{FilterTable}
use Rattle.config_spec.specs.declared.tables.Rule.{Rule}
use Rattle.act_spec.specs.Filter.{passes, matches, keeps_by, keeps}
use Rattle.filter_stage.specs.Field.{field_passes}
use Rattle.filter_stage.specs.Prepared.{has_element, applies, places_of, passes_at, rule_of, Suits}
use Rattle.filter_stage.specs.declared.prepared.PreparedFilter.{PreparedFilter}

-- the first field of fields that don't vary in length
pub record IsFirst (f : FieldSpec) (fields : List FieldSpec) : Type 0 where
  pub other : nat_eq f.len 65535 ≡ false
  pub others : are_fixed fields ≡ true
  pub size : shortest (f ∷ fields) ≡ f.len + shortest fields

pub first_fixed : (f : FieldSpec) (fields : List FieldSpec) → are_fixed (f ∷ fields) ≡ true → IsFirst f fields
first_fixed f fields e =
    let parts = and_parts _ _ e in
    let other : nat_eq f.len 65535 ≡ false = not-true (nat_eq f.len 65535) parts.0 in
    let least : least_of f.len ≡ f.len = rw other refl in
    let c = sum_by-cons (λ (g : FieldSpec). least_of g.len) f fields in
    record { other = other; others = parts.1; size = omega arith }

fixed_size : (len : ℕ) (o : List ℕ) → nat_eq len 65535 ≡ false → len ≤ length o → size_of len o ≡ len
fixed_size len o other le = ap (λ b. size_or_none (cond b (variable_size o) (fits len o))) other ∙ ap (λ b. size_or_none (cond b None (Some len))) (le-ltb (length o) len le)

fixed_value : (len : ℕ) (o : List ℕ) → nat_eq len 65535 ≡ false → len ≤ length o → value_of len o ≡ take len o
fixed_value len o other le =
    let none : lead len o ≡ 0 = rw other refl in
    let size = fixed_size len o other le in
    let all : size_of len o - 0 ≡ len = omega arith in
    ap (λ n. take (size_of len o - n) (drop n o)) none ∙ ap (λ n. take n o) all

-- Each place lies inside a record.
pub places_inside : (rule : Rule) (fields : List FieldSpec) (at n : ℕ) → are_fixed fields ≡ true → at + shortest fields ≤ n → AllByRecursion (λ (p : ValuePlace). p.at + p.len ≤ n) (places_of rule at fields)
places_inside rule [] at n fixed le = tt
places_inside rule (f ∷ fields) at n fixed le =
    let p = first_fixed f fields fixed in
    let size = p.size in
    by_test (has_element rule f) (omega arith) (places_inside rule fields (at + f.len) n p.others (omega arith))
  where
    by_test : (b : Bool) → at + f.len ≤ n → AllByRecursion (λ (p : ValuePlace). p.at + p.len ≤ n) (places_of rule (at + f.len) fields)
        → AllByRecursion (λ (p : ValuePlace). p.at + p.len ≤ n) (cond b (record { at = at; len = f.len } ∷ places_of rule (at + f.len) fields) (places_of rule (at + f.len) fields))
    by_test true first rest = (first, rest)
    by_test false first rest = rest

-- The values at the places decide as the fields do.
pub places_decide : (rule : Rule) (fields : List FieldSpec) (at : ℕ) (octets : List ℕ) → are_fixed fields ≡ true → at + shortest fields ≤ length octets
    → passes_at rule.test (places_of rule at fields) octets ≡ matches rule fields (values_of fields (drop at octets))
places_decide rule [] at octets fixed le = refl
places_decide rule (f ∷ fields) at octets fixed le =
    let p = first_fixed f fields fixed in
    let size = p.size in
    let l = length-drop at octets in
    let o = drop at octets in
    let inside : f.len ≤ length o = omega arith in
    let behind : drop (at + f.len) octets ≡ drop (size_of f.len o) o = sym (drop-drop f.len at octets) ∙ ap (λ n. drop n o) (sym (fixed_size f.len o p.other inside)) in
    let rest = places_decide rule fields (at + f.len) octets p.others (omega arith) ∙ ap (λ r. matches rule fields (values_of fields r)) behind in
    by_test (f.pen == rule.pen) (f.id == rule.id) (matches rule fields (values_of fields (drop (size_of f.len o) o))) rest
    ∙ ap (λ v. field_passes rule f v || matches rule fields (values_of fields (drop (size_of f.len o) o))) (sym (fixed_value f.len o p.other inside))
  where
    by_test : (a b d : Bool) → passes_at rule.test (places_of rule (at + f.len) fields) octets ≡ d
        → passes_at rule.test (cond (a && b) (record { at = at; len = f.len } ∷ places_of rule (at + f.len) fields) (places_of rule (at + f.len) fields)) octets
        ≡ ((a && (b && passes rule.test (take f.len (drop at octets)))) || d)
    by_test true true d e = ap (λ x. passes rule.test (take f.len (drop at octets)) || x) e
    by_test true false d e = e
    by_test false b d e = e

not_passed : (a b c : Bool) → (a && b) ≡ false → (a && (b && c)) ≡ false
not_passed true b c e = ap (λ x. x && c) e
not_passed false b c e = refl

-- A rule on no field of the record doesn't match.
pub no_match : (rule : Rule) (fields : List FieldSpec) (values : List (List ℕ)) → applies fields rule ≡ false → matches rule fields values ≡ false
no_match rule [] values e = refl
no_match rule (f ∷ fields) [] e = refl
no_match rule (f ∷ fields) (v ∷ values) e =
    let p = or_parts (has_element rule f) (applies fields rule) e in
    or_from _ _ (not_passed (f.pen == rule.pen) (f.id == rule.id) (passes rule.test v) p.0) (no_match rule fields values p.1)

-- The rules that apply decide.
pub others_decide : (other : Bool) (rules : List Rule) (fields : List FieldSpec) (values : List (List ℕ)) → keeps_by other (filter (applies fields) rules) fields values ≡ keeps_by other rules fields values
others_decide other [] fields values = refl
others_decide other (rule ∷ rules) fields values = by_test (others_decide other rules fields values) (applies fields rule) refl
  where
    by_test : keeps_by other (filter (applies fields) rules) fields values ≡ keeps_by other rules fields values → (b : Bool) → applies fields rule ≡ b
        → keeps_by other (cond b (rule ∷ filter (applies fields) rules) (filter (applies fields) rules)) fields values ≡ keeps_by other (rule ∷ rules) fields values
    by_test rest true e = ap (λ k. cond (matches rule fields values) rule.keep k) rest
    by_test rest false e = rest ∙ ap (λ b. cond b rule.keep (keeps_by other rules fields values)) (sym (no_match rule fields values e))

-- The rules that are kept decide as the table does.
pub table_decides : (table : FilterTable) (fields : List FieldSpec) (prepared : PreparedFilter) (values : List (List ℕ)) → Suits table fields prepared
    → keeps_by prepared.default_keep (map rule_of prepared.rules.items) fields values ≡ keeps table fields values
table_decides table fields prepared values s =
    ap (λ other. keeps_by other (map rule_of prepared.rules.items) fields values) s.default
    ∙ (ap (λ (rules : List Rule). keeps_by table.default_keep rules fields values) s.rules ∙ others_decide table.default_keep table.rules fields values)

-- A rule matches where a value at one of its places passes, and they lie inside the record.
pub fixed_decides : (rule : Rule) (places : List ValuePlace) (fields : List FieldSpec) (octets : List ℕ) → are_fixed fields ≡ true → places ≡ places_of rule 0 fields → IsSomeRecord fields octets
    → passes_at rule.test places octets ≡ matches rule fields (values_of fields octets)
fixed_decides rule places fields octets fixed has r =
    let long = fixed_length fields octets r.0 fixed r.1 in
    ap (λ (p : List ValuePlace). passes_at rule.test p octets) has ∙ places_decide rule fields 0 octets fixed (omega arith)

pub fixed_inside : (rule : Rule) (places : List ValuePlace) (fields : List FieldSpec) (octets : List ℕ) → are_fixed fields ≡ true → places ≡ places_of rule 0 fields → IsSomeRecord fields octets
    → AllByRecursion (λ (p : ValuePlace). p.at + p.len ≤ length octets) places
fixed_inside rule places fields octets fixed has r =
    let long = fixed_length fields octets r.0 fixed r.1 in
    subst (AllByRecursion (λ (p : ValuePlace). p.at + p.len ≤ length octets)) (sym has) (places_inside rule fields 0 (length octets) fixed (omega arith))
