-- The fields that are read from specifiers, and what their definition keeps.
use Rattle.std.proofs.Common.{◌≡◌, ℕ, zero, suc, ◌+◌, ◌<◌, ◌≤◌, ◌^◌, inl, inr, Bool, true, false, not, List, [], ◌∷◌, ◌++◌, length, drop, refl, ap, sym, subst, ◌∙◌, arith, append_assoc}
use Rattle.std.specs.Prelude.{nat_eq, nat_le, IsTrue, ◌↔◌}
use Rattle.std.specs.List.{AllByRecursion}
use Rattle.std.proofs.lemmas.Bool.{cases_Bool, both_ways, eqb-true, eqb-false, cond_both, leb-true, le-leb}
use Rattle.std.proofs.lemmas.List.{append-nil}
use Rattle.col_base.specs.declared.base.Kind.{Kind}
use Rattle.wire_spec.specs.declared.field.FieldSpec.{FieldSpec}
use Rattle.wire_spec.specs.Message.{front, specifier_size, specifiers_size, shortest_of_specifiers, least_of}
use Rattle.wire_spec.specs.Record.{shortest}
use Rattle.wire_spec.specs.Content.{Definition, fields_of}
use Rattle.wire_spec.specs.Specifiers.{DefineRecords, AreWellFormed, IsField, IsReadBack, specifiers}
use Rattle.wire_spec.proofs.DefinitionLemmas.{fields_count, shortest_of_fields}
use Rattle.wire_spec.proofs.SpecifierLemmas.{sizes_least, one_count}
use Rattle.wire_spec.proofs.WrittenLemmas.{written_shorter, read_back as fields_read_back}
use Rattle.template_def.specs.Kept.{IsKept}
use Rattle.template_def.specs.Walk.{BeginsField}
use Rattle.template_def.proofs.WalkLemmas.{first_left}

-- so many specifiers are left, and their fields are still to come
abbrev pub FieldsLeft : List FieldSpec → List FieldSpec → List ℕ → Type 0
FieldsLeft all found rest = (n : ℕ) × (specifiers_size n rest ≡ length rest) × (all ≡ found ++ fields_of n rest)

pub left_more : (all found : List FieldSpec) (rest after : List ℕ) (field : FieldSpec) → FieldsLeft all found rest → BeginsField rest field after → FieldsLeft all (found ++ field ∷ []) after
left_more all found rest after field left b =
    let f = first_left left.0 rest b.inside left.1 in
    let k = f.0 in
    let next : fields_of k (drop (specifier_size rest) rest) ≡ fields_of k after = ap (fields_of k) (sym b.rest) in (
      k,
      ap (specifiers_size k) b.rest ∙ (f.2 ∙ ap length (sym b.rest)),
      left.2 ∙ (ap (λ n. found ++ fields_of n rest) f.1
          ∙ (ap (λ (g : FieldSpec). found ++ (g ∷ fields_of k (drop (specifier_size rest) rest))) (sym b.is)
          ∙ (ap (λ (l : List FieldSpec). found ++ (field ∷ l)) next ∙ sym (append_assoc found (field ∷ []) (fields_of k after))))),
    )

none_first : (n : ℕ) (rest : List ℕ) → length rest < specifier_size rest → specifiers_size n rest ≡ length rest → n ≡ 0
none_first zero rest cut e = refl
none_first (suc n) rest cut e = absurd (omega arith)

-- Where no specifier begins what is left, all fields are found.
pub left_none : (all found : List FieldSpec) (rest : List ℕ) → length rest < specifier_size rest → FieldsLeft all found rest → found ≡ all
left_none all found rest cut left =
    let z = none_first left.0 rest cut left.1 in
    sym (left.2 ∙ (ap (λ n. found ++ fields_of n rest) z ∙ append-nil found))

-- the fields are few
pub few_fields : (count : ℕ) (specs : List ℕ) (fields : List FieldSpec) (kind : Kind) → specifiers_size count specs ≡ length specs → front kind + length specs ≤ 65515 → fields ≡ fields_of count specs → length fields < 2 ^ 16
few_fields count specs fields kind whole short is =
    let n = ap length is ∙ fields_count count specs in
    let s = sizes_least count specs in
    omega arith

-- What the definition of well-formed specifiers keeps.
pub definition_kept : (kind : Kind) (scope count : ℕ) (specs : List ℕ) (fields : List FieldSpec) → DefineRecords scope count specs → front kind + length specs ≤ 65515 → fields ≡ fields_of count specs → AllByRecursion IsField fields
    → IsKept (record { kind = kind; scope = scope; fields = fields })
definition_kept kind scope count specs fields d short is each =
    let n = ap length is ∙ fields_count count specs in
    let s = ap shortest is ∙ shortest_of_fields count specs in
    let w = ap (λ (l : List FieldSpec). length (specifiers l)) is in
    let shorter = written_shorter count specs in
    let whole = d.whole in
    let some = d.some in
    let within = d.within in
    let least = d.shortest in
    record { some = omega arith; within = omega arith; shortest = omega arith; fields = each; short = omega arith }

-- What is written of a definition reads back.
pub read_back : (definition : Definition) → IsKept definition → IsReadBack definition
read_back d k = fields_read_back d k.fields k.some k.within k.shortest

-- a field has an octet where its length isn't 0
least_some : (len : ℕ) → nat_eq len 0 ≡ false → 0 < least_of len
least_some len ne = let other = eqb-false len 0 ne in cond_both (nat_eq len 65535) 1 len (λ n. 0 < n) (λ _. omega arith) (λ _. omega arith)

-- Whether some field has an octet, one field further.
pub still_some : (some : Bool) (least len : ℕ) → some ≡ true → ((some ≡ true) ↔ (0 < least)) → ((some ≡ true) ↔ (0 < least + least_of len))
still_some some least len t i = let p = i.0 t in (λ e. omega arith, λ lt. t)

pub now_some : (some : Bool) (least len : ℕ) → some ≡ false → ((some ≡ true) ↔ (0 < least)) → ((not (nat_eq len 0) ≡ true) ↔ (0 < least + least_of len))
now_some some least len f i =
    let none : least ≡ 0 = elim (cases_Bool (nat_eq least 0)) [ inl t ↦ eqb-true least 0 t | inr t ↦ (let ne = eqb-false least 0 t in absurd (both_ways some f (i.1 (omega arith)))) ] in
    elim (cases_Bool (nat_eq len 0)) [
      | inl t ↦
          (let z : least_of len ≡ 0 = ap least_of (eqb-true len 0 t) in
          rw t (λ e. absurd cc, λ lt. absurd (omega arith)))
      | inr t ↦ (let s = least_some len t in rw t (λ e. omega arith, λ lt. refl))
    ]

some_count : (count : ℕ) (specs : List ℕ) → 0 < shortest_of_specifiers count specs → 0 < count
some_count zero specs lt = absurd (omega arith)
some_count (suc count) specs lt = omega arith

pub formed : (scope count : ℕ) (specs : List ℕ) → specifiers_size count specs ≡ length specs → 0 < shortest_of_specifiers count specs → (IsTrue (nat_le scope count) → AreWellFormed scope specs) × (AreWellFormed scope specs → IsTrue (nat_le scope count))
formed scope count specs whole some = (
  λ t. (count, record { whole = whole; some = some_count count specs some; within = leb-true scope count t; shortest = some }),
  λ w. le-leb scope count (subst (λ (n : ℕ). scope ≤ n) (one_count w.0 count specs w.1.whole whole) w.1.within),
)

pub not_formed : (scope count : ℕ) (specs : List ℕ) (some : Bool) → specifiers_size count specs ≡ length specs → (0 < shortest_of_specifiers count specs → some ≡ true) → AreWellFormed scope specs → some ≡ true
not_formed scope count specs some whole t w = t (subst (λ (n : ℕ). 0 < shortest_of_specifiers n specs) (one_count w.0 count specs w.1.whole whole) w.1.shortest)
