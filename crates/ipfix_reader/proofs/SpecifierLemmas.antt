-- The specifiers of a template record.
use Rattle.std.proofs.Common.{◌≡◌, ℕ, zero, suc, ◌+◌, ◌-◌, ◌<◌, ◌≤◌, inl, inr, true, ◌||◌, not, List, [], length, drop, refl, ap, sym, subst, ◌∙◌, arith, length-drop}
use Rattle.std.specs.Prelude.{nat_lt, ◌==◌, if◌then◌else◌}
use Rattle.std.proofs.lemmas.Bool.{ne_eqb, not_from_false, not-false, and_cases, or_parts, ltb-false, eqb-true}
use Rattle.col_base.specs.declared.base.Kind.{Kind}
use Rattle.col_base.specs.declared.base.Kind.TheVariants.{Template, Options}
use Rattle.col_base.specs.Numbers.{be16_at}
use Rattle.wire_spec.specs.Message.{IsTemplateRecord, specifier_size, specifiers_size, shortest_of_specifiers, least_of, defines, front, has_scope, set_id, template_rules}
use Rattle.wire_spec.specs.Content.{scope_of}
use Rattle.wire_spec.specs.WellFormed.{HasScope}
use Rattle.wire_spec.proofs.TemplateLemmas.{sized}
use Rattle.wire_spec.proofs.DefinitionLemmas.{each_kept, fields_count, shortest_of_fields, well_formed}
use Rattle.ipfix_reader.specs.Specifiers.{AreSpecifiers}

-- one specifier further
pub size_step : (n : ℕ) (o : List ℕ) → 0 < n → specifiers_size n o ≡ specifier_size o + specifiers_size (n - 1) (drop (specifier_size o) o)
size_step zero o lt = absurd (omega arith)
size_step (suc n) o lt = ap (λ k. specifier_size o + specifiers_size k (drop (specifier_size o) o)) (omega arith)

pub least_step : (n : ℕ) (o : List ℕ) → 0 < n → shortest_of_specifiers n o ≡ least_of (be16_at 2 o) + shortest_of_specifiers (n - 1) (drop (specifier_size o) o)
least_step zero o lt = absurd (omega arith)
least_step (suc n) o lt = ap (λ k. least_of (be16_at 2 o) + shortest_of_specifiers k (drop (specifier_size o) o)) (omega arith)

pub right_scope : (kind : Kind) (o : List ℕ) (scope : ℕ) → scope ≡ (if has_scope kind o then be16_at 4 o else 0) → defines o ≡ true → scope ≡ scope_of kind o
right_scope Template o scope e d = e
right_scope Options o scope e d = e ∙ (rw d refl)

-- The specifiers of a template record keep what they must.
pub specifiers_kept : (kind : Kind) (o specs : List ℕ) (scope count : ℕ) → IsTemplateRecord kind o → length o ≤ 65515
    → scope ≡ (if has_scope kind o then be16_at 4 o else 0) → count ≡ be16_at 2 o → specs ≡ (if defines o then drop (front kind) o else []) → (count ≡ 0 → ⊥) → AreSpecifiers kind scope count specs
specifiers_kept kind o specs scope count r le s c e ne =
    let d : defines o ≡ true = not_from_false (be16_at 2 o == 0) (ne_eqb (be16_at 2 o) 0 (λ z. ne (c ∙ z))) in
    let octets : specs ≡ drop (front kind) o = e ∙ rw d refl in
    let w = well_formed kind o r d in
    let n = fields_count (be16_at 2 o) (drop (front kind) o) in
    let least = shortest_of_fields (be16_at 2 o) (drop (front kind) o) in
    let k = right_scope kind o scope s d in
    let size = sized kind o d in
    let whole = r.whole in
    let l = length-drop (front kind) o in
    let within = w.within in
    let some = w.shortest in
    let fields = w.fields in
    rw (octets, c, k) (record { define = record { whole = omega arith; some = omega arith; within = omega arith; shortest = omega arith }; short = omega arith })

-- The scope fields of a definition are as many as its kind has.
pub scope_kept : (kind : Kind) (o : List ℕ) (scope count : ℕ) → IsTemplateRecord kind o → scope ≡ (if has_scope kind o then be16_at 4 o else 0) → count ≡ be16_at 2 o → (count ≡ 0 → ⊥) → HasScope kind scope
scope_kept kind o scope count r s c ne =
    let d : defines o ≡ true = not_from_false (be16_at 2 o == 0) (ne_eqb (be16_at 2 o) 0 (λ z. ne (c ∙ z))) in
    subst (HasScope kind) (sym (right_scope kind o scope s d)) (well_formed kind o r d).scope

-- Where the ID of a template record is below 256, it withdraws all templates of its kind.
pub low_id : (kind : Kind) (o : List ℕ) → IsTemplateRecord kind o → be16_at 0 o < 256 → (be16_at 2 o ≡ 0) × (be16_at 0 o ≡ set_id kind)
low_id kind o r low =
    elim (and_cases (nat_lt (be16_at 0 o) 256) (defines o || not (be16_at 0 o == set_id kind)) (each_kept (template_rules kind) o r.unbroken).0) [
      | inl f ↦ absurd (let high = ltb-false (be16_at 0 o) 256 f in omega arith)
      | inr f ↦
          (let p = or_parts (defines o) (not (be16_at 0 o == set_id kind)) f in
          (eqb-true (be16_at 2 o) 0 (not-false (be16_at 2 o == 0) p.0), eqb-true (be16_at 0 o) (set_id kind) (not-false (be16_at 0 o == set_id kind) p.1)))
    ]
