-- Octets that are as long as a specifier are the specifier of the field that they say.
use Rattle.std.proofs.Common.{◌≡◌, ℕ, ◌+◌, ◌*◌, ◌/◌, ◌%◌, ◌<◌, ◌≤◌, inl, inr, true, false, List, [], ◌∷◌, ◌++◌, length, drop, take, ap, sym, ◌∙◌, arith}
use Rattle.std.specs.Prelude.{nat_lt}
use Rattle.std.proofs.Math.Seq.{take-append_seam, drop-append_seam}
use Rattle.std.proofs.lemmas.Bool.{cases_Bool, ltb-true, ltb-false, cond-true, cond-false}
use Rattle.col_base.specs.Numbers.{be16_at, be32_at}
use Rattle.wire_spec.specs.declared.field.FieldSpec.{FieldSpec}
use Rattle.wire_spec.specs.Message.{specifier_size}
use Rattle.wire_spec.specs.Content.{Definition, field_of}
use Rattle.wire_spec.specs.WellFormed.{HasScopeFields}
use Rattle.wire_spec.specs.Specifiers.{AreOctets, IsPlainSpecifier, IsMarkedSpecifier, IsSpecifier, two_octets, four_octets}

-- the two octets of their number
pair_is : (a b : ℕ) → b < 256 → two_octets (256 * a + b) ≡ a ∷ b ∷ []
pair_is a b lt =
    let high : (256 * a + b) / 256 ≡ a = omega arith in
    let low : (256 * a + b) % 256 ≡ b = omega arith in
    cc

-- a number below 2^15 keeps all its bits, and one with the bit above them is that bit and the others
plain_id : (n : ℕ) → n < 32768 → n % 32768 ≡ n
plain_id n lt = omega arith

marked_id : (n : ℕ) → 32768 ≤ n → n < 65536 → 32768 + n % 32768 ≡ n
marked_id n le lt = omega arith

small_id : (n : ℕ) → n % 32768 < 32768
small_id n = omega arith

-- the four octets of their number
four_are : (a b c d : ℕ) → b < 256 → c < 256 → d < 256 → four_octets (65536 * (256 * a + b) + (256 * c + d)) ≡ a ∷ b ∷ c ∷ d ∷ []
four_are a b c d lb lc ld =
    let n = 65536 * (256 * a + b) + (256 * c + d) in
    let high : n / 65536 ≡ 256 * a + b = omega arith in
    let low : n % 65536 ≡ 256 * c + d = omega arith in
    ap (λ h. two_octets h ++ two_octets (n % 65536)) high
    ∙ (ap (λ l. two_octets (256 * a + b) ++ two_octets l) low
    ∙ (ap (λ x. x ++ two_octets (256 * c + d)) (pair_is a b lb) ∙ ap (λ x. (a ∷ b ∷ []) ++ x) (pair_is c d ld)))

-- four octets without the bit
plain_is : (o : List ℕ) → AreOctets o → length o ≡ 4 → nat_lt (be16_at 0 o) 32768 ≡ true → IsPlainSpecifier o (field_of o)
plain_is [] are four t = absurd (omega arith)
plain_is (a ∷ []) are four t = absurd (omega arith)
plain_is (a ∷ b ∷ []) are four t = absurd (omega arith)
plain_is (a ∷ b ∷ c ∷ []) are four t = absurd (omega arith)
plain_is (a ∷ b ∷ c ∷ d ∷ []) are four t =
    let id = plain_id (256 * a + b) (ltb-true (256 * a + b) 32768 t) in
    record {
      field = small_id (256 * a + b);
      pen = cond-true _ 0 (be32_at 4 (a ∷ b ∷ c ∷ d ∷ [])) t;
      spelled = sym (ap (λ n. two_octets n ++ two_octets (256 * c + d)) id
          ∙ (ap (λ x. x ++ two_octets (256 * c + d)) (pair_is a b are.1.0) ∙ ap (λ x. (a ∷ b ∷ []) ++ x) (pair_is c d are.1.1.1.0)));
    }
plain_is (a ∷ b ∷ c ∷ d ∷ e ∷ o) are four t = absurd (omega arith)

-- eight octets with the bit
marked_is : (o : List ℕ) → AreOctets o → length o ≡ 8 → nat_lt (be16_at 0 o) 32768 ≡ false → IsMarkedSpecifier o (field_of o)
marked_is [] are eight t = absurd (omega arith)
marked_is (a ∷ []) are eight t = absurd (omega arith)
marked_is (a ∷ b ∷ []) are eight t = absurd (omega arith)
marked_is (a ∷ b ∷ c ∷ []) are eight t = absurd (omega arith)
marked_is (a ∷ b ∷ c ∷ d ∷ []) are eight t = absurd (omega arith)
marked_is (a ∷ b ∷ c ∷ d ∷ e ∷ []) are eight t = absurd (omega arith)
marked_is (a ∷ b ∷ c ∷ d ∷ e ∷ f ∷ []) are eight t = absurd (omega arith)
marked_is (a ∷ b ∷ c ∷ d ∷ e ∷ f ∷ g ∷ []) are eight t = absurd (omega arith)
marked_is (a ∷ b ∷ c ∷ d ∷ e ∷ f ∷ g ∷ h ∷ []) are eight t =
    let la = are.0 in
    let lb = are.1.0 in
    let rest = are.1.1.1.1 in
    let o = a ∷ b ∷ c ∷ d ∷ e ∷ f ∷ g ∷ h ∷ [] in
    let id = marked_id (256 * a + b) (ltb-false (256 * a + b) 32768 t) (omega arith) in
    let pen : (field_of o).pen ≡ 65536 * (256 * e + f) + (256 * g + h) = cond-false _ 0 (be32_at 4 o) t in
    record {
      field = small_id (256 * a + b);
      spelled = sym (ap (λ n. two_octets n ++ two_octets (256 * c + d) ++ four_octets (field_of o).pen) id
          ∙ (ap (λ n. two_octets (256 * a + b) ++ two_octets (256 * c + d) ++ four_octets n) pen
          ∙ (ap (λ x. x ++ two_octets (256 * c + d) ++ four_octets (65536 * (256 * e + f) + (256 * g + h))) (pair_is a b lb)
          ∙ (ap (λ x. (a ∷ b ∷ []) ++ x ++ four_octets (65536 * (256 * e + f) + (256 * g + h))) (pair_is c d are.1.1.1.0)
          ∙ ap (λ x. (a ∷ b ∷ []) ++ (c ∷ d ∷ []) ++ x) (four_are e f g h rest.1.0 rest.1.1.0 rest.1.1.1.0)))));
    }
marked_is (a ∷ b ∷ c ∷ d ∷ e ∷ f ∷ g ∷ h ∷ i ∷ o) are eight t = absurd (omega arith)

-- Octets as long as a specifier are one, of the field that they say.
pub specifier_is : (o : List ℕ) → AreOctets o → specifier_size o ≡ length o → IsSpecifier o (field_of o)
specifier_is o are whole =
    elim (cases_Bool (nat_lt (be16_at 0 o) 32768)) [
      | inl t ↦ inl (plain_is o are (sym whole ∙ cond-true _ 4 8 t) t)
      | inr t ↦ inr (marked_is o are (sym whole ∙ cond-false _ 4 8 t) t)
    ]

-- A definition has one list of scope fields.
pub one_scope : (definition : Definition) (scope others first rest : List FieldSpec) → HasScopeFields definition scope others → HasScopeFields definition first rest → (scope ≡ first) × (others ≡ rest)
one_scope d scope others first rest p q =
    let same : scope ++ others ≡ first ++ rest = sym p.first ∙ q.first in
    let size : length scope ≡ length first = p.count ∙ sym q.count in (
      sym (take-append_seam scope others) ∙ (ap (λ n. take n (scope ++ others)) size ∙ (ap (take (length first)) same ∙ take-append_seam first rest)),
      sym (drop-append_seam scope others) ∙ (ap (λ n. drop n (scope ++ others)) size ∙ (ap (drop (length first)) same ∙ drop-append_seam first rest)),
    )
