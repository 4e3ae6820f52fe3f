-- The hexadecimal digits of an octet and of a group.
use Rattle.std.proofs.Common.{◌≡◌, ℕ, zero, suc, ◌+◌, ◌*◌, ◌/◌, ◌%◌, ◌-◌, ◌<◌, ◌≤◌, ◌⊎◌, Bool, true, false, ◌&&◌, inl, inr, List, [], ◌∷◌, ◌++◌, get_or, length, take, refl, ap, ap₂, ◌∙◌, sym, arith}
use Rattle.std.specs.Prelude.{nat_eq, nat_le, ◌≢◌}
use Rattle.std.specs.Char.{digit_char}
use Rattle.std.specs.Net.Text.{hex}
use Rattle.std.proofs.lemmas.Bool.{and_parts, eqb-true, le-leb, lt-leb}
use Rattle.std.proofs.lemmas.Bool.Decides.{leb_tells}
use Rattle.text_spec.specs.Value.{hex_pair}
use Rattle.value_text.specs.Hexadecimal.{short_pair}
use Rattle.value_text.specs.declared.hexadecimal.TheConstants.{PAIRS}
use Rattle.value_text.proofs.DottedLemmas.{below_or_last}
use Rattle.value_text.proofs.RowLemmas.{cut}

-- so many rows are the digits of their octets
are_pairs : ℕ → Bool
are_pairs zero = true
are_pairs (suc n) = (nat_eq (get_or PAIRS (2 * n) 0) (digit_char (n / 16)) && nat_eq (get_or PAIRS (2 * n + 1) 0) (digit_char (n % 16))) && are_pairs n

all_pairs : are_pairs 256 ≡ true
unfolding are_pairs
all_pairs = refl

each_pair : (k n : ℕ) → are_pairs k ≡ true → n < k → (get_or PAIRS (2 * n) 0 ≡ digit_char (n / 16)) × (get_or PAIRS (2 * n + 1) 0 ≡ digit_char (n % 16))
unfolding are_pairs
each_pair zero n all lt = absurd (omega arith)
each_pair (suc k) n all lt =
    let parts = and_parts _ _ all in
    let both = and_parts _ _ parts.0 in
    elim (below_or_last n k lt) [
      | inl e ↦ rw e (eqb-true _ _ both.0, eqb-true _ _ both.1)
      | inr l ↦ each_pair k n parts.1 l
    ]

pub hex_pair_at : (n : ℕ) → n < 256 → get_or PAIRS (2 * n) 0 ∷ get_or PAIRS (2 * n + 1) 0 ∷ [] ≡ hex_pair n
hex_pair_at n lt = let both = each_pair 256 n all_pairs lt in rw (both.0, both.1) refl

pub last_digit_at : (n : ℕ) → n < 256 → get_or PAIRS (2 * n + 1) 0 ≡ digit_char (n % 16)
last_digit_at n lt = (each_pair 256 n all_pairs lt).1

pub short_one : (n : ℕ) → n < 16 → short_pair n ≡ digit_char (n % 16) ∷ []
short_one n lt = rw (le-leb (suc n) 16 (omega arith)) refl

pub short_two : (n : ℕ) → 16 ≤ n → short_pair n ≡ hex_pair n
short_two n le = rw (lt-leb (suc n) 16 (omega arith)) refl

-- what is left of the two digits that were put: one of them, where the other is a zero
pub short_placed : (n zeros at : ℕ) (old new : List ℕ) → n < 256 → at ≤ length old → take (at + 2) new ≡ take at old ++ get_or PAIRS (2 * n + zeros) 0 ∷ get_or PAIRS (2 * n + 1) 0 ∷ []
    → ((n < 16) × (zeros ≡ 1)) ⊎ ((16 ≤ n) × (zeros ≡ 0)) → take (at + 2 - zeros) new ≡ take at old ++ short_pair n
short_placed n zeros at old new lt le e (inl (few, one)) =
    let place : at + 2 - zeros ≡ at + 1 = omega arith in
    ap (λ k. take k new) place ∙ cut at 1 2 old new _ le (omega arith) e
    ∙ ap (λ l. take at old ++ l) (ap (λ z. get_or PAIRS (2 * n + z) 0 ∷ []) one ∙ ap (λ d. d ∷ []) (last_digit_at n lt) ∙ sym (short_one n few))
short_placed n zeros at old new lt le e (inr (many, none)) =
    let place : at + 2 - zeros ≡ at + 2 = omega arith in
    let first : 2 * n + zeros ≡ 2 * n = omega arith in
    ap (λ k. take k new) place ∙ e ∙ ap (λ l. take at old ++ l) (ap (λ i. get_or PAIRS i 0 ∷ get_or PAIRS (2 * n + 1) 0 ∷ []) first ∙ hex_pair_at n lt ∙ sym (short_two n many))

-- a group below 256 has the digits of an octet
pub hex_of_octet : (n : ℕ) → n / 256 ≡ 0 → hex n ≡ short_pair (n % 256)
unfolding hex
hex_of_octet n none =
    let f1 : nat_le 4096 n ≡ false = lt-leb 4096 n (omega arith) in
    let f2 : nat_le 256 n ≡ false = lt-leb 256 n (omega arith) in
    let last : n % 16 ≡ n % 256 % 16 = omega arith in
    elim (leb_tells 16 n) [
      | inl t ↦
          let first : n / 16 % 16 ≡ n % 256 / 16 = omega arith in
          rw (f1, f2, t.0) (ap₂ (λ a b. digit_char a ∷ digit_char b ∷ []) first last ∙ sym (short_two (n % 256) (omega (arith, t.1))))
      | inr f ↦ rw (f1, f2, f.0) (ap (λ a. digit_char a ∷ []) last ∙ sym (short_one (n % 256) (omega (arith, f.1))))
    ]

-- another has the digits of two octets
pub hex_of_two : (n : ℕ) → n / 256 ≢ 0 → n < 65536 → hex n ≡ short_pair (n / 256) ++ hex_pair (n % 256)
unfolding hex
hex_of_two n some lt =
    let f2 : nat_le 256 n ≡ true = le-leb 256 n (omega arith) in
    let third : n / 16 % 16 ≡ n % 256 / 16 = omega arith in
    let last : n % 16 ≡ n % 256 % 16 = omega arith in
    elim (leb_tells 4096 n) [
      | inl t ↦
          let first : n / 4096 ≡ n / 256 / 16 = omega arith in
          rw t.0
          (ap₂ (λ a (l : List ℕ). digit_char a ∷ l) first (ap₂ (λ a b. digit_char (n / 256 % 16) ∷ digit_char a ∷ digit_char b ∷ []) third last)
          ∙ ap (λ l. l ++ hex_pair (n % 256)) (sym (short_two (n / 256) (omega (arith, t.1)))))
      | inr f ↦
          rw (f.0, f2)
          (ap₂ (λ a b. digit_char (n / 256 % 16) ∷ digit_char a ∷ digit_char b ∷ []) third last
          ∙ ap (λ l. l ++ hex_pair (n % 256)) (sym (short_one (n / 256) (omega (arith, f.1)))))
    ]
