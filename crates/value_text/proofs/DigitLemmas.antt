-- The digits of a number in pairs.
use Rattle.std.proofs.Common.{◌≡◌, ℕ, zero, suc, ◌+◌, ◌*◌, ◌/◌, ◌%◌, ◌^◌, ◌<◌, ◌≤◌, Bool, true, ◌&&◌, inl, inr, List, [], ◌∷◌, ◌++◌, get_or, take, refl, ap, ◌∙◌, sym, arith, append_assoc}
use Rattle.std.specs.Prelude.{decimal, nat_eq}
use Rattle.std.proofs.lemmas.Bool.{and_parts, eqb-true}
use Rattle.itoa.proofs.Decimal.{decimal_four}
use Rattle.value_text.specs.Digits.{pair, eight}
use Rattle.value_text.specs.declared.digits.TheConstants.{PAIRS}
use Rattle.value_text.proofs.DottedLemmas.{below_or_last}

-- so many rows are the digits of their numbers
are_pairs : ℕ → Bool
are_pairs zero = true
are_pairs (suc n) = (nat_eq (get_or PAIRS (2 * n) 0) (48 + n / 10) && nat_eq (get_or PAIRS (2 * n + 1) 0) (48 + n % 10)) && are_pairs n

all_pairs : are_pairs 100 ≡ true
unfolding are_pairs
all_pairs = refl

each_pair : (k n : ℕ) → are_pairs k ≡ true → n < k → (get_or PAIRS (2 * n) 0 ≡ 48 + n / 10) × (get_or PAIRS (2 * n + 1) 0 ≡ 48 + n % 10)
unfolding are_pairs
each_pair zero n all lt = absurd (omega arith)
each_pair (suc k) n all lt =
    let parts = and_parts _ _ all in
    let both = and_parts _ _ parts.0 in
    elim (below_or_last n k lt) [
      | inl e ↦ rw e (eqb-true _ _ both.0, eqb-true _ _ both.1)
      | inr l ↦ each_pair k n parts.1 l
    ]

pub pair_at : (n : ℕ) → n < 100 → get_or PAIRS (2 * n) 0 ∷ get_or PAIRS (2 * n + 1) 0 ∷ [] ≡ pair n
pair_at n lt = let both = each_pair 100 n all_pairs lt in rw (both.0, both.1) refl

-- the last eight digits
pub decimal_eight : (n : ℕ) → 100000000 ≤ n → n < 2 ^ 64 → decimal n ≡ decimal (n / 100000000) ++ eight (n % 100000000)
decimal_eight n lo hi =
    let a : n / 10000 / 10000 ≡ n / 100000000 = omega arith in
    let b : n / 10000 % 10000 ≡ n % 100000000 / 10000 = omega arith in
    let c : n % 100000000 % 10000 ≡ n % 10000 = omega arith in
    rw (decimal_four n (omega arith) hi, decimal_four (n / 10000) (omega arith) (omega arith), append_assoc, a, b, c)

-- the last sixteen digits
pub decimal_sixteen : (n : ℕ) → 10000000000000000 ≤ n → n < 2 ^ 64 → decimal n ≡ (decimal (n / 100000000 / 100000000) ++ eight (n / 100000000 % 100000000)) ++ eight (n % 100000000)
decimal_sixteen n lo hi = decimal_eight n (omega arith) hi ∙ ap (λ l. l ++ eight (n % 100000000)) (decimal_eight (n / 100000000) (omega arith) (omega arith))

-- what was put behind what was put
pub placed_more : (old mid new front back whole : List ℕ) (at end to : ℕ) → take end mid ≡ take at old ++ front → take to new ≡ take end mid ++ back → whole ≡ front ++ back → take to new ≡ take at old ++ whole
placed_more old mid new front back whole at end to first second is =
    second ∙ ap (λ l. l ++ back) first ∙ append_assoc (take at old) front back ∙ ap (λ l. take at old ++ l) (sym is)
