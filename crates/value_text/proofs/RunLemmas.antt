-- The longest run of zero groups depends on which groups are zero alone.
use Rattle.std.proofs.Common.{◌≡◌, ℕ, zero, suc, ◌+◌, ◌-◌, ◌*◌, ◌/◌, ◌%◌, ◌<◌, ◌≤◌, Bool, true, ◌&&◌, inl, inr, List, [], ◌∷◌, length, map, get_or, refl, ap, ◌∙◌, sym, arith}
use Rattle.std.specs.Prelude.{nat_eq, ◌==◌}
use Rattle.std.specs.Net.Text.{zero_run, longest_zero_run}
use Rattle.std.proofs.lemmas.Bool.{and_parts, eqb-true, cases_Bool}
use Rattle.std.proofs.lemmas.Slice.Eq.{text_from_reads}
use Rattle.value_text.specs.Groups.{zero_bit, zero_set}
use Rattle.value_text.specs.declared.zero_run.TheConstants.{RUNS}
use Rattle.value_text.proofs.DottedLemmas.{below_or_last}

-- 0 for a zero group, 1 for another
mark : ℕ → ℕ
mark group = 1 - zero_bit group

marked_is_zero : (group : ℕ) → (mark group == 0) ≡ (group == 0)
unfolding mark
marked_is_zero group = elim (cases_Bool (group == 0)) [ inl e ↦ rw e refl | inr e ↦ rw e refl ]

zero_run_marked : (groups : List ℕ) → zero_run (map mark groups) ≡ zero_run groups
zero_run_marked [] = refl
zero_run_marked (g ∷ groups) = rw (marked_is_zero g, zero_run_marked groups) refl

longest_marked : (groups : List ℕ) → longest_zero_run (map mark groups) ≡ longest_zero_run groups
longest_marked [] = refl
longest_marked (g ∷ groups) = rw (longest_marked groups, zero_run_marked (g ∷ groups)) refl

-- eight marks of a set of zero groups
marks : ℕ → List ℕ
marks n = (1 - n / 128 % 2) ∷ (1 - n / 64 % 2) ∷ (1 - n / 32 % 2) ∷ (1 - n / 16 % 2) ∷ (1 - n / 8 % 2) ∷ (1 - n / 4 % 2) ∷ (1 - n / 2 % 2) ∷ (1 - n % 2) ∷ []

-- so many rows are the longest runs of their sets
are_runs : ℕ → Bool
are_runs zero = true
are_runs (suc n) = (nat_eq (get_or RUNS (2 * n) 0) (longest_zero_run (marks n)).0 && nat_eq (get_or RUNS (2 * n + 1) 0) (longest_zero_run (marks n)).1) && are_runs n

all_runs : are_runs 256 ≡ true
unfolding are_runs marks
all_runs = refl

each_run : (k n : ℕ) → are_runs k ≡ true → n < k → (get_or RUNS (2 * n) 0 ≡ (longest_zero_run (marks n)).0) × (get_or RUNS (2 * n + 1) 0 ≡ (longest_zero_run (marks n)).1)
unfolding are_runs
each_run zero n all lt = absurd (omega arith)
each_run (suc k) n all lt =
    let parts = and_parts _ _ all in
    let both = and_parts _ _ parts.0 in
    elim (below_or_last n k lt) [
      | inl e ↦ rw e (eqb-true _ _ both.0, eqb-true _ _ both.1)
      | inr l ↦ each_run k n parts.1 l
    ]

bit_few : (group : ℕ) → zero_bit group ≤ 1
bit_few group = elim (cases_Bool (group == 0)) [ inl e ↦ rw e (omega arith) | inr e ↦ rw e (omega arith) ]

-- the bits of a set
bits : (a b c d e f g h : ℕ) → a ≤ 1 → b ≤ 1 → c ≤ 1 → d ≤ 1 → e ≤ 1 → f ≤ 1 → g ≤ 1 → h ≤ 1
    → (1 - a) ∷ (1 - b) ∷ (1 - c) ∷ (1 - d) ∷ (1 - e) ∷ (1 - f) ∷ (1 - g) ∷ (1 - h) ∷ [] ≡ marks (128 * a + 64 * b + 32 * c + 16 * d + 8 * e + 4 * f + 2 * g + h)
unfolding marks
bits a b c d e f g h la lb lc ld le lf lg lh =
    let n = 128 * a + 64 * b + 32 * c + 16 * d + 8 * e + 4 * f + 2 * g + h in
    let ea : n / 128 % 2 ≡ a = omega arith in
    let eb : n / 64 % 2 ≡ b = omega arith in
    let ec : n / 32 % 2 ≡ c = omega arith in
    let ed : n / 16 % 2 ≡ d = omega arith in
    let ee : n / 8 % 2 ≡ e = omega arith in
    let ef : n / 4 % 2 ≡ f = omega arith in
    let eg : n / 2 % 2 ≡ g = omega arith in
    let eh : n % 2 ≡ h = omega arith in
    rw (ea, eb, ec, ed, ee, ef, eg, eh) refl

eight_items : (xs : List ℕ) → length xs ≡ 8 → xs ≡ get_or xs 0 0 ∷ get_or xs 1 0 ∷ get_or xs 2 0 ∷ get_or xs 3 0 ∷ get_or xs 4 0 ∷ get_or xs 5 0 ∷ get_or xs 6 0 ∷ get_or xs 7 0 ∷ []
eight_items xs h = text_from_reads xs _ h (refl, (refl, (refl, (refl, (refl, (refl, (refl, (refl, tt))))))))

marks_are : (groups : List ℕ) → length groups ≡ 8 → map mark groups ≡ marks (zero_set groups)
unfolding mark
marks_are groups eight =
    ap (λ l. map mark l) (eight_items groups eight)
    ∙ bits _ _ _ _ _ _ _ _ (bit_few (get_or groups 0 0)) (bit_few (get_or groups 1 0)) (bit_few (get_or groups 2 0)) (bit_few (get_or groups 3 0))
    (bit_few (get_or groups 4 0)) (bit_few (get_or groups 5 0)) (bit_few (get_or groups 6 0)) (bit_few (get_or groups 7 0))

pub run_at : (groups : List ℕ) (n : ℕ) → length groups ≡ 8 → n ≡ zero_set groups → n < 256
    → (get_or RUNS (2 * n) 0 ≡ (longest_zero_run groups).0) × (get_or RUNS (2 * n + 1) 0 ≡ (longest_zero_run groups).1)
run_at groups n eight is within =
    let row = each_run 256 n all_runs within in
    let same : longest_zero_run (marks n) ≡ longest_zero_run groups = ap (λ m. longest_zero_run (marks m)) is ∙ ap longest_zero_run (sym (marks_are groups eight)) ∙ longest_marked groups in
    (row.0 ∙ ap (λ r. r.0) same, row.1 ∙ ap (λ r. r.1) same)
