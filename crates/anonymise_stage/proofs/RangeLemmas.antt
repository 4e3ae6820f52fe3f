-- Addresses agree with a prefix exactly where their numbers lie in its range.
use Rattle.std.proofs.Common.{◌≡◌, ℕ, zero, suc, ◌+◌, ◌-◌, ◌*◌, ◌^◌, ◌<◌, ◌≤◌, inl, inr, Bool, true, false, ◌&&◌, List, [], ◌∷◌, length, get_or, refl, ap, sym, subst, ◌∙◌, arith}
use Rattle.std.specs.Prelude.{◌||◌, ◌==◌, min, nat_lt, nat_le, fold}
use Rattle.std.specs.List.{AllByRecursion}
use Rattle.std.proofs.Math.Nat.{pow-suc, add-mul, mul_assoc}
use Rattle.std.proofs.lemmas.Nat.{mul-le}
use Rattle.std.proofs.lemmas.Bool.{lt-ltb, le-ltb, le-leb, lt-leb, eq-eqb, ne_eqb, cases_order, cases_lt, cases_eq, ltb-true, and_parts, and_left, and_right, and_from}
use Rattle.text_spec.specs.Number.{number_of}
use Rattle.config_spec.specs.declared.tables.AnonRow.{AnonRow}
use Rattle.config_spec.specs.Texts.{top_bits, masked}
use Rattle.act_spec.specs.Bits.{same_octets, agrees}
use Rattle.anonymise_stage.specs.Ranges.{are_octets, with_ones, filled, low_of, covers}

abbrev AreOctets : List ℕ → Type 0
AreOctets octets = AllByRecursion (λ o. o < 256) octets

octets_from : (octets : List ℕ) → are_octets octets ≡ true → AreOctets octets
octets_from [] e = tt
octets_from (o ∷ octets) e = let p = and_parts _ _ e in (ltb-true o 256 p.0, octets_from octets p.1)

-- What every slice of octets keeps.
pub octets_fit : (octets : List ℕ) → ((i : ℕ) → get_or octets i 0 < 256) → are_octets octets ≡ true
octets_fit [] f = refl
octets_fit (o ∷ octets) f = and_from _ _ (lt-ltb o 256 (f 0)) (octets_fit octets (λ i. f (suc i)))

-- octets are below others, or the same
abbrev lex : List ℕ → List ℕ → Bool
lex [] ys = true
lex (x ∷ xs) [] = true
lex (x ∷ xs) (y ∷ ys) = nat_lt x y || (x == y && lex xs ys)

abbrev add : ℕ → ℕ → ℕ
add n octet = 256 * n + octet

more : (xs : List ℕ) (x : ℕ) → 256 ^ length (x ∷ xs) ≡ 256 * 256 ^ length xs
more xs x = omega (arith, pow-suc 256 (length xs))

fold_from : (n : ℕ) (xs : List ℕ) → fold add n xs ≡ n * 256 ^ length xs + number_of xs
fold_from n [] = omega arith
fold_from n (x ∷ xs) =
    let b = 256 ^ length xs in
    let first : fold add (256 * n + x) xs ≡ (256 * n + x) * b + number_of xs = fold_from (256 * n + x) xs in
    let alone : number_of (x ∷ xs) ≡ (256 * 0 + x) * b + number_of xs = fold_from (256 * 0 + x) xs in
    let z : 256 * 0 + x ≡ x = omega arith in
    let y : (256 * 0 + x) * b ≡ x * b = ap (λ k. k * b) z in
    let p = more xs x in
    let d : (256 * n + x) * b ≡ 256 * n * b + x * b = add-mul (256 * n) x b in
    let c : n * 256 ≡ 256 * n = omega arith in
    let e : n * 256 ^ length (x ∷ xs) ≡ 256 * n * b = ap (λ k. n * k) p ∙ (sym (mul_assoc n 256 b) ∙ ap (λ k. k * b) c) in
    omega arith

number_first : (x : ℕ) (xs : List ℕ) → number_of (x ∷ xs) ≡ x * 256 ^ length xs + number_of xs
number_first x xs = let z : 256 * 0 + x ≡ x = omega arith in ap (λ n. fold add n xs) z ∙ fold_from x xs

small : (xs : List ℕ) → AreOctets xs → number_of xs < 256 ^ length xs
small [] h = omega arith
small (x ∷ xs) h =
    let f = number_first x xs in
    let p = more xs x in
    let r = small xs h.1 in
    let o = h.0 in
    let m : (x + 1) * 256 ^ length xs ≤ 256 * 256 ^ length xs = mul-le (x + 1) (256 ^ length xs) 256 (256 ^ length xs) (omega arith) (omega arith) in
    let d : (x + 1) * 256 ^ length xs ≡ x * 256 ^ length xs + 1 * 256 ^ length xs = add-mul x 1 (256 ^ length xs) in
    omega arith

same_digit : (k l m n : ℕ) → k ≡ l → nat_le (k + m) (l + n) ≡ nat_le m n
same_digit k l m n e =
    elim (cases_lt n m) [
      | inl lt ↦ lt-leb (k + m) (l + n) (omega arith) ∙ sym (lt-leb m n lt)
      | inr le ↦ le-leb (k + m) (l + n) (omega arith) ∙ sym (le-leb m n le)
    ]

-- a digit, and less than one of it
digit : (x y b m n : ℕ) → m < b → n < b → nat_le (x * b + m) (y * b + n) ≡ (nat_lt x y || (x == y && nat_le m n))
digit x y b m n p q =
    elim (cases_order x y) [
      | inl e ↦ same_digit (x * b) (y * b) m n (ap (λ k. k * b) e) ∙ sym (rw (le-ltb x y (omega arith), eq-eqb x y e) refl)
      | inr (inl lt) ↦
          (let k : (x + 1) * b ≤ y * b = mul-le (x + 1) b y b (omega arith) (omega arith) in
          let d : (x + 1) * b ≡ x * b + 1 * b = add-mul x 1 b in
          le-leb (x * b + m) (y * b + n) (omega arith) ∙ sym (ap (λ t. t || (x == y && nat_le m n)) (lt-ltb x y lt)))
      | inr (inr gt) ↦
          (let k : (y + 1) * b ≤ x * b = mul-le (y + 1) b x b (omega arith) (omega arith) in
          let d : (y + 1) * b ≡ y * b + 1 * b = add-mul y 1 b in
          lt-leb (x * b + m) (y * b + n) (omega arith) ∙ sym (rw (le-ltb x y (omega arith), ne_eqb x y (λ e. omega arith)) refl))
    ]

-- Numbers of as many octets are ordered as these.
number_lex : (xs ys : List ℕ) → length xs ≡ length ys → AreOctets xs → AreOctets ys → nat_le (number_of xs) (number_of ys) ≡ lex xs ys
number_lex [] [] e h k = refl
number_lex [] (y ∷ ys) e h k = absurd (omega arith)
number_lex (x ∷ xs) [] e h k = absurd (omega arith)
number_lex (x ∷ xs) (y ∷ ys) e h k =
    let same : length xs ≡ length ys = omega arith in
    let b = 256 ^ length xs in
    let right : number_of (y ∷ ys) ≡ y * b + number_of ys = number_first y ys ∙ ap (λ n. y * 256 ^ n + number_of ys) (sym same) in
    let less : number_of ys < b = (let l = small ys k.1 in let q : 256 ^ length ys ≡ b = ap (λ n. 256 ^ n) (sym same) in omega arith) in
    ap (λ n. nat_le n (number_of (y ∷ ys))) (number_first x xs)
    ∙ (ap (λ n. nat_le (x * b + number_of xs) n) right
    ∙ (digit x y b (number_of xs) (number_of ys) (small xs h.1) less ∙ ap (λ t. nat_lt x y || (x == y && t)) (number_lex xs ys same h.1 k.1)))

tested : (a t y u : ℕ) → (a ≡ t → (t ≤ y) × (y ≤ u)) → (t ≤ y → y ≤ u → a ≡ t) → (a == t) ≡ (nat_le t y && nat_le y u)
tested a t y u f g =
    elim (cases_eq a t) [
      | inl e ↦ eq-eqb a t e ∙ sym (rw (le-leb t y (f e).0, le-leb y u (f e).1) refl)
      | inr n ↦ ne_eqb a t n
          ∙ sym
          (elim (cases_lt y t) [
            | inl lt ↦ and_left (nat_le t y) (nat_le y u) (lt-leb t y lt)
            | inr le ↦ elim (cases_lt u y) [
              | inl lt ↦ and_right (nat_le t y) (nat_le y u) (lt-leb y u lt)
              | inr most ↦ absurd (n (g le most))
            ]
          ])
    ]

le_or : (a b : ℕ) (c : Bool) → c ≡ true → (nat_lt a b || (a == b && c)) ≡ nat_le a b
le_or a b c e =
    elim (cases_order a b) [
      | inl s ↦ rw (le-ltb a b (omega arith), eq-eqb a b s) (e ∙ sym (le-leb a b (omega arith)))
      | inr (inl lt) ↦ rw (lt-ltb a b lt) (sym (le-leb a b (omega arith)))
      | inr (inr gt) ↦ rw (le-ltb a b (omega arith), ne_eqb a b (λ s. omega arith)) (sym (lt-leb a b gt))
    ]

-- what no bit of a prefix looks at
free : (v p : List ℕ) → length v ≡ length p → AreOctets v → AreOctets p → same_octets (masked 0 v) (masked 0 p) ≡ true
free [] [] e h k = refl
free [] (x ∷ p) e h k = absurd (omega arith)
free (y ∷ v) [] e h k = absurd (omega arith)
free (y ∷ v) (x ∷ p) e h k =
    let a = h.0 in
    let b = k.0 in
    let s : top_bits 0 y ≡ top_bits 0 x = omega arith in
    and_from _ _ (eq-eqb (top_bits 0 y) (top_bits 0 x) s) (free v p (omega arith) h.1 k.1)

free_low : (v p : List ℕ) → length v ≡ length p → AreOctets v → AreOctets p → lex (masked 0 p) v ≡ true
free_low v [] e h k = refl
free_low [] (x ∷ p) e h k = refl
free_low (y ∷ v) (x ∷ p) e h k = let b = k.0 in le_or (top_bits 0 x) y (lex (masked 0 p) v) (free_low v p (omega arith) h.1 k.1) ∙ le-leb (top_bits 0 x) y (omega arith)

free_high : (v p : List ℕ) → length v ≡ length p → AreOctets v → AreOctets p → lex v (filled 0 p) ≡ true
free_high [] p e h k = refl
free_high (y ∷ v) [] e h k = refl
free_high (y ∷ v) (x ∷ p) e h k =
    let a = h.0 in
    let b = k.0 in
    le_or y (with_ones 0 x) (lex v (filled 0 p)) (free_high v p (omega arith) h.1 k.1) ∙ le-leb y (with_ones 0 x) (omega arith)

-- the first octets of a value and a prefix
abbrev Head : ℕ → ℕ → ℕ → Type 0
Head n y x = (top_bits n y == top_bits n x) ≡ (nat_le (top_bits n x) y && nat_le y (with_ones n x))

head : (n : ℕ) (y x : ℕ) → n < 8 → y < 256 → x < 256 → Head n y x
head zero y x lt a b = tested (top_bits 0 y) (top_bits 0 x) y (with_ones 0 x) (λ e. (omega arith, omega arith)) (λ p q. omega arith)
head (suc zero) y x lt a b = tested (top_bits 1 y) (top_bits 1 x) y (with_ones 1 x) (λ e. (omega arith, omega arith)) (λ p q. omega arith)
head (suc (suc zero)) y x lt a b = tested (top_bits 2 y) (top_bits 2 x) y (with_ones 2 x) (λ e. (omega arith, omega arith)) (λ p q. omega arith)
head (suc (suc (suc zero))) y x lt a b = tested (top_bits 3 y) (top_bits 3 x) y (with_ones 3 x) (λ e. (omega arith, omega arith)) (λ p q. omega arith)
head (suc (suc (suc (suc zero)))) y x lt a b = tested (top_bits 4 y) (top_bits 4 x) y (with_ones 4 x) (λ e. (omega arith, omega arith)) (λ p q. omega arith)
head (suc (suc (suc (suc (suc zero))))) y x lt a b = tested (top_bits 5 y) (top_bits 5 x) y (with_ones 5 x) (λ e. (omega arith, omega arith)) (λ p q. omega arith)
head (suc (suc (suc (suc (suc (suc zero)))))) y x lt a b = tested (top_bits 6 y) (top_bits 6 x) y (with_ones 6 x) (λ e. (omega arith, omega arith)) (λ p q. omega arith)
head (suc (suc (suc (suc (suc (suc (suc zero))))))) y x lt a b = tested (top_bits 7 y) (top_bits 7 x) y (with_ones 7 x) (λ e. (omega arith, omega arith)) (λ p q. omega arith)
head (suc (suc (suc (suc (suc (suc (suc (suc n)))))))) y x lt a b = absurd (omega arith)

and_true : (a b : Bool) → b ≡ true → (a && b) ≡ a
and_true true b e = e
and_true false b e = refl

-- the same of the octets behind the first ones
abbrev Step : ℕ → ℕ → ℕ → ℕ → List ℕ → List ℕ → Type 0
Step m d y x v p = (top_bits m y == top_bits m x && same_octets (masked d v) (masked d p))
    ≡ ((nat_lt (top_bits m x) y || (top_bits m x == y && lex (masked d p) v)) && (nat_lt y (with_ones m x) || (y == with_ones m x && lex v (filled d p))))

within : (n : ℕ) (y x : ℕ) (v p : List ℕ) → n < 8 → y < 256 → x < 256 → length v ≡ length p → AreOctets v → AreOctets p → Step n 0 y x v p
within n y x v p lt a b same h k =
    and_true (top_bits n y == top_bits n x) (same_octets (masked 0 v) (masked 0 p)) (free v p same h k)
    ∙ (head n y x lt a b
    ∙ sym
    (ap (λ t. t && (nat_lt y (with_ones n x) || (y == with_ones n x && lex v (filled 0 p)))) (le_or (top_bits n x) y (lex (masked 0 p) v) (free_low v p same h k))
    ∙ ap (λ t. nat_le (top_bits n x) y && t) (le_or y (with_ones n x) (lex v (filled 0 p)) (free_high v p same h k))))

-- whole octets
whole : (y x t u w : ℕ) (a b c : Bool) → u ≡ y → t ≡ x → w ≡ x → c ≡ (a && b) → (u == t && c) ≡ ((nat_lt t y || (t == y && a)) && (nat_lt y w || (y == w && b)))
whole y x t u w a b c e f g r =
    elim (cases_order x y) [
      | inl s ↦ rw (eq-eqb u t (omega arith), le-ltb t y (omega arith), eq-eqb t y (omega arith), le-ltb y w (omega arith), eq-eqb y w (omega arith)) r
      | inr (inl lt) ↦ rw (ne_eqb u t (λ s. omega arith), lt-ltb t y (omega arith), le-ltb y w (omega arith), ne_eqb y w (λ s. omega arith)) refl
      | inr (inr gt) ↦ rw (ne_eqb u t (λ s. omega arith), le-ltb t y (omega arith), ne_eqb t y (λ s. omega arith)) refl
    ]

-- The first bits agree exactly between the prefix with zeros and the prefix with ones.
agree_lex : (n : ℕ) (v p : List ℕ) → length v ≡ length p → AreOctets v → AreOctets p → same_octets (masked n v) (masked n p) ≡ (lex (masked n p) v && lex v (filled n p))
agree_lex n [] [] e h k = refl
agree_lex n [] (x ∷ p) e h k = absurd (omega arith)
agree_lex n (y ∷ v) [] e h k = absurd (omega arith)
agree_lex n (y ∷ v) (x ∷ p) e h k =
    let same : length v ≡ length p = omega arith in
    let rest = agree_lex (n - 8) v p same h.1 k.1 in
    elim (cases_lt n 8) [
      | inl lt ↦
          (let few : n ≡ min 8 n = omega arith in
          let none : 0 ≡ n - 8 = omega arith in
          subst (λ m. Step m (n - 8) y x v p) few (subst (λ d. Step n d y x v p) none (within n y x v p lt h.0 k.0 same h.1 k.1)))
      | inr ge ↦
          (let full : 8 ≡ min 8 n = omega arith in
          let t : top_bits 8 x ≡ x = omega arith in
          let u : top_bits 8 y ≡ y = omega arith in
          let w : with_ones 8 x ≡ x = omega arith in
          subst (λ m. Step m (n - 8) y x v p) full
          (whole y x (top_bits 8 x) (top_bits 8 y) (with_ones 8 x) (lex (masked (n - 8) p) v) (lex v (filled (n - 8) p)) (same_octets (masked (n - 8) v) (masked (n - 8) p)) u t w rest))
    ]

masked_octets : (n : ℕ) (p : List ℕ) → AreOctets p → AreOctets (masked n p)
masked_octets n [] h = tt
masked_octets n (x ∷ p) h = let b = h.0 in (omega arith, masked_octets (n - 8) p h.1)

with_ones_octet : (n x : ℕ) → n ≤ 8 → x < 256 → with_ones n x < 256
with_ones_octet zero x le a = omega arith
with_ones_octet (suc zero) x le a = omega arith
with_ones_octet (suc (suc zero)) x le a = omega arith
with_ones_octet (suc (suc (suc zero))) x le a = omega arith
with_ones_octet (suc (suc (suc (suc zero)))) x le a = omega arith
with_ones_octet (suc (suc (suc (suc (suc zero))))) x le a = omega arith
with_ones_octet (suc (suc (suc (suc (suc (suc zero)))))) x le a = omega arith
with_ones_octet (suc (suc (suc (suc (suc (suc (suc zero))))))) x le a = omega arith
with_ones_octet (suc (suc (suc (suc (suc (suc (suc (suc n)))))))) x le a = let z : n ≡ 0 = omega arith in subst (λ k. with_ones (suc (suc (suc (suc (suc (suc (suc (suc k)))))))) x < 256) (sym z) (omega arith)

filled_octets : (n : ℕ) (p : List ℕ) → AreOctets p → AreOctets (filled n p)
filled_octets n [] h = tt
filled_octets n (x ∷ p) h = (with_ones_octet (min 8 n) x (omega arith) h.0, filled_octets (n - 8) p h.1)

masked_length : (n : ℕ) (p : List ℕ) → length (masked n p) ≡ length p
masked_length n [] = refl
masked_length n (x ∷ p) = ap suc (masked_length (n - 8) p)

filled_length : (n : ℕ) (p : List ℕ) → length (filled n p) ≡ length p
filled_length n [] = refl
filled_length n (x ∷ p) = ap suc (filled_length (n - 8) p)

-- An address agrees with a row exactly where its number lies in the row's range.
pub agree_covers : (row : AnonRow) (value : List ℕ) → are_octets row.from.octets ≡ true → are_octets value ≡ true → agrees row.from value ≡ covers (length value) (number_of value) row
agree_covers row value row_octets value_octets =
    let h = octets_from row.from.octets row_octets in
    let k = octets_from value value_octets in
    let p = row.from.octets in
    let n = row.from.bits in
    elim (cases_eq (length value) (length p)) [
      | inr other ↦ and_left _ _ (ne_eqb _ _ other) ∙ sym (and_left _ _ (ne_eqb _ _ other))
      | inl same ↦ ap (λ t. length value == length p && t)
          (agree_lex n value p same k h
          ∙ (ap (λ t. t && lex value (filled n p)) (sym (number_lex (masked n p) value (masked_length n p ∙ sym same) (masked_octets n p h) k))
          ∙ ap (λ t. nat_le (low_of row) (number_of value) && t) (sym (number_lex value (filled n p) (same ∙ sym (filled_length n p)) k (filled_octets n p h)))))
    ]
