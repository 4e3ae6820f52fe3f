-- Sums that change at one place alone, and how often something stands among different ones.
use Rattle.std.proofs.Common.{◌≡◌, ℕ, zero, suc, ◌+◌, ◌≤◌, Bool, true, false, ◌||◌, cond, List, [], ◌∷◌, ◌++◌, refl, ap, sym, subst, ◌∙◌, arith}
use Rattle.std.specs.Prelude.{sum_by, count_by, fold}
use Rattle.std.specs.List.{list_any}
use Rattle.std.proofs.lemmas.List.Sums.{sum_by-cons, sum_by_push}
use Rattle.run_spec.specs.Judge.{different_by}
use Rattle.count_spec.specs.More.{one_if}

-- what is the same of two is equal, and each is the same as itself
pub record IsTest {X : Type 0} (same : X → X → Bool) : Type 0 where
  pub is : (a b : X) → same a b ≡ true → a ≡ b
  pub own : (a : X) → same a a ≡ true

-- a number where a test holds
abbrev pub where_it : {X : Type 0} → (X → Bool) → ℕ → X → ℕ
where_it test n x = cond (test x) n 0

-- f and g differ only where the test holds, by a there against b
pub sum_at : {X : Type 0} (test : X → Bool) (f g : X → ℕ) (a b : ℕ) (xs : List X) → ((x : X) → test x ≡ false → f x ≡ g x) → ((x : X) → test x ≡ true → f x + b ≡ g x + a)
    → sum_by f xs + sum_by (where_it test b) xs ≡ sum_by g xs + sum_by (where_it test a) xs
sum_at test f g a b [] other own = refl
sum_at test f g a b (x ∷ xs) other own =
    let further = sum_at test f g a b xs other own in
    let e1 = sum_by-cons f x xs in
    let e2 = sum_by-cons g x xs in
    let e3 = sum_by-cons (where_it test a) x xs in
    let e4 = sum_by-cons (where_it test b) x xs in
    let one = at_one (test x) refl in
    omega arith
  where
    at_one : (c : Bool) → test x ≡ c → f x + cond (test x) b 0 ≡ g x + cond (test x) a 0
    at_one true e = let o = own x e in ap (λ c. f x + cond c b 0) e ∙ (o ∙ sym (ap (λ c. g x + cond c a 0) e))
    at_one false e = let o = other x e in ap (λ c. f x + cond c b 0) e ∙ (ap (λ n. n + 0) o ∙ sym (ap (λ c. g x + cond c a 0) e))

-- a number where a test holds, which it does nowhere, or once, or at most once
pub nowhere : {X : Type 0} (test : X → Bool) (n : ℕ) (xs : List X) → count_by test xs ≡ 0 → sum_by (where_it test n) xs ≡ 0
nowhere test n [] e = refl
nowhere test n (x ∷ xs) e =
    let c = sum_by-cons (λ y. one_if (test y)) x xs in
    let s = sum_by-cons (where_it test n) x xs in
    at_one (test x) refl c s (nowhere test n xs)
  where
    at_one : (b : Bool) → test x ≡ b → count_by test (x ∷ xs) ≡ one_if (test x) + count_by test xs → sum_by (where_it test n) (x ∷ xs) ≡ cond (test x) n 0 + sum_by (where_it test n) xs
        → (count_by test xs ≡ 0 → sum_by (where_it test n) xs ≡ 0) → sum_by (where_it test n) (x ∷ xs) ≡ 0
    at_one true f c s further = let one : one_if (test x) ≡ one_if true = ap one_if f in absurd (omega arith)
    at_one false f c s further =
        let none : one_if (test x) ≡ one_if false = ap one_if f in
        let zero_ : cond (test x) n 0 ≡ 0 = ap (λ d. cond d n 0) f in
        let rest = further (omega arith) in
        omega arith

pub once : {X : Type 0} (test : X → Bool) (n : ℕ) (xs : List X) → count_by test xs ≡ 1 → sum_by (where_it test n) xs ≡ n
once test n [] e = absurd (let f : 0 ≡ 1 = e in omega arith)
once test n (x ∷ xs) e =
    let c = sum_by-cons (λ y. one_if (test y)) x xs in
    let s = sum_by-cons (where_it test n) x xs in
    at_one (test x) refl c s (once test n xs) (nowhere test n xs)
  where
    at_one : (b : Bool) → test x ≡ b → count_by test (x ∷ xs) ≡ one_if (test x) + count_by test xs → sum_by (where_it test n) (x ∷ xs) ≡ cond (test x) n 0 + sum_by (where_it test n) xs
        → (count_by test xs ≡ 1 → sum_by (where_it test n) xs ≡ n) → (count_by test xs ≡ 0 → sum_by (where_it test n) xs ≡ 0) → sum_by (where_it test n) (x ∷ xs) ≡ n
    at_one true f c s further none =
        let one : one_if (test x) ≡ one_if true = ap one_if f in
        let all : cond (test x) n 0 ≡ n = ap (λ d. cond d n 0) f in
        let rest = none (omega arith) in
        omega arith
    at_one false f c s further none =
        let no : one_if (test x) ≡ one_if false = ap one_if f in
        let zero_ : cond (test x) n 0 ≡ 0 = ap (λ d. cond d n 0) f in
        let rest = further (omega arith) in
        omega arith

pub at_most_once : {X : Type 0} (test : X → Bool) (n : ℕ) (xs : List X) → count_by test xs ≤ 1 → sum_by (where_it test n) xs ≤ n
at_most_once test n xs e = by_count (count_by test xs) refl e
  where
    by_count : (k : ℕ) → count_by test xs ≡ k → k ≤ 1 → sum_by (where_it test n) xs ≤ n
    by_count zero f le = let s = nowhere test n xs f in omega arith
    by_count (suc zero) f le = let s = once test n xs f in omega arith
    by_count (suc (suc k)) f le = absurd (omega arith)

-- a test that holds of none, or of some
pub none_counted : {X : Type 0} (test : X → Bool) (xs : List X) → list_any test xs ≡ false → count_by test xs ≡ 0
none_counted test [] e = refl
none_counted test (x ∷ xs) e = let c = sum_by-cons (λ y. one_if (test y)) x xs in at_one (test x) refl e c (none_counted test xs)
  where
    at_one : (b : Bool) → test x ≡ b → test x || list_any test xs ≡ false → count_by test (x ∷ xs) ≡ one_if (test x) + count_by test xs → (list_any test xs ≡ false → count_by test xs ≡ 0) → count_by test (x ∷ xs) ≡ 0
    at_one true f g c further = absurd (let no : true ≡ false = sym (ap (λ d. d || list_any test xs) f) ∙ g in cc)
    at_one false f g c further =
        let rest = further (sym (ap (λ d. d || list_any test xs) f) ∙ g) in
        let none : one_if (test x) ≡ one_if false = ap one_if f in
        omega arith

pub some_counted : {X : Type 0} (test : X → Bool) (xs : List X) → list_any test xs ≡ true → 1 ≤ count_by test xs
some_counted test [] e = absurd cc
some_counted test (x ∷ xs) e = let c = sum_by-cons (λ y. one_if (test y)) x xs in at_one (test x) refl e c (some_counted test xs)
  where
    at_one : (b : Bool) → test x ≡ b → test x || list_any test xs ≡ true → count_by test (x ∷ xs) ≡ one_if (test x) + count_by test xs → (list_any test xs ≡ true → 1 ≤ count_by test xs) → 1 ≤ count_by test (x ∷ xs)
    at_one true f g c further = let one : one_if (test x) ≡ one_if true = ap one_if f in omega arith
    at_one false f g c further = let rest = further (sym (ap (λ d. d || list_any test xs) f) ∙ g) in omega arith

module _ {X : Type 0} (same : X → X → Bool) (test : IsTest same) where
  abbrev pub grown_by : List X → X → List X
  grown_by seen x = cond (list_any (λ y. same y x) seen) seen (seen ++ x ∷ [])

  abbrev is_for : X → X → Bool
  is_for q y = same y q

  one_at_most : (q : X) (seen : List X) (x : X) → count_by (is_for q) seen ≤ 1 → count_by (is_for q) (grown_by seen x) ≤ 1
  one_at_most q seen x le = by_known (list_any (is_for x) seen) refl
    where
      by_same : (b : Bool) → same x q ≡ b → list_any (is_for x) seen ≡ false → count_by (is_for q) (seen ++ x ∷ []) ≤ 1
      by_same true e none =
          let s = sum_by_push (λ y. one_if (is_for q y)) seen x in
          let no = none_counted (is_for q) seen (subst (λ (z : X). list_any (is_for z) seen ≡ false) (test.is x q e) none) in
          let one : one_if (same x q) ≡ one_if true = ap one_if e in
          omega arith
      by_same false e none =
          let s = sum_by_push (λ y. one_if (is_for q y)) seen x in
          let zero_ : one_if (same x q) ≡ one_if false = ap one_if e in
          omega arith

      by_known : (b : Bool) → list_any (is_for x) seen ≡ b → count_by (is_for q) (cond b seen (seen ++ x ∷ [])) ≤ 1
      by_known true e = le
      by_known false e = by_same (same x q) refl e

  most_after : (q : X) (seen list : List X) → count_by (is_for q) seen ≤ 1 → count_by (is_for q) (fold grown_by seen list) ≤ 1
  most_after q seen [] le = le
  most_after q seen (x ∷ list) le = most_after q (grown_by seen x) list (one_at_most q seen x le)

  -- Each stands among the different ones at most once.
  pub different_once : (q : X) (list : List X) → count_by (is_for q) (different_by same list) ≤ 1
  different_once q list = most_after q [] list (omega arith)

  stays : (q : X) (seen : List X) (x : X) → 1 ≤ count_by (is_for q) seen → 1 ≤ count_by (is_for q) (grown_by seen x)
  stays q seen x le = by_known (list_any (is_for x) seen)
    where
      by_known : (b : Bool) → 1 ≤ count_by (is_for q) (cond b seen (seen ++ x ∷ []))
      by_known true = le
      by_known false = let s = sum_by_push (λ y. one_if (is_for q y)) seen x in omega arith

  all_stay : (q : X) (seen list : List X) → 1 ≤ count_by (is_for q) seen → 1 ≤ count_by (is_for q) (fold grown_by seen list)
  all_stay q seen [] le = le
  all_stay q seen (x ∷ list) le = all_stay q (grown_by seen x) list (stays q seen x le)

  comes : (seen : List X) (x : X) → 1 ≤ count_by (is_for x) (grown_by seen x)
  comes seen x = by_known (list_any (is_for x) seen) refl
    where
      by_known : (b : Bool) → list_any (is_for x) seen ≡ b → 1 ≤ count_by (is_for x) (cond b seen (seen ++ x ∷ []))
      by_known true e = some_counted (is_for x) seen e
      by_known false e =
          let s = sum_by_push (λ y. one_if (is_for x y)) seen x in
          let one : one_if (same x x) ≡ one_if true = ap one_if (test.own x) in
          omega arith

  some_after : (q : X) (seen list : List X) → list_any (is_for q) list ≡ true → 1 ≤ count_by (is_for q) (fold grown_by seen list)
  some_after q seen [] e = absurd cc
  some_after q seen (x ∷ list) e = by_same (same x q) refl e (some_after q (grown_by seen x) list)
    where
      by_same : (b : Bool) → same x q ≡ b → b || list_any (is_for q) list ≡ true → (list_any (is_for q) list ≡ true → 1 ≤ count_by (is_for q) (fold grown_by (grown_by seen x) list))
          → 1 ≤ count_by (is_for q) (fold grown_by (grown_by seen x) list)
      by_same true f g further = subst (λ (z : X). 1 ≤ count_by (is_for z) (fold grown_by (grown_by seen x) list)) (test.is x q f) (all_stay x (grown_by seen x) list (comes seen x))
      by_same false f g further = further g

  -- And what stands in the list stands there just once.
  pub different_there : (q : X) (list : List X) → list_any (is_for q) list ≡ true → count_by (is_for q) (different_by same list) ≡ 1
  different_there q list e =
      let most = different_once q list in
      let some = some_after q [] list e in
      omega arith
