-- Laws of names that stand in lists, and of counts of openings.
use Rattle.std.proofs.Common.{◌≡◌, ◌≢◌, ◌⊎◌, inl, inr, ℕ, zero, suc, ◌+◌, ◌≤◌, ◌<◌, Bool, true, false, cond, List, [], ◌∷◌, ◌++◌, take, drop, refl, ap, sym, subst, ◌∙◌, arith, map}
use Rattle.std.specs.Prelude.{bytes_eq, ◌||◌}
use Rattle.site_io.specs.Outside.{one_more}
use Rattle.site_io.proofs.NamedRows.{bytes_eq_same, same_of_bytes_eq}
use Rattle.call_spec.specs.Pairs.{Each}
use Rattle.call_spec.specs.Names.{times, has, marked, after_openings}

pub zero_or : (n : ℕ) → (n ≡ 0) ⊎ (0 < n)
zero_or zero = inl refl
zero_or (suc n) = inr (omega arith)

-- names are equal or not
pub same_or : (p q : List ℕ) → ((bytes_eq p q ≡ true) × (p ≡ q)) ⊎ ((bytes_eq p q ≡ false) × (p ≢ q))
same_or p q = elim (bytes_eq p q) as (λ b. bytes_eq p q ≡ b → ((b ≡ true) × (p ≡ q)) ⊎ ((b ≡ false) × (p ≢ q))) [ true ↦ λ h. inl (refl, same_of_bytes_eq p q h) | false ↦ λ h. inr (refl, λ e. (let t : true ≡ false = sym (bytes_eq_same p q e) ∙ h in cc)) ] refl

pub itself : (p : List ℕ) → bytes_eq p p ≡ true
itself p = elim (same_or p p) [ inl s ↦ s.0 | inr d ↦ absurd (d.1 refl) ]

-- the part of a count that one name gives
abbrev pub one_if : List ℕ → List ℕ → ℕ
one_if p name = cond (bytes_eq p name) 1 0

pub times_both : (p : List ℕ) (xs ys : List (List ℕ)) → times p (xs ++ ys) ≡ times p xs + times p ys
times_both p [] ys = omega arith
times_both p (x ∷ xs) ys = let r = times_both p xs ys in omega arith

pub times_more : (p : List ℕ) (xs : List (List ℕ)) (y : List ℕ) → times p (xs ++ y ∷ []) ≡ times p xs + one_if p y
times_more p xs y = let r = times_both p xs (y ∷ []) in omega arith

pub times_drop : (p : List ℕ) (n : ℕ) (xs : List (List ℕ)) → times p (drop n xs) ≤ times p xs
times_drop p zero xs = omega arith
times_drop p (suc n) [] = omega arith
times_drop p (suc n) (x ∷ xs) = let r = times_drop p n xs in omega arith

pub times_take : (p : List ℕ) (n : ℕ) (xs : List (List ℕ)) → times p (take n xs) ≤ times p xs
times_take p zero xs = omega arith
times_take p (suc n) [] = omega arith
times_take p (suc n) (x ∷ xs) = let r = times_take p n xs in omega arith

pub has_both : (p : List ℕ) (xs ys : List (List ℕ)) → has p (xs ++ ys) ≡ (has p xs || has p ys)
has_both p [] ys = refl
has_both p (x ∷ xs) ys = elim (bytes_eq p x) as (λ b. (b || has p (xs ++ ys)) ≡ ((b || has p xs) || has p ys)) [ true ↦ refl | false ↦ has_both p xs ys ]

-- no mark, no marked name
pub unmarked : {X : Type 0} (f : X → Bool) (n : ℕ) (names : List (List ℕ)) (xs : List X) → Each (λ _ _ x. f x ≡ false) n names xs → marked names (map f xs) ≡ []
unmarked f n [] xs e = refl
unmarked f n (name ∷ names) [] e = refl
unmarked f n (name ∷ names) (x ∷ xs) e = ap (λ b. cond b (name ∷ marked names (map f xs)) (marked names (map f xs))) e.0 ∙ unmarked f (suc n) names xs e.1

-- a name that isn't there is not among those that are marked
pub marked_none : (p : List ℕ) (names : List (List ℕ)) (marks : List Bool) → times p names ≡ 0 → has p (marked names marks) ≡ false
marked_none p [] marks h = refl
marked_none p (name ∷ names) [] h = refl
marked_none p (name ∷ names) (mark ∷ marks) h =
    let rest : has p (marked names marks) ≡ false = marked_none p names marks (omega arith) in
    let differ : bytes_eq p name ≡ false = elim (bytes_eq p name) as (λ b. cond b 1 0 + times p names ≡ 0 → b ≡ false) [ true ↦ λ h. absurd (omega arith) | false ↦ λ h. refl ] h in
    elim mark as (λ m. has p (cond m (name ∷ marked names marks) (marked names marks)) ≡ false) [ true ↦ rw differ rest | false ↦ rest ]

-- each name of a list stands in it
pub members : {X : Type 0} (P : ℕ → List ℕ → X → Type 0) (f : List ℕ → ℕ) (n : ℕ) (names : List (List ℕ)) (xs : List X) → ((p : List ℕ) → times p names ≤ f p) → Each P n names xs → Each (λ k name x. P k name x × (1 ≤ f name)) n names xs
members P f n [] [] le e = tt
members P f n [] (x ∷ xs) le e = absurd e
members P f n (name ∷ names) [] le e = absurd e
members P f n (name ∷ names) (x ∷ xs) le e =
    let here = le name in let one : bytes_eq name name ≡ true = itself name in
    ((e.0, (let c : one_if name name ≡ 1 = ap (λ b. cond b 1 0) one in omega arith)), members P f (suc n) names xs (λ p. let h = le p in omega arith) e.1)

-- a name that stands in a list has a partner
pub partner : {X : Type 0} (P : ℕ → List ℕ → X → Type 0) (n : ℕ) (names : List (List ℕ)) (xs : List X) (p : List ℕ) → 0 < times p names → Each P n names xs → (k : ℕ) × (x : X) × P k p x
partner P n [] [] p lt e = absurd (omega arith)
partner P n [] (x ∷ xs) p lt e = absurd e
partner P n (name ∷ names) [] p lt e = absurd e
partner P n (name ∷ names) (x ∷ xs) p lt e =
    elim (same_or p name) [
      | inl s ↦ (n, x, subst (λ q. P n q x) (sym s.1) e.0)
      | inr d ↦ partner P (suc n) names xs p (let c : one_if p name ≡ 0 = ap (λ b. cond b 1 0) d.0 in omega arith) e.1
    ]

pub none_after : (c : ℕ) → after_openings 0 c ≡ c
none_after c = omega arith

pub one_after : (n c : ℕ) → one_more (after_openings n c) ≡ after_openings (n + 1) c
one_after n c = omega arith

pub more_after : (n m c : ℕ) → after_openings m (after_openings n c) ≡ after_openings (n + m) c
more_after n m c = omega arith

-- a name stands in a list or not
pub has_some : (p : List ℕ) (names : List (List ℕ)) → 0 < times p names → has p names ≡ true
has_some p [] lt = absurd (omega arith)
has_some p (name ∷ names) lt =
    elim (same_or p name) [
      | inl s ↦ ap (λ b. b || has p names) s.0
      | inr d ↦ ap (λ b. b || has p names) d.0 ∙ has_some p names (let c : one_if p name ≡ 0 = ap (λ b. cond b 1 0) d.0 in omega arith)
    ]

pub has_none : (p : List ℕ) (names : List (List ℕ)) → times p names ≡ 0 → has p names ≡ false
has_none p [] e = refl
has_none p (name ∷ names) e =
    elim (same_or p name) [
      | inl s ↦ absurd (let c : one_if p name ≡ 1 = ap (λ b. cond b 1 0) s.0 in omega arith)
      | inr d ↦ ap (λ b. b || has p names) d.0 ∙ has_none p names (omega arith)
    ]
