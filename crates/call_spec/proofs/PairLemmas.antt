-- Laws of two lists side by side.
use Rattle.std.proofs.Common.{◌≡◌, ℕ, zero, suc, ◌+◌, ◌<◌, List, [], ◌∷◌, ◌++◌, length, ap, refl, sym, subst, ◌∙◌, arith, add-zero}
use Rattle.call_spec.specs.Pairs.{Each}

module _ {A B : Type 0} where
  -- a weaker fact
  pub weaker : (P Q : ℕ → A → B → Type 0) (n : ℕ) (xs : List A) (ys : List B) → ((k : ℕ) (a : A) (b : B) → k < n + length xs → P k a b → Q k a b) → Each P n xs ys → Each Q n xs ys
  weaker P Q n [] [] f e = tt
  weaker P Q n [] (b ∷ ys) f e = absurd e
  weaker P Q n (a ∷ xs) [] f e = absurd e
  weaker P Q n (a ∷ xs) (b ∷ ys) f e = (f n a b (omega arith) e.0, weaker P Q (suc n) xs ys (λ k x y lt. f k x y (omega arith)) e.1)

  -- one pair more
  pub more : (P : ℕ → A → B → Type 0) (n m : ℕ) (xs : List A) (ys : List B) (a : A) (b : B) → m ≡ n + length xs → Each P n xs ys → P m a b → Each P n (xs ++ a ∷ []) (ys ++ b ∷ [])
  more P n m [] [] a b is e p = (subst (λ k. P k a b) (is ∙ add-zero n) p, tt)
  more P n m [] (y ∷ ys) a b is e p = absurd e
  more P n m (x ∷ xs) [] a b is e p = absurd e
  more P n m (x ∷ xs) (y ∷ ys) a b is e p = (e.0, more P (suc n) m xs ys a b (omega arith) e.1 p)

  pub same_length : (P : ℕ → A → B → Type 0) (n : ℕ) (xs : List A) (ys : List B) → Each P n xs ys → length xs ≡ length ys
  same_length P n [] [] e = refl
  same_length P n [] (b ∷ ys) e = absurd e
  same_length P n (a ∷ xs) [] e = absurd e
  same_length P n (a ∷ xs) (b ∷ ys) e = ap suc (same_length P (suc n) xs ys e.1)

  -- facts that don't speak of the pair's number
  pub renumber : (P : A → B → Type 0) (n m : ℕ) (xs : List A) (ys : List B) → Each (λ _. P) n xs ys → Each (λ _. P) m xs ys
  renumber P n m [] [] e = tt
  renumber P n m [] (y ∷ ys) e = absurd e
  renumber P n m (x ∷ xs) [] e = absurd e
  renumber P n m (x ∷ xs) (y ∷ ys) e = (e.0, renumber P (suc n) (suc m) xs ys e.1)

  -- two facts of the same pairs
  pub both : (P Q : ℕ → A → B → Type 0) (n : ℕ) (xs : List A) (ys : List B) → Each P n xs ys → Each Q n xs ys → Each (λ k a b. P k a b × Q k a b) n xs ys
  both P Q n [] [] e f = tt
  both P Q n [] (b ∷ ys) e f = absurd e
  both P Q n (a ∷ xs) [] e f = absurd e
  both P Q n (a ∷ xs) (b ∷ ys) e f = ((e.0, f.0), both P Q (suc n) xs ys e.1 f.1)
