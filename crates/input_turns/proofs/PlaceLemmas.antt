-- One of the second of two lists side by side.
use Rattle.std.proofs.Common.{All, take, ◌≡◌, ℕ, zero, suc, ◌+◌, ◌<◌, List, [], ◌∷◌, length, get_or, set, sym, subst, ◌∙◌, arith, add-zero}
use Rattle.std.proofs.lemmas.List.{get_or-set_same, length-set, take-set}
use Rattle.std.proofs.lemmas.List.Elements.{All-more}
use Rattle.call_spec.specs.Pairs.{Each}

module _ {A B : Type 0} where
  -- the pair of a place
  pub found : (P : ℕ → A → B → Type 0) (n i m : ℕ) (xs : List A) (ys : List B) (d y : B) → i < length ys → y ≡ get_or ys i d → m ≡ n + i → Each P n xs ys → (a : A) × P m a y
  found P n i m [] [] d y lt is at e = absurd (omega arith)
  found P n i m [] (b ∷ ys) d y lt is at e = absurd e
  found P n i m (a ∷ xs) [] d y lt is at e = absurd e
  found P n zero m (a ∷ xs) (b ∷ ys) d y lt is at e = (a, subst (λ (w : B). P m a w) (sym is) (subst (λ k. P k a b) (sym (at ∙ add-zero n)) e.0))
  found P n (suc i) m (a ∷ xs) (b ∷ ys) d y lt is at e = found P (suc n) i m xs ys d y (omega arith) is (omega arith) e.1

  -- what holds of all but the pair before these
  behind : (P Q : ℕ → A → B → Type 0) (n m : ℕ) (xs : List A) (ys : List B) → m < n → ((k : ℕ) (a : A) (b : B) → (k ≡ m → ⊥) → P k a b → Q k a b) → Each P n xs ys → Each Q n xs ys
  behind P Q n m [] [] lt f e = tt
  behind P Q n m [] (b ∷ ys) lt f e = absurd e
  behind P Q n m (a ∷ xs) [] lt f e = absurd e
  behind P Q n m (a ∷ xs) (b ∷ ys) lt f e = (f n a b (λ k. omega arith) e.0, behind P Q (suc n) m xs ys (omega arith) f e.1)

  -- another in its place, and the others stay
  pub put : (P Q : ℕ → A → B → Type 0) (n i m : ℕ) (xs : List A) (ys : List B) (d x y : B) → i < length ys → x ≡ get_or ys i d → m ≡ n + i
      → ((k : ℕ) (a : A) (b : B) → (k ≡ m → ⊥) → P k a b → Q k a b) → ((a : A) → P m a x → Q m a y) → Each P n xs ys → Each Q n xs (set ys i y)
  put P Q n i m [] [] d x y lt is at f g e = absurd (omega arith)
  put P Q n i m [] (b ∷ ys) d x y lt is at f g e = absurd e
  put P Q n i m (a ∷ xs) [] d x y lt is at f g e = absurd e
  put P Q n zero m (a ∷ xs) (b ∷ ys) d x y lt is at f g e =
      let here : m ≡ n = at ∙ add-zero n in
      let first : P m a x = subst (λ (w : B). P m a w) (sym is) (subst (λ k. P k a b) (sym here) e.0) in
      (subst (λ k. Q k a y) here (g a first), behind P Q (suc n) m xs ys (omega arith) f e.1)
  put P Q n (suc i) m (a ∷ xs) (b ∷ ys) d x y lt is at f g e = (f n a b (λ k. omega arith) e.0, put P Q (suc n) i m xs ys d x y (omega arith) is (omega arith) f g e.1)

-- what holds of the first ones of a list, and of the next one in its new place
pub all_more_set : {X : Type 0} (P : X → Type 0) (xs : List X) (i : ℕ) (x : X) → i < length xs → All P (take i xs) → P x → All P (take (i + 1) (set xs i x))
all_more_set P xs i x lt all one =
    let long : length (set xs i x) ≡ length xs = length-set xs i x in
    All-more P (set xs i x) i x (omega arith) (subst (All P) (sym (take-set xs i x)) all) (subst P (sym (get_or-set_same xs i x x lt)) one)
