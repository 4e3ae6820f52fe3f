-- Entries of a map by key, and the rows that they stand for.
use Rattle.std.proofs.Common.{◌≡◌, ℕ, zero, Bool, true, false, cond, not, List, [], ◌∷◌, Option, Some, None, refl, ap, sym, subst, ◌∙◌, map, filter, option_map, unwrap_or}
use Rattle.std.specs.Prelude.{find, MatchOption}
use Rattle.std.specs.List.{AllByRecursion, IsDistinct}
use Rattle.std.specs.Map.{keys_of, lookup, remove_entry}

module _ {K X R : Type 0} (row : K × X → R) (eq : K → K → Bool) (k : K) (is : R → Bool)
    (agree : (e : K × X) → is (row e) ≡ eq k e.0) where
  abbrev others : R → Bool
  others x = not (is x)

  -- the value of the first entry of the key is that of the first row
  pub found : {Y : Type 0} (of_value : X → Y) (of_row : R → Y) → ((e : K × X) → of_row (row e) ≡ of_value e.1) → (es : List (K × X))
      → option_map of_value (lookup (eq k) es) ≡ option_map of_row (find is (map row es))
  found {Y} of_value of_row same [] = refl
  found {Y} of_value of_row same (e ∷ es) = by (found of_value of_row same es) (eq k e.0) refl
    where
      by : option_map of_value (lookup (eq k) es) ≡ option_map of_row (find is (map row es)) → (b : Bool) → eq k e.0 ≡ b
          → option_map of_value (cond (eq k e.0) (Some e.1) (lookup (eq k) es)) ≡ option_map of_row (cond (is (row e)) (Some (row e)) (find is (map row es)))
      by rest true h = ap (λ b. option_map of_value (cond b (Some e.1) (lookup (eq k) es))) h
          ∙ (ap Some (sym (same e)) ∙ sym (ap (λ b. option_map of_row (cond b (Some (row e)) (find is (map row es)))) (agree e ∙ h)))
      by rest false h = ap (λ b. option_map of_value (cond b (Some e.1) (lookup (eq k) es))) h
          ∙ (rest ∙ sym (ap (λ b. option_map of_row (cond b (Some (row e)) (find is (map row es)))) (agree e ∙ h)))

  -- no entry has the key where no row is of it
  pub absent : (es : List (K × X)) → find is (map row es) ≡ None → lookup (eq k) es ≡ None
  absent es none = by (lookup (eq k) es) refl
    where
      by : (r : Option X) → lookup (eq k) es ≡ r → lookup (eq k) es ≡ None
      by None h = h
      by (Some v) h = absurd (some_no (sym (ap (option_map (λ x. zero)) h) ∙ (found (λ x. zero) (λ x. zero) (λ e. refl) es ∙ ap (option_map (λ x. zero)) none)))
        where
          some_no : Some zero ≡ None → ⊥
          some_no h = absurd cc

  -- rows of other keys all stay
  pub others_stay : (es : List (K × X)) → AllByRecursion (λ y. eq k y ≡ false) (keys_of es) → filter others (map row es) ≡ map row es
  others_stay [] all = refl
  others_stay (e ∷ es) all =
      ap (λ b. cond (not b) (row e ∷ filter others (map row es)) (filter others (map row es))) (agree e ∙ all.0)
      ∙ ap (λ l. row e ∷ l) (others_stay es all.1)

  module _ (same : (x : K) → eq k x ≡ true → x ≡ k) where
    -- the one entry of the key goes
    pub one_goes : (es : List (K × X)) → IsDistinct eq (keys_of es) → map row (remove_entry (eq k) es) ≡ filter others (map row es)
    unfolding IsDistinct
    one_goes [] all = refl
    one_goes (e ∷ es) all = by (one_goes es all.1) all.0 (eq k e.0) refl
      where
        by : map row (remove_entry (eq k) es) ≡ filter others (map row es) → AllByRecursion (λ y. eq e.0 y ≡ false) (keys_of es)
            → (b : Bool) → eq k e.0 ≡ b → map row (cond (eq k e.0) es (e ∷ remove_entry (eq k) es)) ≡ cond (not (is (row e))) (row e ∷ filter others (map row es)) (filter others (map row es))
        by rest apart true h = ap (λ b. map row (cond b es (e ∷ remove_entry (eq k) es))) h
            ∙ (sym (others_stay es (subst (λ q. AllByRecursion (λ y. eq q y ≡ false) (keys_of es)) (same e.0 h) apart))
            ∙ sym (ap (λ b. cond (not b) (row e ∷ filter others (map row es)) (filter others (map row es))) (agree e ∙ h)))
        by rest apart false h = ap (λ b. map row (cond b es (e ∷ remove_entry (eq k) es))) h
            ∙ (ap (λ l. row e ∷ l) rest ∙ sym (ap (λ b. cond (not b) (row e ∷ filter others (map row es)) (filter others (map row es))) (agree e ∙ h)))

some_same : (a b : ℕ) → Some a ≡ Some b → a ≡ b
some_same a b h = ap (λ o. unwrap_or o a) h

-- what is found of a row, or that there is none
pub has : {R : Type 0} (of_row : R → ℕ) (r : Option ℕ) (f : Option R) → r ≡ option_map of_row f → MatchOption r (f ≡ None) (λ s. (x : R) × (f ≡ Some x) × (s ≡ of_row x))
has of_row None None e = refl
has of_row None (Some x) e = absurd cc
has of_row (Some s) None e = absurd cc
has of_row (Some s) (Some x) e = (x, refl, some_same s (of_row x) e)
