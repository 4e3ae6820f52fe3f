-- The different elements of fields.
use Rattle.std.proofs.Common.{◌≡◌, Bool, true, false, not, ◌&&◌, ◌||◌, cond, List, [], ◌∷◌, ◌++◌, eqb, refl, sym, ap, ap₂, ◌∙◌}
use Rattle.std.specs.Prelude.{filter, if◌then◌else◌}
use Rattle.std.specs.List.{list_any, AllByRecursion, IsDistinct}
use Rattle.std.proofs.lemmas.Cmp.{nat_eq_equiv}
use Rattle.std.proofs.lemmas.Bool.{and_parts, not_from_false}
use Rattle.std.proofs.lemmas.List.Elements.{filter-append}
use Rattle.std.proofs.lemmas.Map.Views.{any-filter_same}
use Rattle.text_spec.specs.Fields.{Pair, pair_of, is_of, is_pair, different}
use Rattle.text_spec.specs.Laws.{DifferentOccur, DifferentGrow, DifferentDiffer}

pub is_pair-refl : (x : Pair) → is_pair x x ≡ true
is_pair-refl x = ap₂ (λ a b. a && b) (nat_eq_equiv.refl x.pen) (nat_eq_equiv.refl x.id)

pub is_pair-symm : (x y : Pair) → is_pair x y ≡ is_pair y x
is_pair-symm x y = ap₂ (λ a b. a && b) (nat_eq_equiv.symm x.pen y.pen) (nat_eq_equiv.symm x.id y.id)

pub is_pair-congr : (x y z : Pair) → is_pair x y ≡ true → is_pair x z ≡ is_pair y z
is_pair-congr x y z h =
    let parts = and_parts (eqb x.pen y.pen) (eqb x.id y.id) h in
    ap₂ (λ a b. a && b) (nat_eq_equiv.congr x.pen y.pen z.pen parts.0) (nat_eq_equiv.congr x.id y.id z.id parts.1)

-- what is the pair p isn't f, where p isn't f
other_pair : (p f o : Pair) → is_pair p f ≡ false → is_pair p o ≡ true → not (is_pair f o) ≡ true
other_pair p f o apart same = not_from_false (is_pair f o) (is_pair-symm f o ∙ sym (is_pair-congr p o f same) ∙ apart)

occur_step : (p f : Pair) (others : List Pair) (b found : Bool) → is_pair p f ≡ b → list_any (is_pair p) others ≡ found
    → (b || list_any (is_pair p) (filter (λ o. not (is_pair f o)) others)) ≡ (b || found)
occur_step p f others true found e h = refl
occur_step p f others false found e h = any-filter_same (is_pair p) (λ o. not (is_pair f o)) true (λ o same. other_pair p f o e same) others ∙ h

pub different_occur : DifferentOccur
different_occur pair [] = refl
different_occur pair (field ∷ fields) = occur_step pair (pair_of field) (different fields) _ _ refl (different_occur pair fields)

-- what the kept elements pass, and what each passed before
kept_case : {X : Type 0} (P : X → Type 0) (keep : X → Bool) (x : X) (xs : List X) (b : Bool) → (b ≡ true → P x) → AllByRecursion P xs
    → AllByRecursion P (cond b (x ∷ xs) xs)
kept_case P keep x xs true h all = (h refl, all)
kept_case P keep x xs false h all = all

pub kept_pass : {X : Type 0} (P : X → Type 0) (keep : X → Bool) → ((x : X) → keep x ≡ true → P x) → (xs : List X) → AllByRecursion P (filter keep xs)
kept_pass P keep h [] = tt
kept_pass P keep h (x ∷ xs) = kept_case P keep x (filter keep xs) (keep x) (h x) (kept_pass P keep h xs)

pub kept_still : {X : Type 0} (P : X → Type 0) (keep : X → Bool) (xs : List X) → AllByRecursion P xs → AllByRecursion P (filter keep xs)
kept_still P keep [] all = tt
kept_still P keep (x ∷ xs) all = kept_case P keep x (filter keep xs) (keep x) (λ e. all.0) (kept_still P keep xs all.1)

distinct_case : {X : Type 0} (eq : X → X → Bool) (x : X) (xs : List X) (b : Bool) → AllByRecursion (λ y. eq x y ≡ false) xs → IsDistinct eq xs
    → IsDistinct eq (cond b (x ∷ xs) xs)
unfolding IsDistinct
distinct_case eq x xs true apart all = (apart, all)
distinct_case eq x xs false apart all = all

distinct_kept : {X : Type 0} (eq : X → X → Bool) (keep : X → Bool) (xs : List X) → IsDistinct eq xs → IsDistinct eq (filter keep xs)
unfolding IsDistinct
distinct_kept eq keep [] all = tt
distinct_kept eq keep (x ∷ xs) all =
    distinct_case eq x (filter keep xs) (keep x) (kept_still (λ y. eq x y ≡ false) keep xs all.0) (distinct_kept eq keep xs all.1)

not-true : (b : Bool) → not b ≡ true → b ≡ false
not-true true e = sym e
not-true false e = refl

pub different_differ : DifferentDiffer
unfolding IsDistinct
different_differ [] = tt
different_differ (field ∷ fields) = (
  kept_pass (λ y. is_pair (pair_of field) y ≡ false) (λ o. not (is_pair (pair_of field) o)) (λ o e. not-true (is_pair (pair_of field) o) e) (different fields),
  distinct_kept is_pair (λ o. not (is_pair (pair_of field) o)) (different fields) (different_differ fields),
)

-- the element at the end is dropped where it is the first one, and else stays
end_kept : (f p : Pair) (b same : Bool) → is_pair f p ≡ same
    → filter (λ o. not (is_pair f o)) (if b then [] else p ∷ []) ≡ (if same || b then [] else p ∷ [])
end_kept f p true true e = refl
end_kept f p true false e = refl
end_kept f p false true e = rw e refl
end_kept f p false false e = rw e refl

pub different_grow : DifferentGrow
different_grow [] field = refl
different_grow (first ∷ fields) field =
    let keep : Pair → Bool = λ o. not (is_pair (pair_of first) o) in
    let end : List Pair = if list_any (is_of (pair_of field)) fields then [] else pair_of field ∷ [] in
    let grown = ap (λ more. pair_of first ∷ filter keep more) (different_grow fields field) in
    let split = ap (λ more. pair_of first ∷ more) (filter-append keep (different fields) end) in
    let dropped = ap (λ more. pair_of first ∷ filter keep (different fields) ++ more)
    (end_kept (pair_of first) (pair_of field) (list_any (is_of (pair_of field)) fields) (is_pair (pair_of field) (pair_of first)) (is_pair-symm (pair_of first) (pair_of field))) in
    grown ∙ split ∙ dropped
