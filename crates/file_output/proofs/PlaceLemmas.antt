-- The place of a definition among those that are known.
use Rattle.std.proofs.Common.{◌≡◌, ℕ, suc, ◌+◌, ◌<◌, ◌≤◌, Bool, true, false, cond, ◌||◌, List, [], ◌∷◌, ◌++◌, Some, None, length, refl, ap, sym, ◌∙◌, not, arith, length-drop, drop, subst, get_or-drop}
use Rattle.std.specs.Prelude.{nat_lt, position, slice_index_or}
use Rattle.std.specs.List.{list_any, position_or_len}
use Rattle.std.proofs.lemmas.List.Folds.{list_any_at}
use Rattle.wire_spec.specs.Content.{Definition}
use Rattle.template_spec.specs.Same.{same_definition}
use Rattle.template_spec.proofs.SameLemmas.{same_own}
use Rattle.file_spec.specs.File.{place_of, with_definition}

place_is : (def : Definition) (known : List Definition) → place_of def known ≡ 1 + position_or_len (same_definition def) known
place_is def [] = refl
place_is def (d ∷ known) = by (same_definition def d) (place_is def known)
  where
    by : (b : Bool) → place_of def known ≡ 1 + position_or_len (same_definition def) known
        → cond b 1 (1 + place_of def known) ≡ 1 + cond (not b) (1 + position_or_len (same_definition def) known) 0
    by true e = refl
    by false e = ap (λ n. 1 + n) e

-- one that is found at an index has the place behind it
pub place_found : (def : Definition) (known : List Definition) (i : ℕ) → position (same_definition def) known ≡ Some i → place_of def known ≡ 1 + i
place_found def known i e = place_is def known ∙ ap (λ n. 1 + n) (by (nat_lt (position_or_len (same_definition def) known) (length known)) e)
  where
    by : (b : Bool) → cond b (Some (position_or_len (same_definition def) known)) None ≡ Some i → position_or_len (same_definition def) known ≡ i
    by true e = cc
    by false e = absurd cc

-- one that is there has a place among them
pub place_within : (def : Definition) (known : List Definition) → list_any (same_definition def) known ≡ true → place_of def known ≤ length known
place_within def [] e = absurd cc
place_within def (d ∷ known) e = by (same_definition def d) (place_within def known) e
  where
    by : (b : Bool) → (list_any (same_definition def) known ≡ true → place_of def known ≤ length known) → b || list_any (same_definition def) known ≡ true
        → cond b 1 (1 + place_of def known) ≤ suc (length known)
    by true further e = omega arith
    by false further e = (let l = further e in omega arith)

-- one that is none of them has the next place
pub place_next : (def : Definition) (known : List Definition) → list_any (same_definition def) known ≡ false → place_of def (known ++ def ∷ []) ≡ 1 + length known
place_next def [] e = ap (λ (b : Bool). cond b 1 2) (same_own def)
place_next def (d ∷ known) e = by (same_definition def d) (place_next def known) e
  where
    by : (b : Bool) → (list_any (same_definition def) known ≡ false → place_of def (known ++ def ∷ []) ≡ 1 + length known) → b || list_any (same_definition def) known ≡ false
        → cond b 1 (1 + place_of def (known ++ def ∷ [])) ≡ 1 + length (d ∷ known)
    by true further e = absurd cc
    by false further e = (let l = further e in omega arith)

pub entered_last : (def : Definition) (known : List Definition) → list_any (same_definition def) known ≡ false → with_definition known def ≡ known ++ def ∷ []
entered_last def known e = ap (λ (b : Bool). cond b known (known ++ def ∷ [])) e

pub entered_before : (def : Definition) (known : List Definition) → list_any (same_definition def) known ≡ true → with_definition known def ≡ known
entered_before def known e = ap (λ (b : Bool). cond b known (known ++ def ∷ [])) e

pub place_entered : (def : Definition) (known : List Definition) → list_any (same_definition def) known ≡ false → place_of def (with_definition known def) ≡ 1 + length known
place_entered def known e = ap (place_of def) (entered_last def known e) ∙ place_next def known e

known_at : (known : List Definition) (i : ℕ) (d : Definition) → i < length known → list_any (same_definition (slice_index_or known i d)) known ≡ true
known_at known i d l = list_any_at (same_definition (slice_index_or known i d)) known i d l (same_own (slice_index_or known i d))

-- each of the definitions behind the first ones is known
pub own_known : (known : List Definition) (first i : ℕ) (d : Definition) → i < length (drop first known) → list_any (same_definition (slice_index_or (drop first known) i d)) known ≡ true
own_known known first i d l = subst (λ (x : Definition). list_any (same_definition x) known ≡ true) (sym (get_or-drop first known i d)) (known_at known (first + i) d (let n = length-drop first known in omega arith))
