-- The items of entries are those of all inputs, taken in their order.
use Rattle.std.proofs.Common.{◌≡◌, ℕ, ◌+◌, ◌≤◌, Bool, true, false, cond, List, [], ◌∷◌, ◌++◌, Some, length, refl, ap, sym, subst, ◌∙◌, arith, append_assoc}
use Rattle.std.specs.Prelude.{◌==◌, slice_get, filter}
use Rattle.std.specs.List.{cons_option}
use Rattle.std.proofs.lemmas.Bool.{eqb-true, eq-eqb}
use Rattle.std.proofs.lemmas.List.{map-append}
use Rattle.run_spec.specs.Work.{Item}
use Rattle.run_spec.specs.Merge.{list_at, times, merged_after, merged}
use Rattle.run_spec.proofs.MergeLemmas.{times-cons}
use Rattle.logged_outputs.specs.Entries.{Entry, items_in, order_of, own}
use Rattle.logged_outputs.specs.Entries.{AreKnown}
use Rattle.logged_outputs.proofs.EntryLemmas.{own_both}

-- a number stands in the order as often as its input has items
pub times_own : (k : ℕ) (entries : List Entry) → times k (order_of entries) ≡ length (own k entries)
times_own k [] = refl
times_own k (x ∷ entries) = times-cons k x.input (order_of entries) ∙ by_test (x.input == k) (times_own k entries)
  where
    by_test : (b : Bool) → times k (order_of entries) ≡ length (own k entries) → cond b 1 0 + times k (order_of entries) ≡ length (items_in (cond b (x ∷ filter (λ (y : Entry). y.input == k) entries) (filter (λ (y : Entry). y.input == k) entries)))
    by_test true r = omega arith
    by_test false r = omega arith

-- and never where it is unknown
pub unknown_none : (count k : ℕ) (entries : List Entry) → AreKnown count entries → count ≤ k → own k entries ≡ []
unknown_none count k [] o le = refl
unknown_none count k (x ∷ entries) o le = by_test (x.input == k) refl (unknown_none count k entries o.1 le)
  where
    by_test : (b : Bool) → (x.input == k) ≡ b → own k entries ≡ [] → items_in (cond b (x ∷ filter (λ (y : Entry). y.input == k) entries) (filter (λ (y : Entry). y.input == k) entries)) ≡ []
    by_test true e r = absurd (let same = eqb-true x.input k e in let lt = o.0 in omega arith)
    by_test false e r = r

item_at : {X : Type 0} (xs : List X) (y : X) (zs : List X) → slice_get (xs ++ y ∷ zs) (length xs) ≡ Some y
item_at [] y zs = refl
item_at (x ∷ xs) y zs = item_at xs y zs

own_first : (x : Entry) (entries : List Entry) → own x.input (x ∷ entries) ≡ x.item ∷ own x.input entries
own_first x entries = ap (λ b. items_in (cond b (x ∷ filter (λ (y : Entry). y.input == x.input) entries) (filter (λ (y : Entry). y.input == x.input) entries))) (eq-eqb x.input x.input refl)

-- the items of each input are the first of its list
abbrev pub Begins : List (List Item) → List Entry → Type 0
Begins lists entries = (k : ℕ) → (rest : List Item) × (list_at lists k ≡ own k entries ++ rest)

merge_after : (lists : List (List Item)) (before after : List Entry) → Begins lists (before ++ after) → merged_after (order_of before) (order_of after) lists ≡ items_in after
merge_after lists before [] b = refl
merge_after lists before (x ∷ after) b =
    let k = x.input in
    let f = b k in
    let mine : own k (before ++ x ∷ after) ≡ own k before ++ (x.item ∷ own k after) = own_both k before (x ∷ after) ∙ ap (λ l. own k before ++ l) (own_first x after) in
    let list : list_at lists k ≡ own k before ++ (x.item ∷ (own k after ++ f.0)) = f.1 ∙ (ap (λ l. l ++ f.0) mine ∙ append_assoc (own k before) (x.item ∷ own k after) f.0) in
    let here : slice_get (list_at lists k) (times k (order_of before)) ≡ Some x.item =
    (λ i. slice_get (list i) (times_own k before i)) ∙ item_at (own k before) x.item (own k after ++ f.0) in
    let next : merged_after (order_of (before ++ x ∷ [])) (order_of after) lists ≡ items_in after = merge_after lists (before ++ x ∷ []) after (subst (Begins lists) (sym (append_assoc before (x ∷ []) after)) b) in
    let step : order_of (before ++ x ∷ []) ≡ order_of before ++ k ∷ [] = map-append (λ (y : Entry). y.input) before (x ∷ []) in
    ap (λ o. cons_option o (merged_after (order_of before ++ k ∷ []) (order_of after) lists)) here ∙ ap (λ l. x.item ∷ l) (ap (λ o. merged_after o (order_of after) lists) (sym step) ∙ next)

pub merge : (lists : List (List Item)) (entries : List Entry) → Begins lists entries → merged (order_of entries) lists ≡ items_in entries
merge lists entries b = merge_after lists [] entries b

-- the first of entries have the first items of each input
pub front_begins : (lists : List (List Item)) (front rest : List Entry) → Begins lists (front ++ rest) → Begins lists front
front_begins lists front rest b = λ k. (let f = b k in (own k rest ++ f.0, f.1 ∙ (ap (λ l. l ++ f.0) (own_both k front rest) ∙ append_assoc (own k front) (own k rest) f.0)))
