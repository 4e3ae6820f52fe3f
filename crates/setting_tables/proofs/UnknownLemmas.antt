-- The least unknown key is the first of a table's, whose keys ascend.
use Rattle.std.proofs.Common.{◌≡◌, ◌++◌, List, [], ◌∷◌, ℕ, Some, None, Bool, true, false, cond, if◌then◌else◌, not, refl, String, string_bytes, Global, Less}
use Rattle.std.specs.List.{AllByRecursion, filter}
use Rattle.std.specs.List.Sorted.{IsStrictlySortedBy}
use Rattle.std.specs.Map.{keys_of}
use Rattle.std.specs.String.{string_cmp}
use Rattle.std.specs.Ordering.{nat_cmp, is_lt}
use Rattle.std.specs.Cmp.Lexicographic.{slice_cmp}
use Rattle.toml.specs.View.{members_view}
use Rattle.toml.proofs.Views.{Entry}
use Rattle.config_spec.specs.declared.key_row.KeyRow.{KeyRow}
use Rattle.config_spec.specs.declared.fault.ConfFault.TheVariants.{UnknownKey}
use Rattle.config_spec.specs.Faults.{unknown_fault, unknown_words, is_known, least, earlier, words_of}

-- what holds of each text holds of the least
least_holds : (P : List ℕ → Type 0) (w : List ℕ) (ws : List (List ℕ)) → P w → AllByRecursion P ws → P (earlier w (least ws))
least_holds P w [] here more = here
least_holds P w (v ∷ vs) here more = either (is_lt (slice_cmp nat_cmp w (earlier v (least vs)))) (least_holds P v vs more.0 more.1)
  where
    either : (b : Bool) → P (earlier v (least vs)) → P (if b then w else earlier v (least vs))
    either true there = here
    either false there = there

-- a text below each of these is the least with them
below_all : (k : List ℕ) (ws : List (List ℕ)) → AllByRecursion (λ w. slice_cmp nat_cmp k w ≡ Less) ws → earlier k (least ws) ≡ k
below_all k [] below = refl
below_all k (w ∷ ws) below = rw (least_holds (λ v. slice_cmp nat_cmp k v ≡ Less) w ws below.0 below.1)

-- what holds of all holds of those that are kept
kept : (P : List ℕ → Type 0) (test : List ℕ → Bool) (ws : List (List ℕ)) → AllByRecursion P ws → AllByRecursion P (filter test ws)
kept P test [] all = tt
kept P test (w ∷ ws) all = either (test w) (kept P test ws all.1)
  where
    either : (b : Bool) → AllByRecursion P (filter test ws) → AllByRecursion P (cond b (w ∷ filter test ws) (filter test ws))
    either true more = (all.0, more)
    either false more = more

words_below : (k : String Global) (es : List Entry) → AllByRecursion (λ y. string_cmp k y ≡ Less) (keys_of es)
    → AllByRecursion (λ w. slice_cmp nat_cmp (string_bytes k) w ≡ Less) (words_of (members_view es))
words_below k [] below = tt
words_below k (e ∷ es) below = (below.0, words_below k es below.1)

above_least : (rows : List KeyRow) (k : String Global) (es : List Entry) → AllByRecursion (λ y. string_cmp k y ≡ Less) (keys_of es)
    → earlier (string_bytes k) (least (unknown_words rows (members_view es))) ≡ string_bytes k
above_least rows k es above = below_all (string_bytes k) _ (kept _ (λ w. not (is_known rows w)) _ (words_below k es above))

pub sorted_more : (es rest : List Entry) (e : Entry) → es ≡ e ∷ rest → IsStrictlySortedBy string_cmp (keys_of es) → IsStrictlySortedBy string_cmp (keys_of rest)
unfolding IsStrictlySortedBy
sorted_more es rest e is sorted = (rw is at sorted).1

pub unknown_here : (path : List ℕ) (rows : List KeyRow) (es rest : List Entry) (e : Entry) → es ≡ e ∷ rest → IsStrictlySortedBy string_cmp (keys_of es)
    → is_known rows (string_bytes e.0) ≡ false → unknown_fault path rows (members_view es) ≡ Some (UnknownKey (path ++ string_bytes e.0))
unfolding unknown_fault IsStrictlySortedBy
unknown_here path rows es rest e is sorted unknown =
    let there = rw is at sorted in
    rw (is, unknown, above_least rows e.0 rest there.0)

pub known_here : (path : List ℕ) (rows : List KeyRow) (es rest : List Entry) (e : Entry) → es ≡ e ∷ rest
    → is_known rows (string_bytes e.0) ≡ true → unknown_fault path rows (members_view es) ≡ unknown_fault path rows (members_view rest)
unfolding unknown_fault
known_here path rows es rest e is known = rw (is, known)

pub unknown_none : (path : List ℕ) (rows : List KeyRow) (es : List Entry) → es ≡ [] → unknown_fault path rows (members_view es) ≡ None
unfolding unknown_fault
unknown_none path rows es is = rw is
