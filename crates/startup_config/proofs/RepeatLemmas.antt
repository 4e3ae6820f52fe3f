-- Marks that were seen, one more at a time.
use Rattle.std.proofs.Common.{◌≡◌, ◌∙◌, sym, ap, ℕ, ◌+◌, ◌<◌, Bool, true, false, cond, not, ◌||◌, List, [], ◌∷◌, ◌++◌, Bor, length, take, drop, get_or, add-one, refl, drop-cons, Ordering}
use Rattle.std.proofs.lemmas.List.{take_more}
use Rattle.std.proofs.lemmas.List.Folds.{list_any-append}
use Rattle.std.proofs.lemmas.Map.Text.{is_eq-slice_cmp}
use Rattle.std.specs.Str.{bytes_eq}
use Rattle.std.specs.Ordering.{nat_cmp}
use Rattle.std.specs.Cmp.Lexicographic.{slice_cmp}
use Rattle.std.specs.BTreeSet.{BTreeSet, contains, Updates}
use Rattle.config_spec.specs.declared.marked.Marked.{Marked}
use Rattle.config_spec.specs.Repeats.{is_marked, repeat_from}

-- how octets behind references are compared
abbrev pub mark_cmp : Bor (List ℕ) → Bor (List ℕ) → Ordering
mark_cmp x y = slice_cmp nat_cmp x.now y.now

-- the marks in a set are those of these
abbrev pub AreSeen : BTreeSet (Bor (List ℕ)) → List Marked → Type 0
AreSeen seen before = (key : Bor (List ℕ)) → contains mark_cmp seen key ≡ is_marked key.now before

pub repeat_more : (all : List Marked) (place : ℕ) (marked : Marked) → place < length all → marked ≡ get_or all place marked → is_marked marked.mark (take place all) ≡ false
    → repeat_from place all (drop place all) ≡ repeat_from (place + 1) all (drop (place + 1) all)
repeat_more all place marked h is none =
    let here : drop place all ≡ marked ∷ drop (place + 1) all = rw (drop-cons all place marked h, ← is, add-one) in
    rw (here, none)

or-false : (b : Bool) → (b || false) ≡ b
or-false true = refl
or-false false = refl

marked_more : (all : List Marked) (place : ℕ) (marked : Marked) (mark : List ℕ) → place < length all → marked ≡ get_or all place marked
    → is_marked mark (take (place + 1) all) ≡ (is_marked mark (take place all) || bytes_eq marked.mark mark)
marked_more all place marked mark h is =
    let longer : take (place + 1) all ≡ take place all ++ marked ∷ [] = rw (take_more all place marked h, ← is) in
    rw (longer, list_any-append (λ (other : Marked). bytes_eq other.mark mark) (take place all) (marked ∷ [])) (ap (λ b. is_marked mark (take place all) || b) (or-false (bytes_eq marked.mark mark)))

swapped : (a b : Bool) → cond a true b ≡ (b || a)
swapped true true = refl
swapped true false = refl
swapped false true = refl
swapped false false = refl

pub seen_more : (all : List Marked) (place : ℕ) (marked : Marked) (key : Bor (List ℕ)) (old new : BTreeSet (Bor (List ℕ))) → place < length all → marked ≡ get_or all place marked
    → key.now ≡ marked.mark → Updates mark_cmp old new key true → AreSeen old (take place all) → AreSeen new (take (place + 1) all)
seen_more all place marked key old new h is same updates seen other =
    updates.0 other ∙ (rw (is_eq-slice_cmp, same, seen other) (swapped (bytes_eq marked.mark other.now) (is_marked other.now (take place all)))) ∙ sym (marked_more all place marked other.now h is)

not-true : (b added : Bool) → added ≡ not b → added ≡ true → b ≡ false
not-true true added e new = sym new ∙ e
not-true false added e new = refl

-- a mark that is new to the set is none of those before
pub unseen : (before : List Marked) (mark : List ℕ) (key : Bor (List ℕ)) (seen : BTreeSet (Bor (List ℕ))) (added : Bool) → key.now ≡ mark → AreSeen seen before
    → added ≡ not (contains mark_cmp seen key) → added ≡ true → is_marked mark before ≡ false
unseen before mark key seen added same all e new = rw (← same) (sym (all key) ∙ not-true (contains mark_cmp seen key) added e new)
