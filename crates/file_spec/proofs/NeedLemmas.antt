-- More items need more numbers, and those of the items before stay.
use Rattle.std.proofs.Common.{◌≡◌, ℕ, ◌≤◌, ◌<◌, max, Bool, true, false, cond, List, [], ◌∷◌, ◌++◌, refl, ap, sym, subst, ◌∙◌, append_assoc, append-nil, arith}
use Rattle.std.specs.Prelude.{◌==◌, nat_lt, fold, flat_map, map, filter}
use Rattle.std.specs.List.{list_any, AllByRecursion}
use Rattle.std.proofs.lemmas.Bool.{eq-eqb, ltb-true, ltb-false}
use Rattle.std.proofs.lemmas.List.Sums.{fold-append}
use Rattle.std.proofs.lemmas.Grind.{flat_map-append}
use Rattle.wire_spec.specs.Content.{Definition}
use Rattle.template_spec.specs.Same.{same_definition}
use Rattle.run_spec.specs.Outcome.{DecodedSet}
use Rattle.run_spec.specs.Work.{Item}
use Rattle.run_spec.specs.Work.Item.{Note, Tick, Data}
use Rattle.file_spec.specs.File.{has_records, definitions_used, with_definition, definitions_of, number_of, needed_by, file_needs}
use Rattle.file_spec.specs.Limit.{within_after, items_within}
use Rattle.file_spec.proofs.MoreLemmas.{number_stays}
use Rattle.file_spec.proofs.PlaceLemmas.{Grows, grows}

-- a definition has a number in its domain
abbrev Found : ℕ → List Item → Definition → Type 0
Found domain items d = list_any (same_definition d) (definitions_of domain items) ≡ true

true_of_all : (xs : List Definition) → AllByRecursion (λ _. Unit {0}) xs
true_of_all [] = tt
true_of_all (x ∷ xs) = (tt, true_of_all xs)

-- all that are used have one
all_found : (domain : ℕ) (items : List Item) → AllByRecursion (Found domain items) (flat_map (definitions_used domain) items)
all_found domain items =
    let g = grows (λ _. Unit {0}) [] (flat_map (definitions_used domain) items) (true_of_all (flat_map (definitions_used domain) items)) in
    subst (λ (l : List Definition). AllByRecursion (λ d. list_any (same_definition d) l ≡ true) (flat_map (definitions_used domain) items)) (sym g.whole) g.found

all_front : (P : Definition → Type 0) (xs ys : List Definition) → AllByRecursion P (xs ++ ys) → AllByRecursion P xs × AllByRecursion P ys
all_front P [] ys p = (tt, p)
all_front P (x ∷ xs) ys p = let r = all_front P xs ys p.1 in ((p.0, r.0), r.1)

numbers_stay : (domain : ℕ) (items more : List Item) (sets : List DecodedSet) → AllByRecursion (Found domain items) (map (λ s. s.definition) sets)
    → map (λ s. number_of domain (items ++ more) s.definition) sets ≡ map (λ s. number_of domain items s.definition) sets
numbers_stay domain items more [] f = refl
numbers_stay domain items more (s ∷ sets) f =
    ap (λ n. n ∷ map (λ x. number_of domain (items ++ more) x.definition) sets) (number_stays domain items more s.definition f.0)
    ∙ ap (λ l. number_of domain items s.definition ∷ l) (numbers_stay domain items more sets f.1)

-- the numbers that some of the items need stay
needed_stay : (items more part : List Item) → ((domain : ℕ) → AllByRecursion (Found domain items) (flat_map (definitions_used domain) part)) → flat_map (needed_by (items ++ more)) part ≡ flat_map (needed_by items) part
needed_stay items more [] f = refl
needed_stay items more (i ∷ part) f =
    ap (λ l. l ++ flat_map (needed_by (items ++ more)) part) (one i (λ domain. (all_front (Found domain items) (definitions_used domain i) (flat_map (definitions_used domain) part) (f domain)).0))
    ∙ ap (λ l. needed_by items i ++ l) (needed_stay items more part (λ domain. (all_front (Found domain items) (definitions_used domain i) (flat_map (definitions_used domain) part) (f domain)).1))
  where
    one : (i : Item) → ((domain : ℕ) → AllByRecursion (Found domain items) (definitions_used domain i)) → needed_by (items ++ more) i ≡ needed_by items i
    one (Data key d export sequence sets) f =
        numbers_stay d items more (filter has_records sets) (subst (λ (b : Bool). AllByRecursion (Found d items) (cond b (map (λ s. s.definition) (filter has_records sets)) [])) (eq-eqb d d refl) (f d))
    one (Note key transport opened) f = refl
    one (Tick input seconds) f = refl

-- What more items need comes beside what the others need.
pub needs_more : (items more : List Item) → file_needs (items ++ more) ≡ fold max (file_needs items) (flat_map (needed_by (items ++ more)) more)
needs_more items more =
    ap (fold max 0) (flat_map-append (needed_by (items ++ more)) items more)
    ∙ (fold-append max 0 (flat_map (needed_by (items ++ more)) items) (flat_map (needed_by (items ++ more)) more)
    ∙ ap (λ l. fold max (fold max 0 l) (flat_map (needed_by (items ++ more)) more)) (needed_stay items more items (λ domain. all_found domain items)))

most_at_least : (m : ℕ) (xs : List ℕ) → m ≤ fold max m xs
most_at_least m [] = omega arith
most_at_least m (x ∷ xs) = let r = most_at_least (max m x) xs in omega (arith, r)

pub needs_grow : (items more : List Item) → file_needs items ≤ file_needs (items ++ more)
needs_grow items more = subst (λ n. file_needs items ≤ n) (sym (needs_more items more)) (most_at_least (file_needs items) (flat_map (needed_by (items ++ more)) more))

-- Behind an item that needs too much nothing more is held.
within_ends : (last : ℕ) (past items more : List Item) → file_needs past ≤ last → last < file_needs (past ++ items) → within_after last past (items ++ more) ≡ within_after last past items
within_ends last past [] more enough over =
    absurd (let wrong : last < file_needs past = subst (λ (l : List Item). last < file_needs l) (append-nil past) over in omega (arith, wrong, enough))
within_ends last past (i ∷ items) more enough over =
    by_test (nat_lt last (file_needs (past ++ i ∷ []))) refl
    (λ most. within_ends last (past ++ i ∷ []) items more most (subst (λ (l : List Item). last < file_needs l) (sym (append_assoc past (i ∷ []) items)) over))
  where
    by_test : (b : Bool) → nat_lt last (file_needs (past ++ i ∷ [])) ≡ b → (file_needs (past ++ i ∷ []) ≤ last → within_after last (past ++ i ∷ []) (items ++ more) ≡ within_after last (past ++ i ∷ []) items)
        → cond b [] (i ∷ within_after last (past ++ i ∷ []) (items ++ more)) ≡ cond b [] (i ∷ within_after last (past ++ i ∷ []) items)
    by_test true is further = refl
    by_test false is further = ap (λ l. i ∷ l) (further (let most = ltb-false last (file_needs (past ++ i ∷ [])) is in omega (arith, most)))

pub within_stays : (last : ℕ) (items more : List Item) → last < file_needs items → items_within last (items ++ more) ≡ items_within last items
within_stays last items more over = within_ends last [] items more (omega arith) over

-- where the last item needs too much, those before it are held
within_front : (last : ℕ) (past items : List Item) → file_needs (past ++ items) ≤ last → within_after last past items ≡ items
within_front last past [] enough = refl
within_front last past (i ∷ items) enough =
    let whole : file_needs ((past ++ i ∷ []) ++ items) ≤ last = subst (λ (l : List Item). file_needs l ≤ last) (sym (append_assoc past (i ∷ []) items)) enough in
    by_test whole (nat_lt last (file_needs (past ++ i ∷ []))) refl (within_front last (past ++ i ∷ []) items whole)
  where
    by_test : file_needs ((past ++ i ∷ []) ++ items) ≤ last → (b : Bool) → nat_lt last (file_needs (past ++ i ∷ [])) ≡ b → within_after last (past ++ i ∷ []) items ≡ items → cond b [] (i ∷ within_after last (past ++ i ∷ []) items) ≡ i ∷ items
    by_test whole true is further = absurd (let over = ltb-true last (file_needs (past ++ i ∷ [])) is in let grow = needs_grow (past ++ i ∷ []) items in omega (arith, over, grow, whole))
    by_test whole false is further = ap (λ l. i ∷ l) further

pub within_all : (last : ℕ) (items : List Item) → file_needs items ≤ last → items_within last items ≡ items
within_all last items enough = within_front last [] items enough

-- Where one item more is the first that needs too much, those before it are held.
before_one : (last : ℕ) (past items : List Item) (i : Item) → file_needs (past ++ items) ≤ last → last < file_needs (past ++ (items ++ i ∷ [])) → within_after last past (items ++ i ∷ []) ≡ items
before_one last past [] i enough over = by_test (nat_lt last (file_needs (past ++ i ∷ []))) refl
  where
    by_test : (b : Bool) → nat_lt last (file_needs (past ++ i ∷ [])) ≡ b → cond b [] (i ∷ []) ≡ []
    by_test true is = refl
    by_test false is = absurd (let most = ltb-false last (file_needs (past ++ i ∷ [])) is in omega (arith, most, over))
before_one last past (x ∷ items) i enough over =
    let whole : file_needs ((past ++ x ∷ []) ++ items) ≤ last = subst (λ (l : List Item). file_needs l ≤ last) (sym (append_assoc past (x ∷ []) items)) enough in
    let above : last < file_needs ((past ++ x ∷ []) ++ (items ++ i ∷ [])) = subst (λ (l : List Item). last < file_needs l) (sym (append_assoc past (x ∷ []) (items ++ i ∷ []))) over in
    by_test whole (nat_lt last (file_needs (past ++ x ∷ []))) refl (before_one last (past ++ x ∷ []) items i whole above)
  where
    by_test : file_needs ((past ++ x ∷ []) ++ items) ≤ last → (b : Bool) → nat_lt last (file_needs (past ++ x ∷ [])) ≡ b → within_after last (past ++ x ∷ []) (items ++ i ∷ []) ≡ items
        → cond b [] (x ∷ within_after last (past ++ x ∷ []) (items ++ i ∷ [])) ≡ x ∷ items
    by_test whole true is further = absurd (let over = ltb-true last (file_needs (past ++ x ∷ [])) is in let grow = needs_grow (past ++ x ∷ []) items in omega (arith, over, grow, whole))
    by_test whole false is further = ap (λ l. x ∷ l) further

pub within_one : (last : ℕ) (items : List Item) (i : Item) → file_needs items ≤ last → last < file_needs (items ++ i ∷ []) → items_within last (items ++ i ∷ []) ≡ items
within_one last items i enough over = before_one last [] items i enough over
