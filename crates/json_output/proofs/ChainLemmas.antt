-- The fields of an element, one after another.
use Rattle.std.proofs.Common.{◌≡◌, ℕ, zero, suc, ◌+◌, ◌-◌, ◌<◌, ◌≤◌, Bool, true, false, not, ◌&&◌, ◌||◌, cond, List, [], ◌∷◌, ◌++◌, Option, Some, None, inl, inr, length, take, drop, get_or, refl, ap, ap₂, sym, subst, ◌∙◌, arith, append_assoc, append-nil, drop-cons, length-drop, slice_set, get_or-set_other, get_or-set_same}
use Rattle.std.specs.Prelude.{zip, nat_eq, ◌==◌, ◌≢◌, if◌then◌else◌, is_none}
use Rattle.std.specs.List.{list_any, flat_map, position_from}
use Rattle.std.specs.Map.{lookup}
use Rattle.std.proofs.lemmas.Bool.{eqb-true, eqb-false, eq-eqb, cases_Bool, and_parts, both_ways}
use Rattle.std.proofs.lemmas.List.{drop-drop}
use Rattle.wire_spec.specs.declared.field.FieldSpec.{FieldSpec}
use Rattle.text_spec.specs.Fields.{Pair, pair_of, is_of, values_at}
use Rattle.prepared_lines.specs.Line.{Line, line_text}
use Rattle.prepared_lines.specs.Grows.{GrowsBy}
use Rattle.json_output.specs.Chain.{first_from, is_key}
use Rattle.text_spec.proofs.DifferentLemmas.{is_pair-refl}
use Rattle.json_output.proofs.ElementLemmas.{Values, front_none, none_left, many_left, other_text}

-- a place that was found
pub record Found {X : Type 0} (p : X → Bool) (from : ℕ) (xs : List X) (d : X) (at : ℕ) : Type 0 where
  pub steps : ℕ
  pub place : at ≡ from + steps
  pub within : steps < length xs
  pub passes : p (get_or xs steps d) ≡ true
  pub before : list_any p (take steps xs) ≡ false

found_if : {X : Type 0} (p : X → Bool) (from : ℕ) (x : X) (xs : List X) (d : X) (at : ℕ) (b : Bool) → p x ≡ b → cond b (Some from) (position_from p (from + 1) xs) ≡ Some at
    → (position_from p (from + 1) xs ≡ Some at → Found p (from + 1) xs d at) → Found p from (x ∷ xs) d at
found_if p from x xs d at true is e later = let same : from ≡ at = cc in record { steps = 0; place = omega arith; within = omega arith; passes = is; before = refl }
found_if p from x xs d at false is e later =
    let f = later e in
    let place = f.place in
    let within = f.within in
    record { steps = suc f.steps; place = omega arith; within = omega arith; passes = f.passes; before = ap₂ (λ a b. a || b) is f.before }

pub found : {X : Type 0} (p : X → Bool) (from : ℕ) (xs : List X) (d : X) (at : ℕ) → position_from p from xs ≡ Some at → Found p from xs d at
found p from [] d at e = absurd cc
found p from (x ∷ xs) d at e = found_if p from x xs d at (p x) refl e (found p (from + 1) xs d at)

none_if : {X : Type 0} (p : X → Bool) (from : ℕ) (x : X) (xs : List X) (b : Bool) → p x ≡ b → cond b (Some from) (position_from p (from + 1) xs) ≡ None
    → (position_from p (from + 1) xs ≡ None → list_any p xs ≡ false) → list_any p (x ∷ xs) ≡ false
none_if p from x xs true is e later = absurd cc
none_if p from x xs false is e later = ap₂ (λ a b. a || b) is (later e)

pub not_found : {X : Type 0} (p : X → Bool) (from : ℕ) (xs : List X) → position_from p from xs ≡ None → list_any p xs ≡ false
not_found p from [] e = refl
not_found p from (x ∷ xs) e = none_if p from x xs (p x) refl e (not_found p (from + 1) xs)

any_if : {X : Type 0} (p : X → Bool) (from : ℕ) (x : X) (xs : List X) (at : ℕ) (b : Bool) → p x ≡ b → cond b (Some from) (position_from p (from + 1) xs) ≡ Some at
    → (position_from p (from + 1) xs ≡ Some at → list_any p xs ≡ true) → list_any p (x ∷ xs) ≡ true
any_if p from x xs at true is e later = ap (λ a. a || list_any p xs) is
any_if p from x xs at false is e later = ap₂ (λ a b. a || b) is (later e)

some_found : {X : Type 0} (p : X → Bool) (from : ℕ) (xs : List X) (at : ℕ) → position_from p from xs ≡ Some at → list_any p xs ≡ true
some_found p from [] at e = absurd cc
some_found p from (x ∷ xs) at e = any_if p from x xs at (p x) refl e (some_found p (from + 1) xs at)

-- whether a place is the one that is looked for
abbrev pub is_place : Option ℕ → ℕ → Bool
is_place None at = false
is_place (Some first) at = first == at

first_if : {X : Type 0} (p : X → Bool) (from : ℕ) (x : X) (xs : List X) (at : ℕ) (b : Bool) → p x ≡ b
    → is_place (position_from p (from + 1) xs) (from + 1 + at) ≡ not (list_any p (take at xs))
    → is_place (cond b (Some from) (position_from p (from + 1) xs)) (from + suc at) ≡ not (b || list_any p (take at xs))
first_if p from x xs at true is later = elim (cases_Bool (nat_eq from (from + suc at))) [ inl e ↦ (let same = eqb-true from (from + suc at) e in absurd (omega arith)) | inr e ↦ e ]
first_if p from x xs at false is later = ap (is_place (position_from p (from + 1) xs)) (let e : from + suc at ≡ from + 1 + at = omega arith in e) ∙ later

-- the place that passes is the first one, or some before it pass
pub first_is : {X : Type 0} (p : X → Bool) (from : ℕ) (xs : List X) (at : ℕ) (d : X) → at < length xs → p (get_or xs at d) ≡ true → is_place (position_from p from xs) (from + at) ≡ not (list_any p (take at xs))
first_is p from [] at d lt is = absurd (omega arith)
first_is p from (x ∷ xs) zero d lt is = ap (λ b. is_place (cond b (Some from) (position_from p (from + 1) xs)) (from + 0)) is ∙ eq-eqb from (from + 0) (omega arith)
first_is p from (x ∷ xs) (suc at) d lt is =
    first_if p from x xs at (p x) refl (first_is p (from + 1) xs at d (omega arith) is)

-- what a test says of others
pub none_where : (any test : Bool) → test ≡ not any → test ≡ true → any ≡ false
none_where true test e h = absurd (both_ways test e h)
none_where false test e h = refl

pub some_where : (any test : Bool) → test ≡ not any → test ≡ false → any ≡ true
some_where true test e h = refl
some_where false test e h = absurd (both_ways test h e)

pub last_is : (pair : Pair) (fields : List FieldSpec) (from : ℕ) (next : Option ℕ) → next ≡ first_from pair fields from → is_none next ≡ not (list_any (is_of pair) (drop from fields))
last_is pair fields from None e = sym (ap not (not_found (is_of pair) from (drop from fields) (sym e)))
last_is pair fields from (Some at) e = sym (ap not (some_found (is_of pair) from (drop from fields) at (sym e)))

-- A field more in front: it is the first of its element, and of no other.
eq_turns : (a b : ℕ) → nat_eq a b ≡ nat_eq b a
eq_turns a b = elim (cases_Bool (nat_eq a b)) [
  | inl e ↦ e ∙ sym (eq-eqb b a (sym (eqb-true a b e)))
  | inr e ↦ elim (cases_Bool (nat_eq b a)) [
    | inl f ↦ absurd (both_ways (nat_eq a b) e (eq-eqb a b (sym (eqb-true b a f))))
    | inr f ↦ e ∙ sym f
  ]
]

pub first_more : (pair : Pair) (fields : List FieldSpec) (at : ℕ) (d : FieldSpec) → at < length fields
    → first_from pair fields at ≡ cond (nat_eq (get_or fields at d).pen pair.pen && nat_eq (get_or fields at d).id pair.id) (Some at) (first_from pair fields (at + 1))
first_more pair fields at d lt =
    let f : FieldSpec = get_or fields at d in
    let whole : drop at fields ≡ f ∷ drop (at + 1) fields = drop-cons fields at d lt ∙ ap (λ n. f ∷ drop n fields) (let e : suc at ≡ at + 1 = omega arith in e) in
    ap (position_from (is_of pair) at) whole
    ∙ ap₂ (λ a b. cond (a && b) (Some at) (first_from pair fields (at + 1))) (eq_turns pair.pen f.pen) (eq_turns pair.id f.id)

-- the place that was kept tells whether a field is the first of its element
pub first_tells : (fields : List FieldSpec) (at : ℕ) (field : FieldSpec) (kept : Option ℕ) → at < length fields → field ≡ get_or fields at field → kept ≡ first_from (pair_of field) fields 0
    → is_place kept at ≡ not (list_any (is_of (pair_of field)) (take at fields))
first_tells fields at field kept lt is e =
    ap₂ is_place e (let q : at ≡ 0 + at = omega arith in q)
    ∙ first_is (is_of (pair_of field)) 0 fields at field lt (ap (is_of (pair_of field)) (sym is) ∙ is_pair-refl (pair_of field))

pub first_step : (fields : List FieldSpec) (at here : ℕ) (d : FieldSpec) (old new : List ((ℕ × ℕ) × ℕ)) → here + 1 ≡ at → here < length fields
    → ((pair : Pair) → lookup (is_key pair) old ≡ first_from pair fields at)
    → ((pair : Pair) → lookup (is_key pair) new ≡ cond (nat_eq (get_or fields here d).pen pair.pen && nat_eq (get_or fields here d).id pair.id) (Some here) (lookup (is_key pair) old))
    → (pair : Pair) → lookup (is_key pair) new ≡ first_from pair fields here
first_step fields at here d old new next lt was updates pair =
    updates pair
    ∙ ap (λ o. cond (nat_eq (get_or fields here d).pen pair.pen && nat_eq (get_or fields here d).id pair.id) (Some here) o) (was pair ∙ ap (first_from pair fields) (sym next))
    ∙ sym (first_more pair fields here d lt)

pub same_item : {X : Type 0} (xs : List X) (i : ℕ) (d e : X) → i < length xs → get_or xs i d ≡ get_or xs i e
same_item [] i d e lt = absurd (omega arith)
same_item (x ∷ xs) zero d e lt = refl
same_item (x ∷ xs) (suc i) d e lt = same_item xs i d e (omega arith)

pub next_step : (fields : List FieldSpec) (at here : ℕ) (d : FieldSpec) (nexts : List (Option ℕ)) (later : Option ℕ) → here + 1 ≡ at → here < length fields → length nexts ≡ length fields
    → later ≡ first_from (pair_of (get_or fields here d)) fields at
    → ((i : ℕ) (e : FieldSpec) → at ≤ i → i < length fields → get_or nexts i None ≡ first_from (pair_of (get_or fields i e)) fields (i + 1))
    → (i : ℕ) (e : FieldSpec) → here ≤ i → i < length fields → get_or (slice_set nexts here later) i None ≡ first_from (pair_of (get_or fields i e)) fields (i + 1)
next_step fields at here d nexts later next lt long is was i e le within = elim (cases_Bool (nat_eq i here)) [
  | inl same ↦ (
      let place : i ≡ here = eqb-true i here same in
      let inside : here < length nexts = omega arith in
      ap (λ n. get_or (slice_set nexts here later) n None) place ∙ rw get_or-set_same (is ∙ ap₂ (λ (f : FieldSpec) n. first_from (pair_of f) fields n) (same_item fields here d e lt ∙ ap (λ n. get_or fields n e) (sym place)) (let q : at ≡ i + 1 = omega arith in q)))
  | inr other ↦ (
      let ne : i ≢ here = eqb-false i here other in
      let behind : at ≤ i = omega arith in
      rw get_or-set_other (was i e behind within))
]

-- What is left of the values of an element from its next field on.
pub left : (List ℕ → List ℕ) → Pair → List FieldSpec → Option ℕ → Values → List ℕ
left g pair fields None values = []
left g pair fields (Some at) values = flat_map g (values_at pair (zip (drop at fields) (drop at values)))

drop_many : (values : Values) (fields : List FieldSpec) (from : ℕ) → length values ≡ length fields → length (drop from values) ≡ length (drop from fields)
drop_many values fields from many = many_left values fields from many

pub left_from : (g : List ℕ → List ℕ) (pair : Pair) (fields : List FieldSpec) (values : Values) (from : ℕ) (next : Option ℕ) → first_from pair fields from ≡ next → length values ≡ length fields
    → flat_map g (values_at pair (zip (drop from fields) (drop from values))) ≡ left g pair fields next values
unfolding left
left_from g pair fields values from None e many = ap (flat_map g) (none_left pair (drop from fields) (drop from values) (not_found (is_of pair) from (drop from fields) e))
left_from g pair fields values from (Some at) e many =
    let f = found (is_of pair) from (drop from fields) (record { pen = 0; id = 0; len = 0 }) at e in
    let within = f.within in
    let place : f.steps + from ≡ at = (let p = f.place in omega arith) in
    ap (flat_map g)
    (front_none pair f.steps (drop from fields) (drop from values) (omega arith) (drop_many values fields from many) f.before
    ∙ ap₂ (λ (a : List FieldSpec) (b : Values). values_at pair (zip a b)) (drop-drop f.steps from fields ∙ ap (λ n. drop n fields) (let p = f.place in let q : from + f.steps ≡ at = omega arith in q))
    (drop-drop f.steps from values ∙ ap (λ n. drop n values) (let p = f.place in let q : from + f.steps ≡ at = omega arith in q)))

-- the next field is one of the element
abbrev pub IsNext : Pair → List FieldSpec → Option ℕ → Type 0
IsNext pair fields next = (at : ℕ) (d : FieldSpec) → next ≡ Some at → (at < length fields) × (is_of pair (get_or fields at d) ≡ true)

get_or-drop : {X : Type 0} (xs : List X) (from i : ℕ) (d : X) → get_or (drop from xs) i d ≡ get_or xs (from + i) d
get_or-drop xs zero i d = ap (λ n. get_or xs n d) (let e : i ≡ 0 + i = omega arith in e)
get_or-drop [] (suc from) i d = refl
get_or-drop (x ∷ xs) (suc from) i d = get_or-drop xs from i d ∙ ap (λ n. get_or (x ∷ xs) n d) (let e : suc (from + i) ≡ suc from + i = omega arith in e)

pub is_next : (pair : Pair) (fields : List FieldSpec) (from : ℕ) → IsNext pair fields (first_from pair fields from)
is_next pair fields from at d e =
    let f = found (is_of pair) from (drop from fields) d at e in
    let place = f.place in
    let within = f.within in
    let long = length-drop from fields in
    (omega arith, ap (λ n. is_of pair (get_or fields n d)) place ∙ ap (is_of pair) (sym (get_or-drop fields from f.steps d)) ∙ f.passes)

pub none_from : (next : Option ℕ) → ((at : ℕ) → next ≡ Some at → ⊥) → next ≡ None
none_from None h = refl
none_from (Some at) h = absurd (h at refl)

-- how many fields are left
abbrev pub fields_left : ℕ → Option ℕ → ℕ
fields_left count None = 0
fields_left count (Some at) = 1 + (count - at)

pub less_left : (pair : Pair) (fields : List FieldSpec) (at : ℕ) (later : Option ℕ) → at < length fields → later ≡ first_from pair fields (at + 1) → fields_left (length fields) later < fields_left (length fields) (Some at)
less_left pair fields at None lt e = omega arith
less_left pair fields at (Some next) lt e =
    let f = found (is_of pair) (at + 1) (drop (at + 1) fields) (record { pen = 0; id = 0; len = 0 }) next (sym e) in
    let place = f.place in
    omega arith

-- a field of the element has its pair
pub same_pair : (pair : Pair) (f : FieldSpec) → is_of pair f ≡ true → pair ≡ pair_of f
same_pair pair f is = let parts = and_parts _ _ is in ap₂ (λ (a b : ℕ). (let p : Pair = record { pen = a; id = b } in p)) (eqb-true _ _ parts.0) (eqb-true _ _ parts.1)

-- What the walk along the chain of an element keeps: what was put so far and what is left are all.
pub record HaveChain (g : List ℕ → List ℕ) (pair : Pair) (fields : List FieldSpec) (first : ℕ) (next : Option ℕ) (start now : Line) : Type 0 where
  pub same : now.fields ≡ start.fields
  pub grown : (values : Values) → length values ≡ length fields
      → line_text now values ++ left g pair fields next values ≡ line_text start values ++ flat_map g (values_at pair (zip (drop (first + 1) fields) (drop (first + 1) values)))
  pub next_is : IsNext pair fields next

pub chain_none : (g : List ℕ → List ℕ) (pair : Pair) (fields : List FieldSpec) (first : ℕ) (next : Option ℕ) (start : Line) → next ≡ first_from pair fields (first + 1) → HaveChain g pair fields first next start start
chain_none g pair fields first next start e = record {
  same = refl;
  grown = λ values many. ap (λ l. line_text start values ++ l) (sym (left_from g pair fields values (first + 1) next (sym e) many));
  next_is = subst (λ (o : Option ℕ). IsNext pair fields o) (sym e) (is_next pair fields (first + 1));
}

pub chain_more : (g : List ℕ → List ℕ) (pair : Pair) (fields : List FieldSpec) (first at : ℕ) (next later : Option ℕ) (start now new : Line) (d : FieldSpec) → start.fields ≡ fields → next ≡ Some at
    → HaveChain g pair fields first next start now → GrowsBy now new (λ values. g (get_or values at [])) → later ≡ first_from (pair_of (get_or fields at d)) fields (at + 1) → HaveChain g pair fields first later start new
unfolding left
chain_more g pair fields first at next later start now new d are is h grows e =
    let own = h.next_is at d is in
    let from : later ≡ first_from pair fields (at + 1) = e ∙ ap (λ (p : Pair). first_from p fields (at + 1)) (sym (same_pair pair (get_or fields at d) own.1)) in
    record {
      same = grows.fields ∙ h.same;
      grown = λ values many. (
          let here : List ℕ = g (get_or values at []) in
          let rest : List ℕ = flat_map g (values_at pair (zip (drop (at + 1) fields) (drop (at + 1) values))) in
          let step : flat_map g (values_at pair (zip (drop at fields) (drop at values))) ≡ here ++ rest =
          other_text g pair fields values at d own.0 many ∙ ap (λ b. (if b then here else []) ++ rest) own.1 in
          ap₂ (λ (a b : List ℕ). a ++ b) (grows.grown values (many ∙ ap length (sym (h.same ∙ are)))) (sym (left_from g pair fields values (at + 1) later (sym from) many))
          ∙ append_assoc (line_text now values) here rest
          ∙ ap (λ l. line_text now values ++ l) (sym step)
          ∙ ap (λ o. line_text now values ++ left g pair fields o values) (sym is)
          ∙ h.grown values many);
      next_is = subst (λ (o : Option ℕ). IsNext pair fields o) (sym from) (is_next pair fields (at + 1));
    }

pub chain_all : (g : List ℕ → List ℕ) (pair : Pair) (fields : List FieldSpec) (first : ℕ) (next : Option ℕ) (start now : Line) → next ≡ None → start.fields ≡ fields → HaveChain g pair fields first next start now
    → GrowsBy start now (λ values. flat_map g (values_at pair (zip (drop (first + 1) fields) (drop (first + 1) values))))
unfolding left
chain_all g pair fields first next start now none are h = record {
  fields = h.same;
  grown = λ values many. (
      sym (append-nil (line_text now values)) ∙ ap (λ o. line_text now values ++ left g pair fields o values) (sym none) ∙ h.grown values (many ∙ ap length are));
}
