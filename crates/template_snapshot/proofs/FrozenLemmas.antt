-- The last row that serves, by the front of those up to an ID and an export time.
use Rattle.std.proofs.Common.{◌≡◌, ◌⊎◌, ℕ, zero, suc, ◌<◌, ◌≤◌, inl, inr, Bool, true, false, cond, List, [], ◌∷◌, ◌++◌, take, drop, length, get_or, refl, ap, sym, subst, ◌∙◌, arith}
use Rattle.std.specs.Prelude.{◌==◌, ◌&&◌, ◌||◌, nat_le, if◌then◌else◌, Option, Some, None, option_map, MatchOption}
use Rattle.std.specs.Option.{option_or}
use Rattle.std.specs.List.{AllByRecursion}
use Rattle.std.proofs.lemmas.Bool.{cases_eq, le-ltb, leb-true, eqb-true, eq-eqb, ne_eqb, and_parts, true≢false}
use Rattle.wire_spec.specs.Content.{Definition}
use Rattle.template_snapshot.specs.Frozen.{frozen_at, last_serving, serves, IsGreatest, NoneServes}
use Rattle.template_snapshot.specs.Entry.{is_up_to, Entry, AreInOrder, IsFront, Precedes}
use Rattle.template_snapshot.proofs.FrontLemmas.{up_to_says}

-- the last one of which a test holds
abbrev pub last_such : {X : Type 0} → (X → Bool) → List X → Option X
last_such p [] = None
last_such p (x ∷ xs) = option_or (last_such p xs) (if p x then Some x else None)

pub none_such : {X : Type 0} (p : X → Bool) (xs : List X) → AllByRecursion (λ x. p x ≡ false) xs → last_such p xs ≡ None
none_such p [] all = refl
none_such p (x ∷ xs) all = ap (λ o. option_or o (if p x then Some x else None)) (none_such p xs all.1) ∙ ap (λ b. cond b (Some x) None) all.0

such_at : {X : Type 0} (p : X → Bool) (xs : List X) (j : ℕ) (d : X) → j < length xs → AllByRecursion (λ x. p x ≡ true) (take (suc j) xs) → AllByRecursion (λ x. p x ≡ false) (drop (suc j) xs) → last_such p xs ≡ Some (get_or xs j d)
such_at p [] j d lt front back = absurd (let z : j < 0 = lt in omega (arith, z))
such_at p (x ∷ xs) zero d lt front back = ap (λ o. option_or o (if p x then Some x else None)) (none_such p xs back) ∙ ap (λ b. cond b (Some x) None) front.0
such_at p (x ∷ xs) (suc j) d lt front back = ap (λ o. option_or o (if p x then Some x else None)) (such_at p xs j d (omega (arith, lt)) front.1 back)

abbrev pub if_of : ℕ → Option Entry → Option Entry
if_of id None = None
if_of id (Some r) = if r.id == id then Some r else None

such_all : {X : Type 0} (p : X → Bool) (P : X → Type 0) (xs : List X) (found : Option X) → last_such p xs ≡ found → AllByRecursion P xs → MatchOption found (Unit {0}) (λ x. P x × (p x ≡ true))
such_all p P [] None is all = tt
such_all p P [] (Some x) is all = absurd cc
such_all {X} p P (x ∷ xs) found is all = by (last_such p xs) (such_all p P xs (last_such p xs) refl all.1) (p x) refl found is
  where
    by : (rest : Option X) → MatchOption rest (Unit {0}) (λ y. P y × (p y ≡ true)) → (b : Bool) → p x ≡ b → (found : Option X) → option_or rest (if b then Some x else None) ≡ found → MatchOption found (Unit {0}) (λ y. P y × (p y ≡ true))
    by (Some y) q b e found is = subst (λ (o : Option X). MatchOption o (Unit {0}) (λ y. P y × (p y ≡ true))) is q
    by None q true e found is = subst (λ (o : Option X). MatchOption o (Unit {0}) (λ y. P y × (p y ≡ true))) is (all.0, e)
    by None q false e found is = subst (λ (o : Option X). MatchOption o (Unit {0}) (λ y. P y × (p y ≡ true))) is tt

-- the last one that serves is the last one up to there, if it is of the ID
pub serving : (e id : ℕ) (rows : List Entry) → AreInOrder rows → last_serving e id rows ≡ if_of id (last_such (is_up_to e id) rows)
serving e id [] a = refl
serving e id (r ∷ rows) a = ap (λ o. option_or o (if serves e id r then Some r else None)) (serving e id rows a.1) ∙ by (last_such (is_up_to e id) rows) (such_all (is_up_to e id) (Precedes r) rows (last_such (is_up_to e id) rows) refl a.0)
  where
    if_same : (s : Entry) → s.id ≡ id → if_of id (Some s) ≡ Some s
    if_same s same = ap (λ b. cond b (Some s) None) (eq-eqb s.id id same)

    if_other : (s : Entry) → (s.id ≡ id → ⊥) → if_of id (Some s) ≡ None
    if_other s ne = ap (λ b. cond b (Some s) None) (ne_eqb s.id id ne)

    out : (r.id ≡ id → ⊥) → (if serves e id r then Some r else None) ≡ None
    out ne = ap (λ b. cond (b && nat_le r.t e) (Some r) None) (ne_eqb r.id id ne)

    earlier : (s : Entry) → Precedes r s → (s.id < id) ⊎ ((s.id ≡ id) × (s.t ≤ e)) → (s.id ≡ id → ⊥) → r.id ≡ id → ⊥
    earlier s (inl lt) (inl q) ne same = omega (arith, lt, q, same)
    earlier s (inr p) (inl q) ne same = let z = p.0 in omega (arith, z, q, same)
    earlier s p (inr q) ne same = ne q.0

    by : (found : Option Entry) → MatchOption found (Unit {0}) (λ s. Precedes r s × (is_up_to e id s ≡ true)) → option_or (if_of id found) (if serves e id r then Some r else None) ≡ if_of id (option_or found (if is_up_to e id r then Some r else None))
    by (Some s) q = elim (cases_eq s.id id) [
      | inl same ↦ ap (λ o. option_or o (if serves e id r then Some r else None)) (if_same s same) ∙ sym (if_same s same)
      | inr ne ↦ ap (λ o. option_or o (if serves e id r then Some r else None)) (if_other s ne) ∙ (out (earlier s q.0 (up_to_says e id s q.1) ne) ∙ sym (if_other s ne))
    ]
    by None q = elim (cases_eq r.id id) [
      | inl same ↦ ap (λ b. cond (b && nat_le r.t e) (Some r) None) (eq-eqb r.id id same) ∙ sym (here same (nat_le r.t e) refl)
      | inr ne ↦ out ne ∙ sym (apart ne (is_up_to e id r))
    ]
      where
        here : r.id ≡ id → (b : Bool) → nat_le r.t e ≡ b → if_of id (if is_up_to e id r then Some r else None) ≡ cond b (Some r) None
        here same b is = ap (λ c. if_of id (cond (c || (r.id == id && nat_le r.t e)) (Some r) None)) (le-ltb r.id id (omega (arith, same)))
            ∙ (ap (λ c. if_of id (cond (c && nat_le r.t e) (Some r) None)) (eq-eqb r.id id same)
            ∙ (ap (λ c. if_of id (cond c (Some r) None)) is ∙ inner b))
          where
            inner : (b : Bool) → if_of id (cond b (Some r) None) ≡ cond b (Some r) None
            inner true = if_same r same
            inner false = refl

        apart : (r.id ≡ id → ⊥) → (b : Bool) → if_of id (if b then Some r else None) ≡ None
        apart ne true = if_other r ne
        apart ne false = refl

abbrev pub definition_in : Option Entry → Option Definition
definition_in found = option_map (λ r. r.definition) found

pub frozen_none : (e id : ℕ) (rows : List Entry) → AreInOrder rows → IsFront (is_up_to e id) rows 0 → frozen_at rows e id ≡ None
frozen_none e id rows a c = ap definition_in (serving e id rows a ∙ ap (if_of id) (none_such (is_up_to e id) rows c.back))

pub frozen_front : (e id : ℕ) (rows : List Entry) (j : ℕ) (d : Entry) → AreInOrder rows → IsFront (is_up_to e id) rows (suc j) → frozen_at rows e id ≡ definition_in (if_of id (Some (get_or rows j d)))
frozen_front e id rows j d a c = ap definition_in (serving e id rows a ∙ ap (if_of id) (such_at (is_up_to e id) rows j d (let w = c.within in omega (arith, w)) c.front c.back))

-- ---- in words of all rows

all_in : {X : Type 0} (P : X → Type 0) (before : List X) (x : X) (after : List X) → AllByRecursion P (before ++ x ∷ after) → P x
all_in P [] x after all = all.0
all_in P (y ∷ before) x after all = all_in P before x after all.1

-- a row serves, and none that serves is of a greater export time
record IsServing (e id : ℕ) (rows : List Entry) (s : Entry) : Type 0 where
  before : List Entry
  after : List Entry
  whole : rows ≡ before ++ s ∷ after
  is : serves e id s ≡ true
  greatest : AllByRecursion (λ r. serves e id r ≡ true → r.t ≤ s.t) rows

serves_says : (e id : ℕ) (r : Entry) → serves e id r ≡ true → (r.id ≡ id) × (r.t ≤ e)
serves_says e id r is = let p = and_parts (r.id == id) (nat_le r.t e) is in (eqb-true r.id id p.0, leb-true r.t e p.1)

one_serving : (e id : ℕ) (rows : List Entry) → AreInOrder rows → MatchOption (last_serving e id rows) (NoneServes e id rows) (IsServing e id rows)
one_serving e id [] a = tt
one_serving e id (r ∷ rows) a = by (last_serving e id rows) (one_serving e id rows a.1) (serves e id r) refl
  where
    later : (s : Entry) → Precedes r s → serves e id s ≡ true → serves e id r ≡ true → r.t ≤ s.t
    later s (inl lt) is of = let p = (serves_says e id s is).0 in let q = (serves_says e id r of).0 in absurd (omega (arith, lt, p, q))
    later s (inr p) is of = let lt = p.1 in omega (arith, lt)

    unless : (rest : List Entry) → NoneServes e id rest → AllByRecursion (λ x. serves e id x ≡ true → x.t ≤ r.t) rest
    unless [] none = tt
    unless (x ∷ rest) none = (λ is. absurd (true≢false (sym is ∙ none.0)), unless rest none.1)

    by : (found : Option Entry) → MatchOption found (NoneServes e id rows) (IsServing e id rows) → (b : Bool) → serves e id r ≡ b
        → MatchOption (option_or found (if b then Some r else None)) (NoneServes e id (r ∷ rows)) (IsServing e id (r ∷ rows))
    by (Some s) q b is = record {
      before = r ∷ q.before;
      after = q.after;
      whole = ap (λ rest. r ∷ rest) q.whole;
      is = q.is;
      greatest = (later s (all_in (Precedes r) q.before s q.after (subst (AllByRecursion (Precedes r)) q.whole a.0)) q.is, q.greatest);
    }
    by None none true is = record {
      before = [];
      after = rows;
      whole = refl;
      is = is;
      greatest = (λ of. omega arith, unless rows none);
    }
    by None none false is = (is, none)

pub greatest_of : (e id : ℕ) (rows : List Entry) → AreInOrder rows → MatchOption (frozen_at rows e id) (NoneServes e id rows) (IsGreatest e id rows)
greatest_of e id rows a = by (last_serving e id rows) (one_serving e id rows a)
  where
    by : (found : Option Entry) → MatchOption found (NoneServes e id rows) (IsServing e id rows) → MatchOption (definition_in found) (NoneServes e id rows) (IsGreatest e id rows)
    by None none = none
    by (Some s) q = record {
      before = q.before;
      row = s;
      after = q.after;
      whole = q.whole;
      of_id = (serves_says e id s q.is).0;
      up_to = (serves_says e id s q.is).1;
      has = refl;
      greatest = q.greatest;
    }
