-- What is due, when pairs come and go, and when versions do.
use Rattle.std.proofs.Common.{◌≡◌, ◌⊎◌, ℕ, zero, suc, ◌+◌, ◌<◌, ◌≤◌, inl, inr, Bool, true, false, cond, List, [], ◌∷◌, ◌++◌, take, drop, set, length, refl, ap, sym, subst, ◌∙◌, arith}
use Rattle.std.specs.Prelude.{◌==◌, if◌then◌else◌, nat_le, max, Result, Ok, Err, OnOk, is_ok}
use Rattle.std.specs.List.{AllByRecursion, insert}
use Rattle.std.specs.Ordering.{nat_cmp, is_gt, ordering_then}
use Rattle.std.proofs.lemmas.Bool.{cases_lt, le-leb, leb-true, lt-leb, le-ltb, cases_eq, eq-eqb, ne_eqb, true≢false}
use Rattle.template_history.specs.declared.due.Due.{Due}
use Rattle.template_history.specs.declared.version.Version.{Version}
use Rattle.template_history.specs.Due.{is_due, pair_cmp}
use Rattle.template_history.specs.Versions.{row_of, time_of, AreForgotten, AreFrom, AreKept}
use Rattle.template_history.proofs.RowLemmas.{cut_read}
use Rattle.template_history.specs.Row.{begins_by, kept_from, Ascends, IsBehind, IsCut, TailIn}

-- The order of pairs is first that of their times.
pub pair_le : (x y : ℕ × ℕ) → is_gt (pair_cmp x y) ≡ false → x.0 ≤ y.0
pair_le x y e = elim (cases_lt y.0 x.0) [ inl lt ↦ absurd (true≢false (sym (ap (λ o. is_gt (ordering_then o (nat_cmp x.1 y.1))) (greater lt)) ∙ e)) | inr le ↦ le ]
  where
    greater : y.0 < x.0 → nat_cmp x.0 y.0 ≡ nat_cmp 1 0
    greater lt = ap (λ b. cond b (nat_cmp 0 1) (cond (x.0 == y.0) (nat_cmp 0 0) (nat_cmp 1 0))) (le-ltb x.0 y.0 (omega (arith, lt)))
        ∙ ap (λ b. cond b (nat_cmp 0 0) (nat_cmp 1 0)) (ne_eqb x.0 y.0 (λ is. omega (arith, lt, is)))

pub stays_true : (b : Bool) {c : Bool} → c ≡ true → cond b true c ≡ true
stays_true true e = refl
stays_true false e = e

-- ---- one more version

all_around : {X : Type 0} (P : X → Type 0) (v : X) (xs : List X) (i : ℕ) → P v → AllByRecursion P xs → AllByRecursion P (take i xs ++ v ∷ drop i xs)
all_around P v [] zero p all = (p, tt)
all_around P v [] (suc i) p all = (p, tt)
all_around P v (x ∷ xs) zero p all = (p, all)
all_around P v (x ∷ xs) (suc i) p all = (all.0, all_around P v xs i p all.1)

all_set : {X : Type 0} (P : X → Type 0) (v : X) (xs : List X) (i : ℕ) → P v → AllByRecursion P xs → AllByRecursion P (set xs i v)
all_set P v [] i p all = all
all_set P v (x ∷ xs) zero p all = (p, all.1)
all_set P v (x ∷ xs) (suc i) p all = (all.0, all_set P v xs i p all.1)

pub tail_set : {X : Type 0} (n : X → ℕ) (p : ℕ → Bool) (v : X) (xs : List X) (i : ℕ) → IsCut n (n v) xs i → i < length xs → IsBehind n p (n v) xs → TailIn n p xs → TailIn n p (set xs i v)
tail_set n p v [] i c lt b t = absurd (omega (arith, lt))
tail_set n p v (x ∷ xs) zero c lt b t = t
tail_set n p v (x ∷ xs) (suc i) c lt b t = all_set (λ y. p (n y) ≡ true) v xs i (subst (λ (u : ℕ). p u ≡ true) (let f : n x < n v = c.front.0 in omega (arith, f)) b) t

pub tail_insert : {X : Type 0} (n : X → ℕ) (p : ℕ → Bool) (v : X) (xs : List X) (i : ℕ) → IsCut n (n v) xs i → IsBehind n p (n v) xs → TailIn n p xs → TailIn n p (insert xs i v)
tail_insert n p v [] zero c b t = tt
tail_insert n p v [] (suc i) c b t = tt
tail_insert n p v (x ∷ xs) zero c b t = (subst (λ (u : ℕ). p u ≡ true) (let f : n v ≤ n x = c.back.0 in omega (arith, f)) b, t)
tail_insert n p v (x ∷ xs) (suc i) c b t = all_around (λ y. p (n y) ≡ true) v xs i (subst (λ (u : ℕ). p u ≡ true) (let f : n x < n v = c.front.0 in omega (arith, f)) b) t

pub tail_when : {X E A : Type 0} (n : X → ℕ) (v : X) (k i : ℕ) (xs ys old new : List X) (r : Result E A) → IsCut n k ys i → k ≡ n v → ys ≡ xs → xs ≡ old → new ≡ cond (is_ok r) (insert xs i v) xs
    → OnOk r ((p : ℕ → Bool) → IsBehind n p (n v) old → TailIn n p old → TailIn n p new)
tail_when n v k i xs ys old new (Ok x) c s e o is = λ p b t.
    subst (TailIn n p) (sym is) (tail_insert n p v xs i (cut_read n k (n v) ys xs i i c s e refl) (subst (IsBehind n p (n v)) (sym o) b) (subst (TailIn n p) (sym o) t))
tail_when n v k i xs ys old new (Err x) c s e o is = tt

-- ---- forgetting

later_ones : {X : Type 0} (n : X → ℕ) (before : ℕ) (p q : ℕ → Bool) (y : X) → ((u : ℕ) → p u ≡ true → before < u → q u ≡ true) → before < n y
    → (zs : List X) → AllByRecursion (λ z. n y < n z) zs → AllByRecursion (λ z. p (n z) ≡ true) zs → AllByRecursion (λ z. q (n z) ≡ true) zs
later_ones n before p q y f lt [] a all = tt
later_ones n before p q y f lt (z ∷ zs) a all = (f (n z) all.0 (let s : n y < n z = a.0 in omega (arith, lt, s)), later_ones n before p q y f lt zs a.1 all.1)

-- what is left behind the first is later than that time
pub tail_kept : {X : Type 0} (n : X → ℕ) (before : ℕ) (p q : ℕ → Bool) (xs : List X) → ((u : ℕ) → p u ≡ true → before < u → q u ≡ true) → Ascends n xs → TailIn n p xs → TailIn n q (kept_from n before xs)
tail_kept n before p q [] f a t = tt
tail_kept n before p q (x ∷ []) f a t = tt
tail_kept {X} n before p q (x ∷ y ∷ ys) f a t = elim (cases_lt before (n y)) [
  | inl lt ↦ subst (λ (b : Bool). TailIn n q (cond b (kept_from n before (y ∷ ys)) (x ∷ y ∷ ys))) (sym (lt-leb (n y) before lt)) (f (n y) t.0 lt, later_ones n before p q y f lt ys a.1.0 t.1)
  | inr le ↦ subst (λ (b : Bool). TailIn n q (cond b (kept_from n before (y ∷ ys)) (x ∷ y ∷ ys))) (sym (le-leb (n y) before le)) (tail_kept n before p q (y ∷ ys) f a.1 t.1)
]

pub ascends_kept : {X : Type 0} (n : X → ℕ) (before : ℕ) (xs : List X) → Ascends n xs → Ascends n (kept_from n before xs)
ascends_kept n before [] a = a
ascends_kept {X} n before (x ∷ xs) a = by (begins_by n before xs) (ascends_kept n before xs a.1)
  where
    by : (b : Bool) → Ascends n (kept_from n before xs) → Ascends n (cond b (kept_from n before xs) (x ∷ xs))
    by true k = k
    by false k = a

-- where none behind the first is up to that time, all stay
pub kept_if_later : {X : Type 0} (n : X → ℕ) (before : ℕ) (p : ℕ → Bool) (xs : List X) → ((u : ℕ) → p u ≡ true → before < u) → TailIn n p xs → xs ≡ kept_from n before xs
kept_if_later n before p [] f t = refl
kept_if_later n before p (x ∷ []) f t = refl
kept_if_later n before p (x ∷ y ∷ ys) f t = sym (ap (λ b. cond b (kept_from n before (y ∷ ys)) (x ∷ y ∷ ys)) (lt-leb (n y) before (f (n y) t.0)))

-- forgetting once more changes nothing
pub kept_twice : {X : Type 0} (n : X → ℕ) (before : ℕ) (xs : List X) → kept_from n before (kept_from n before xs) ≡ kept_from n before xs
kept_twice n before [] = refl
kept_twice {X} n before (x ∷ xs) = by (begins_by n before xs) refl (kept_twice n before xs)
  where
    by : (b : Bool) → begins_by n before xs ≡ b → kept_from n before (kept_from n before xs) ≡ kept_from n before xs
        → kept_from n before (cond b (kept_from n before xs) (x ∷ xs)) ≡ cond b (kept_from n before xs) (x ∷ xs)
    by true e ih = ih
    by false e ih = ap (λ b. cond b (kept_from n before xs) (x ∷ xs)) e

-- ---- a step, and the end, of going over the IDs that have some to forget

tail_weaker : {X : Type 0} (n : X → ℕ) (p q : ℕ → Bool) (xs : List X) → ((u : ℕ) → p u ≡ true → q u ≡ true) → TailIn n p xs → TailIn n q xs
tail_weaker n p q [] f t = tt
tail_weaker {X} n p q (x ∷ xs) f t = all xs t
  where
    all : (ys : List X) → AllByRecursion (λ y. p (n y) ≡ true) ys → AllByRecursion (λ y. q (n y) ≡ true) ys
    all [] t = tt
    all (y ∷ ys) t = (f (n y) t.0, all ys t.1)

pub one_forgotten : (before id : ℕ) (whole old new : List (ℕ × List Version)) (due left : Due)
    → ((k : ℕ) → row_of new k ≡ (if k == id then kept_from time_of before (row_of old k) else row_of old k))
    → ((u k : ℕ) → is_due due u k ≡ true → (u ≤ before → k ≡ id → ⊥) → is_due left u k ≡ true)
    → AreKept old due → ((k : ℕ) → kept_from time_of before (row_of old k) ≡ kept_from time_of before (row_of whole k))
    → AreKept new left × ((k : ℕ) → kept_from time_of before (row_of new k) ≡ kept_from time_of before (row_of whole k))
one_forgotten before id whole old new due left is stay kept so_far = (λ k. both k (cases_eq k id), λ k. same k (cases_eq k id))
  where
    here : (k : ℕ) → k ≡ id → row_of new k ≡ kept_from time_of before (row_of old k)
    here k e = is k ∙ ap (λ b. cond b (kept_from time_of before (row_of old k)) (row_of old k)) (eq-eqb k id e)

    apart : (k : ℕ) → (k ≡ id → ⊥) → row_of new k ≡ row_of old k
    apart k ne = is k ∙ ap (λ b. cond b (kept_from time_of before (row_of old k)) (row_of old k)) (ne_eqb k id ne)

    Both : ℕ → List Version → Type 0
    Both k row = Ascends time_of row × TailIn time_of (λ t. is_due left t k) row

    both : (k : ℕ) → (k ≡ id) ⊎ (k ≡ id → ⊥) → Both k (row_of new k)
    both k (inl e) = subst (Both k) (sym (here k e)) (
      ascends_kept time_of before (row_of old k) (kept k).0,
      tail_kept time_of before (λ t. is_due due t k) (λ t. is_due left t k) (row_of old k) (λ u d lt. stay u k d (λ le same. omega (arith, lt, le))) (kept k).0 (kept k).1,
    )
    both k (inr ne) = subst (Both k) (sym (apart k ne))
        ((kept k).0, tail_weaker time_of (λ t. is_due due t k) (λ t. is_due left t k) (row_of old k) (λ u d. stay u k d (λ le same. ne same)) (kept k).1)

    same : (k : ℕ) → (k ≡ id) ⊎ (k ≡ id → ⊥) → kept_from time_of before (row_of new k) ≡ kept_from time_of before (row_of whole k)
    same k (inl e) = ap (kept_from time_of before) (here k e) ∙ (kept_twice time_of before (row_of old k) ∙ so_far k)
    same k (inr ne) = ap (kept_from time_of before) (apart k ne) ∙ so_far k

pub all_forgotten : (before : ℕ) (whole new : List (ℕ × List Version)) (due : Due) → ((u k : ℕ) → is_due due u k ≡ true → before < u)
    → AreKept new due → ((k : ℕ) → kept_from time_of before (row_of new k) ≡ kept_from time_of before (row_of whole k)) → AreForgotten before whole new
all_forgotten before whole new due later kept so_far = λ k.
    kept_if_later time_of before (λ t. is_due due t k) (row_of new k) (λ u d. later u k d) (kept k).1 ∙ so_far k

-- one more version of an ID
pub one_more : (id t : ℕ) (old new : List (ℕ × List Version)) (due more : Due)
    → ((u k : ℕ) → is_due due u k ≡ true → is_due more u k ≡ true) → AreKept old due
    → (Ascends time_of (row_of old id) → Ascends time_of (row_of new id))
    → (TailIn time_of (λ u. is_due more u id) (row_of old id) → TailIn time_of (λ u. is_due more u id) (row_of new id))
    → ((k : ℕ) → (k ≡ id → ⊥) → row_of new k ≡ row_of old k) → AreKept new more
one_more id t old new due more stay kept in_order tail others = λ k. by k (cases_eq k id)
  where
    Both : ℕ → List Version → Type 0
    Both k row = Ascends time_of row × TailIn time_of (λ t. is_due more t k) row

    were : (k : ℕ) → Both k (row_of old k)
    were k = ((kept k).0, tail_weaker time_of (λ t. is_due due t k) (λ t. is_due more t k) (row_of old k) (λ u d. stay u k d) (kept k).1)

    by : (k : ℕ) → (k ≡ id) ⊎ (k ≡ id → ⊥) → Both k (row_of new k)
    by k (inl e) = subst (λ (j : ℕ). Both j (row_of new j)) (sym e) (in_order (were id).0, tail (were id).1)
    by k (inr ne) = subst (Both k) (sym (others k ne)) (were k)

-- no other version
pub none_more : (old new : List (ℕ × List Version)) (due more : Due) → ((u k : ℕ) → is_due due u k ≡ true → is_due more u k ≡ true) → AreKept old due → ((k : ℕ) → row_of new k ≡ row_of old k) → AreKept new more
none_more old new due more stay kept same = λ k.
    subst (λ (row : List Version). Ascends time_of row × TailIn time_of (λ t. is_due more t k) row) (sym (same k))
    ((kept k).0, tail_weaker time_of (λ t. is_due due t k) (λ t. is_due more t k) (row_of old k) (λ u d. stay u k d) (kept k).1)

-- ---- from a time on

tail_true : {X : Type 0} (n : X → ℕ) (xs : List X) → TailIn n (λ u. true) xs
tail_true n [] = tt
tail_true {X} n (x ∷ xs) = all xs
  where
    all : (ys : List X) → AllByRecursion (λ y. true ≡ true) ys
    all [] = tt
    all (y ∷ ys) = (refl, all ys)

pub forgotten_from : (before : ℕ) (old new : List (ℕ × List Version)) (due : Due) → AreForgotten before old new → AreKept old due → AreFrom (before + 1) new
forgotten_from before old new due is kept = λ id.
    subst (TailIn time_of (λ t. nat_le (before + 1) t)) (sym (is id))
    (tail_kept time_of before (λ u. true) (λ t. nat_le (before + 1) t) (row_of old id) (λ u e lt. le-leb (before + 1) u (omega (arith, lt))) (kept id).0 (tail_true time_of (row_of old id)))

pub one_more_from : (time t id : ℕ) (old new : List (ℕ × List Version)) → time ≤ t
    → ((p : ℕ → Bool) → IsBehind time_of p t (row_of old id) → TailIn time_of p (row_of old id) → TailIn time_of p (row_of new id))
    → ((k : ℕ) → (k ≡ id → ⊥) → row_of new k ≡ row_of old k) → AreFrom time old → AreFrom time new
one_more_from time t id old new le more others from = λ k. by k (cases_eq k id)
  where
    behind : (row : List Version) → IsBehind time_of (λ u. nat_le time u) t row
    behind [] = tt
    behind (x ∷ xs) = le-leb time (max x.t t) (omega (arith, le))

    by : (k : ℕ) → (k ≡ id) ⊎ (k ≡ id → ⊥) → TailIn time_of (λ u. nat_le time u) (row_of new k)
    by k (inl e) = subst (λ (j : ℕ). TailIn time_of (λ u. nat_le time u) (row_of new j)) (sym e) (more (λ u. nat_le time u) (behind (row_of old id)) (from id))
    by k (inr ne) = subst (TailIn time_of (λ u. nat_le time u)) (sym (others k ne)) (from k)

pub from_weaker : (time later : ℕ) (h : List (ℕ × List Version)) → time ≤ later → AreFrom later h → AreFrom time h
from_weaker time later h le from = λ id.
    tail_weaker time_of (λ t. nat_le later t) (λ t. nat_le time t) (row_of h id) (λ u is. le-leb time u (let s : later ≤ u = leb-true later u is in omega (arith, le, s))) (from id)
