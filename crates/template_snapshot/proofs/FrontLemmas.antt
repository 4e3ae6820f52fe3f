-- The front of rows in order that a test by ID and export time parts off.
use Rattle.std.proofs.Common.{◌≡◌, ◌⊎◌, ℕ, zero, suc, ◌+◌, ◌-◌, ◌<◌, ◌≤◌, inl, inr, Bool, true, false, List, [], ◌∷◌, take, drop, length, get_or, ap, sym, subst, ◌∙◌, arith}
use Rattle.std.specs.Prelude.{◌==◌, ◌&&◌, ◌||◌, nat_le}
use Rattle.std.specs.List.Sorted.{IsPartitionPoint, IsPartitionedBy}
use Rattle.std.proofs.lemmas.Bool.{cases_lt, cases_eq, le-leb, lt-ltb, le-ltb, leb-true, eq-eqb, ne_eqb, true≢false}
use Rattle.std.proofs.lemmas.List.{length-take-le, length-drop, get_or-take, get_or-drop}
use Rattle.std.proofs.lemmas.List.Elements.{All-from_recursion, recursion_from_All}
use Rattle.template_snapshot.specs.Entry.{is_up_to, Entry, AreInOrder, IsFront, Precedes}

pub up_to_if : (e id : ℕ) (r : Entry) → (r.id < id) ⊎ ((r.id ≡ id) × (r.t ≤ e)) → is_up_to e id r ≡ true
up_to_if e id r (inl lt) = ap (λ b. b || (r.id == id && nat_le r.t e)) (lt-ltb r.id id lt)
up_to_if e id r (inr p) =
    ap (λ b. b || (r.id == id && nat_le r.t e)) (le-ltb r.id id (omega (arith, p.0)))
    ∙ (ap (λ b. b && nat_le r.t e) (eq-eqb r.id id p.0) ∙ le-leb r.t e p.1)

pub up_to_says : (e id : ℕ) (r : Entry) → is_up_to e id r ≡ true → (r.id < id) ⊎ ((r.id ≡ id) × (r.t ≤ e))
up_to_says e id r is = elim (cases_lt r.id id) [ inl lt ↦ inl lt | inr le ↦ inr (by le (cases_eq r.id id)) ]
  where
    behind : id ≤ r.id → (r.id == id && nat_le r.t e) ≡ true
    behind le = sym (ap (λ b. b || (r.id == id && nat_le r.t e)) (le-ltb r.id id le)) ∙ is

    by : id ≤ r.id → (r.id ≡ id) ⊎ (r.id ≡ id → ⊥) → (r.id ≡ id) × (r.t ≤ e)
    by le (inl same) = (same, leb-true r.t e (sym (ap (λ b. b && nat_le r.t e) (eq-eqb r.id id same)) ∙ behind le))
    by le (inr ne) = absurd (true≢false (sym (behind le) ∙ ap (λ b. b && nat_le r.t e) (ne_eqb r.id id ne)))

-- what stands before a row that is up to there is up to there
pub up_to_before : (e id : ℕ) (r s : Entry) → Precedes r s → is_up_to e id s ≡ true → is_up_to e id r ≡ true
up_to_before e id r s p is = up_to_if e id r (by p (up_to_says e id s is))
  where
    by : Precedes r s → (s.id < id) ⊎ ((s.id ≡ id) × (s.t ≤ e)) → (r.id < id) ⊎ ((r.id ≡ id) × (r.t ≤ e))
    by (inl lt) (inl q) = inl (omega (arith, lt, q))
    by (inl lt) (inr q) = let same = q.0 in inl (omega (arith, lt, same))
    by (inr p) (inl q) = let same = p.0 in inl (omega (arith, same, q))
    by (inr p) (inr q) = let a = p.0 in let b = q.0 in let c = p.1 in let d = q.1 in inr (omega (arith, a, b), omega (arith, c, d))

pub parted : (e id : ℕ) (rows : List Entry) → AreInOrder rows → IsPartitionedBy (is_up_to e id) rows
parted e id [] a i j d le lt is = absurd (let z : j < 0 = lt in omega (arith, z))
parted e id (r ∷ rows) a zero zero d le lt is = is
parted e id (r ∷ rows) a zero (suc j) d le lt is =
    let s : j < length rows = omega (arith, lt) in up_to_before e id r (get_or rows j d) (All-from_recursion (Precedes r) rows a.0 j d s) is
parted e id (r ∷ rows) a (suc i) zero d le lt is = absurd (omega (arith, le))
parted e id (r ∷ rows) a (suc i) (suc j) d le lt is = parted e id rows a.1 i j d (omega (arith, le)) (omega (arith, lt)) is

pub front_from : {X : Type 0} (p : X → Bool) (xs : List X) (i : ℕ) → i ≤ length xs → IsPartitionPoint (λ y. p y ≡ true) (λ y. p y ≡ false) xs i → IsFront p xs i
front_from {X} p xs i le q = record {
  within = le;
  front = recursion_from_All (λ x. p x ≡ true) (take i xs) (λ k d lt.
      let s : k < i = (let e : length (take i xs) ≡ i = length-take-le i xs le in omega (arith, lt, e)) in
      subst (λ (y : X). p y ≡ true) (sym (get_or-take i xs k d s)) (q.0 k d (omega arith) s));
  back = recursion_from_All (λ x. p x ≡ false) (drop i xs) (λ k d lt.
      let s : i + k < length xs = (let e : length (drop i xs) ≡ length xs - i = length-drop i xs in omega (arith, lt, e)) in
      subst (λ (y : X). p y ≡ false) (sym (get_or-drop i xs k d)) (q.1 (i + k) d (omega arith) s));
}

-- where the rows and the number are known by other names
pub front_read : {X : Type 0} (p : X → Bool) (xs ys : List X) (i j : ℕ) → IsFront p xs i → xs ≡ ys → i ≡ j → IsFront p ys j
front_read {X} p xs ys i j c q r = subst (λ (zs : List X). IsFront p zs j) q (subst (λ (m : ℕ). IsFront p xs m) r c)
