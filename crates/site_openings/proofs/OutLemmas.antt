-- Things go out and come back.
use Rattle.std.proofs.Common.{◌≡◌, ◌≢◌, inl, inr, ℕ, zero, suc, ◌+◌, ◌≤◌, ◌<◌, Bool, true, false, cond, List, [], ◌∷◌, ◌++◌, length, Option, Some, refl, ap, sym, subst, ◌∙◌, arith}
use Rattle.std.specs.Prelude.{bytes_eq, ◌||◌, nat_lt, IsSome}
use Rattle.std.proofs.lemmas.Bool.Decides.{nat_tests}
use Rattle.site_io.specs.Outside.{Rose, one_more}
use Rattle.call_spec.specs.Names.{times, has, after_openings}
use Rattle.call_spec.specs.Counts.{MovesBy}
use Rattle.call_spec.proofs.PairLemmas.{more, weaker, renumber, both as pairs_both}
use Rattle.call_spec.proofs.NameLemmas.{same_or, one_if, times_more, unmarked, members, partner, none_after, one_after, more_after}
use Rattle.site_openings.specs.Out.{WentOut, CameBack, Kept, GoesOut, ComesBack, Begins, AllOut, Shows, failing, AllBack}

pub is_told : {X : Type 0} (o : Option X) (x : X) → o ≡ Some x → IsSome o
is_told o x e = rw e refl

moves_true : (f : Bool) (a b c : ℕ) → MovesBy f a b → b ≤ c → Rose b c → MovesBy true a c
moves_true true a b c m le r = (omega (arith, m.0), omega (arith, m.0))
moves_true false a b c m le r = (omega (arith, m), omega (arith, m))

moves_both : (f : Bool) (n a b c : ℕ) → MovesBy f a b → b ≤ c → (0 < n → Rose b c) → (n ≡ 0 → c ≡ b) → MovesBy (nat_lt 0 n || f) a c
moves_both f zero a b c m le rose same = subst (λ x. MovesBy f a x) (sym (same refl)) m
moves_both f (suc n) a b c m le rose same =
    let some : nat_lt 0 (suc n) ≡ true = grind (arith, nat_tests) in
    rw some (moves_true f a b c m le (rose (omega arith)))

marks : (b : Bool) (p name : List ℕ) (rest : List (List ℕ)) → bytes_eq p name ≡ true → has p (cond b (name ∷ rest) rest) ≡ (b || has p rest)
marks true p name rest same = rw same refl
marks false p name rest same = refl

marks_other : (b : Bool) (p name : List ℕ) (rest : List (List ℕ)) → bytes_eq p name ≡ false → has p (cond b (name ∷ rest) rest) ≡ has p rest
marks_other true p name rest same = rw same refl
marks_other false p name rest same = refl

module _ {V : Type 0} (faults openings out : V → ℕ) where
  pub nothing_out : (a : V) → WentOut faults openings out 0 a a
  nothing_out a = record { out_now = omega arith; openings_now = sym (none_after (openings a)); faults_now = refl; same = λ _. refl }

  pub untried : (x : V) → Kept faults openings out 0 false x x
  untried x = record { out_now = refl; openings_now = sym (none_after (openings x)); faults_now = refl; same = λ _. refl }

  nothing_back : (a : V) → CameBack faults openings out 0 false a a
  nothing_back a = record { out_now = omega arith; openings_now = refl; faults_now = refl; same = λ _. refl }

  pub kept_three : (m n : ℕ) (f : Bool) (w x y z : V) → WentOut faults openings out m w x → Kept faults openings out n f x y → CameBack faults openings out m false y z → Kept faults openings out (m + n) f w z
  kept_three m n f w x y z p q s = record {
    out_now = omega (arith, p.out_now, q.out_now, s.out_now);
    openings_now = s.openings_now ∙ (q.openings_now ∙ (ap (after_openings n) p.openings_now ∙ more_after m n (openings w)));
    faults_now = subst (λ u. MovesBy f u (faults z)) p.faults_now (subst (λ u. MovesBy f (faults x) u) (sym s.faults_now) q.faults_now);
    same = λ e. s.same (omega arith) ∙ (q.same (omega arith) ∙ p.same (omega arith));
  }

module _ {V X T : Type 0} (holds : V → Option X) (faults openings out : V → ℕ) (content : T → Option X) (own : T → ℕ) (start : X → X) where
  one_out : (n : ℕ) (a b c : V) (thing : T) → WentOut faults openings out n a b → GoesOut holds faults openings out content own start b c thing → WentOut faults openings out (n + 1) a c
  one_out n a b c thing p s = record {
    out_now = omega (arith, s.out_now, p.out_now);
    openings_now = s.openings_now ∙ (ap one_more p.openings_now ∙ one_after n (openings a));
    faults_now = s.faults_now ∙ p.faults_now;
    same = λ z. absurd (omega arith);
  }

  pub none_out : (old : List ℕ → V) → AllOut holds faults openings out content own start [] [] old old
  none_out old = record { each = tt; counts = λ p. nothing_out faults openings out (old p); once = λ p t. omega arith }

  -- one more goes out, under a name that isn't out where it tells what it holds
  pub out_more : (names : List (List ℕ)) (things : List T) (name : List ℕ) (thing : T) (a b c : List ℕ → V) → (IsSome (holds (a name)) → times name names ≡ 0) → AllOut holds faults openings out content own start names things a b
      → GoesOut holds faults openings out content own start (b name) (c name) thing → ((q : List ℕ) → q ≢ name → c q ≡ b q) → AllOut holds faults openings out content own start (names ++ name ∷ []) (things ++ thing ∷ []) a c
  out_more names things name thing a b c alone o s others = record {
    each = more (Begins holds faults openings out content own start a) 0 (length names) names things name thing (omega arith) o.each
        ((λ x is. s.begins x (ap holds ((o.counts name).same (alone (is_told (holds (a name)) x is))) ∙ is)), s.fresh);
    counts = λ p. elim (same_or p name) [
      | inl same ↦ subst (λ n. WentOut faults openings out n (a p) (c p)) (sym (times_more p names name ∙ ap (λ b. times p names + cond b 1 0) same.0))
          (one_out (times p names) (a p) (b p) (c p) thing (o.counts p) (subst (λ q. GoesOut holds faults openings out content own start (b q) (c q) thing) (sym same.1) s))
      | inr differ ↦ subst (λ n. WentOut faults openings out n (a p) (c p)) (let t = times_more p names name in let z : one_if p name ≡ 0 = ap (λ b. cond b 1 0) differ.0 in omega arith)
          (subst (λ (x : V). WentOut faults openings out (times p names) (a p) x) (sym (others p differ.1)) (o.counts p))
    ];
    once = λ p t. elim (same_or p name) [
      | inl same ↦ (
          let none : times p names ≡ 0 = subst (λ q. times q names ≡ 0) (sym same.1) (alone (subst (λ q. IsSome (holds (a q))) same.1 t)) in
          let z : one_if p name ≡ 1 = ap (λ b. cond b 1 0) same.0 in
          let y = times_more p names name in
          omega arith)
      | inr differ ↦ (
          let z : one_if p name ≡ 0 = ap (λ b. cond b 1 0) differ.0 in
          let y = times_more p names name in
          let x = o.once p t in
          omega arith)
    ];
  }

  one_back : (n : ℕ) (f : Bool) (a b c : V) (thing : T) → CameBack faults openings out n f a b → ComesBack holds faults openings out content own b c thing → CameBack faults openings out (1 + n) (nat_lt 0 (own thing) || f) a c
  one_back n f a b c thing p s = record {
    out_now = omega (arith, s.out_now, p.out_now);
    openings_now = s.openings_now ∙ p.openings_now;
    faults_now = moves_both f (own thing) (faults a) (faults b) (faults c) p.faults_now s.later s.rose s.no_fault;
    same = λ z. absurd (omega arith);
  }

  pub none_back : (old : List ℕ → V) → AllBack holds faults openings out content own [] [] old old
  none_back old = record { each = tt; counts = λ p. nothing_back faults openings out (old p) }

  -- one more comes back
  pub back_more : (names : List (List ℕ)) (things : List T) (name : List ℕ) (thing : T) (a b c : List ℕ → V) → AllBack holds faults openings out content own names things a b
      → ComesBack holds faults openings out content own (b name) (c name) thing → ((q : List ℕ) → q ≢ name → c q ≡ b q) → AllBack holds faults openings out content own (name ∷ names) (thing ∷ things) a c
  back_more names things name thing a b c o s others = record {
    each = (
      (λ _. s.shown),
      weaker (λ k p x. Shows holds faults openings out content own names b k p x × (1 ≤ times p names)) (Shows holds faults openings out content own (name ∷ names) c) 1 names things
          (λ k p x lt e one. elim (same_or p name) [
            | inl same ↦ absurd (let z : one_if p name ≡ 1 = ap (λ b. cond b 1 0) same.0 in let y = e.1 in omega arith)
            | inr differ ↦ (
                let z : one_if p name ≡ 0 = ap (λ b. cond b 1 0) differ.0 in
                let y : times p names ≡ 1 = omega arith in
                ap holds (others p differ.1) ∙ e.0 y)
          ])
          (members (Shows holds faults openings out content own names b) (λ p. times p names) 1 names things (λ p. omega arith) (renumber (λ p x. Shows holds faults openings out content own names b 0 p x) 0 1 names things o.each)),
    );
    counts = λ p. elim (same_or p name) [
      | inl same ↦ subst (λ n. CameBack faults openings out n (has p (failing holds faults openings out content own (name ∷ names) (thing ∷ things))) (a p) (c p)) (ap (λ b. cond b 1 0 + times p names) (sym same.0))
          (subst (λ f. CameBack faults openings out (1 + times p names) f (a p) (c p)) (sym (marks (nat_lt 0 (own thing)) p name (failing holds faults openings out content own names things) same.0))
          (one_back (times p names) (has p (failing holds faults openings out content own names things)) (a p) (b p) (c p) thing (o.counts p)
          (subst (λ q. ComesBack holds faults openings out content own (b q) (c q) thing) (sym same.1) s)))
      | inr differ ↦ subst (λ n. CameBack faults openings out n (has p (failing holds faults openings out content own (name ∷ names) (thing ∷ things))) (a p) (c p)) (let z : one_if p name ≡ 0 = ap (λ b. cond b 1 0) differ.0 in omega arith)
          (subst (λ f. CameBack faults openings out (times p names) f (a p) (c p)) (sym (marks_other (nat_lt 0 (own thing)) p name (failing holds faults openings out content own names things) differ.0))
          (subst (λ (x : V). CameBack faults openings out (times p names) (has p (failing holds faults openings out content own names things)) (a p) x) (sym (others p differ.1)) (o.counts p)))
    ];
  }

  -- what went out came back, and in between something was tried at one name
  module _ (names : List (List ℕ)) (things : List T) (name : List ℕ) (n : ℕ) (f : Bool) (a b c d : List ℕ → V) (o : AllOut holds faults openings out content own start names things a b)
      (tried : Kept faults openings out n f (b name) (c name)) (others : (q : List ℕ) → q ≢ name → c q ≡ b q) (r : AllBack holds faults openings out content own names things c d) where
    unread : failing holds faults openings out content own names things ≡ []
    unread = unmarked (λ t. nat_lt 0 (own t)) 0 names things (weaker (Begins holds faults openings out content own start a) (λ _ _ t. nat_lt 0 (own t) ≡ false) 0 names things (λ k p t lt h. ap (nat_lt 0) h.1) o.each)

    back_of : (p : List ℕ) → CameBack faults openings out (times p names) false (c p) (d p)
    back_of p = subst (λ x. CameBack faults openings out (times p names) (has p x) (c p) (d p)) unread (r.counts p)

    pub refused_counts : (p : List ℕ) → Kept faults openings out (times p names + cond (bytes_eq p name) n 0) (cond (bytes_eq p name) f false) (a p) (d p)
    refused_counts p = elim (same_or p name) [
      | inl same ↦ rw same.0 (kept_three faults openings out (times p names) n f (a p) (b p) (c p) (d p) (o.counts p)
          (subst (λ q. Kept faults openings out n f (b q) (c q)) (sym same.1) tried) (back_of p))
      | inr differ ↦ rw differ.0 (kept_three faults openings out (times p names) 0 false (a p) (b p) (c p) (d p) (o.counts p)
          (subst (λ (x : V). Kept faults openings out 0 false (b p) x) (sym (others p differ.1)) (untried faults openings out (b p))) (back_of p))
    ]

    -- what went out and came back shows what it began with
    pub shows_start : (p : List ℕ) → 0 < times p names → (x : X) → holds (a p) ≡ Some x → holds (d p) ≡ Some (start x)
    shows_start p some x is =
        let pairs = pairs_both (Begins holds faults openings out content own start a) (Shows holds faults openings out content own names d) 0 names things o.each r.each in
        let mine = partner (λ k q t. Begins holds faults openings out content own start a k q t × Shows holds faults openings out content own names d k q t) 0 names things p some pairs in
        let few = o.once p (is_told (holds (a p)) x is) in
        let one : times p names ≡ 1 = omega arith in
        mine.2.1 one ∙ mine.2.0.0 x is

    -- what did not is as it was but for what was tried
    pub others_same : (p : List ℕ) → times p names ≡ 0 → (d p ≡ c p) × (b p ≡ a p)
    others_same p none = ((back_of p).same none, (o.counts p).same none)
