-- Walks over names that open and give back.
use Rattle.std.proofs.Common.{◌≡◌, ◌≢◌, inl, inr, ℕ, zero, suc, ◌+◌, ◌≤◌, ◌<◌, true, false, cond, List, [], ◌∷◌, ◌++◌, length, take, drop, get_or, Option, refl, ap, sym, subst, ◌∙◌, arith, append_assoc, append-nil, add-zero}
use Rattle.std.specs.Prelude.{bytes_eq, ◌||◌}
use Rattle.std.proofs.lemmas.List.{drop_more, take_more, length_push, drop_all, length-take-le}
use Rattle.call_spec.specs.Names.{times, has}
use Rattle.call_spec.proofs.PairLemmas.{same_length}
use Rattle.call_spec.proofs.NameLemmas.{times_drop, one_if, times_more, same_or, itself}
use Rattle.site_openings.specs.Out.{Kept, ComesBack, Begins, AllOut, AllBack}
use Rattle.site_openings.proofs.OutLemmas.{none_back, back_more, refused_counts}

pub one_name : (p name : List ℕ) → has p (name ∷ []) ≡ cond (bytes_eq p name) true false
one_name p name = elim (bytes_eq p name) as (λ b. (b || false) ≡ cond b true false) [ true ↦ refl | false ↦ refl ]

pub no_mark : (p name : List ℕ) → cond (bytes_eq p name) false false ≡ false
no_mark p name = elim (bytes_eq p name) as (λ b. cond b false false ≡ false) [ true ↦ refl | false ↦ refl ]

pub no_count : (p name : List ℕ) → ◌≡◌ {A = ℕ} (cond (bytes_eq p name) 0 0) 0
no_count p name = elim (bytes_eq p name) as (λ b. ◌≡◌ {A = ℕ} (cond b 0 0) 0) [ true ↦ refl | false ↦ refl ]

-- one name of a list
module _ (names : List (List ℕ)) (i : ℕ) (name : List ℕ) (lt : i < length names) (is : name ≡ get_or names i name) where
  pub taken_next : take (i + 1) names ≡ take i names ++ name ∷ []
  taken_next = take_more names i name lt ∙ ap (λ z. take i names ++ z ∷ []) (sym is)

  pub here : take 1 (drop i names) ≡ name ∷ []
  here = ap (take 1) (drop_more names i name lt) ∙ ap (λ z. z ∷ []) (sym is)

module _ {V X T : Type 0} (holds : V → Option X) (faults openings out : V → ℕ) (content : T → Option X) (own : T → ℕ) where
  -- so far these came back
  abbrev pub BackSoFar : List (List ℕ) → List T → List T → (List ℕ → V) → (List ℕ → V) → Type 0
  BackSoFar names all items a b = (done : List T) × (all ≡ items ++ done) × AllBack holds faults openings out content own (drop (length items) names) done a b

  next_names : (names : List (List ℕ)) (items : List T) (thing : T) (name : List ℕ) → length items < length names → name ≡ get_or names (length items) name → drop (length items) names ≡ name ∷ drop (length (items ++ thing ∷ [])) names
  next_names names items thing name lt is = drop_more names (length items) name lt ∙ (ap (λ s. s ∷ drop (length items + 1) names) (sym is) ∙ ap (λ n. name ∷ drop n names) (sym (length_push items thing)))

  pub back_next : (names : List (List ℕ)) (all items : List T) (thing : T) (name : List ℕ) (a b c : List ℕ → V) → length items < length names → name ≡ get_or names (length items) name
      → BackSoFar names all (items ++ thing ∷ []) a b → ComesBack holds faults openings out content own (b name) (c name) thing → ((q : List ℕ) → q ≢ name → c q ≡ b q) → BackSoFar names all items a c
  back_next names all items thing name a b c lt is k s others = (
    thing ∷ k.0,
    k.1 ∙ append_assoc items (thing ∷ []) k.0,
    subst (λ (l : List (List ℕ)). AllBack holds faults openings out content own l (thing ∷ k.0) a c) (sym (next_names names items thing name lt is))
        (back_more holds faults openings out content own (λ x. x) (drop (length (items ++ thing ∷ [])) names) k.0 name thing a b c k.2 s others),
  )

  -- the next one is out
  pub next_is_out : (names : List (List ℕ)) (all items : List T) (thing : T) (name : List ℕ) (a b : List ℕ → V) → length items < length names → name ≡ get_or names (length items) name
      → BackSoFar names all (items ++ thing ∷ []) a b → times name names ≤ out (a name) → 0 < out (b name)
  next_is_out names all items thing name a b lt is k le =
      let rest = drop (length (items ++ thing ∷ [])) names in
      let e : times name (drop (length items) names) ≡ one_if name name + times name rest = ap (times name) (next_names names items thing name lt is) in
      let one : one_if name name ≡ 1 = ap (λ b. cond b 1 0) (itself name) in
      let h = times_drop name (length items) names in
      let o = (k.2.counts name).out_now in
      omega arith

  pub back_none : (names : List (List ℕ)) (all : List T) (a : List ℕ → V) → length all ≡ length names → BackSoFar names all all a a
  back_none names all a same = ([], sym (append-nil all), subst (λ (l : List (List ℕ)). AllBack holds faults openings out content own l [] a a) (sym (drop_all (length all) names (omega arith))) (none_back holds faults openings out content own (λ x. x) a))

  -- all came back
  pub back_all : (names : List (List ℕ)) (all : List T) (a b : List ℕ → V) → BackSoFar names all [] a b → AllBack holds faults openings out content own names all a b
  back_all names all a b k = subst (λ (l : List T). AllBack holds faults openings out content own names l a b) (sym k.1) k.2

  -- the first of some names are out, and something was tried at the next
  module _ (start : X → X) (names : List (List ℕ)) (i : ℕ) (name : List ℕ) (things : List T) (a b c : List ℕ → V) (lt : i < length names) (is : name ≡ get_or names i name)
      (o : AllOut holds faults openings out content own start (take i names) things a b) (others : (q : List ℕ) → q ≢ name → c q ≡ b q) where
    pub number_is : i ≡ length things
    number_is =
        let e = same_length (Begins holds faults openings out content own start a) 0 (take i names) things o.each in
        let t = length-take-le i names (omega arith) in
        omega (arith, e, t)

    pub still_out : out (c name) ≡ out (b name) → (p : List ℕ) → times p (take i names) ≤ out (c p)
    still_out same p = elim (same_or p name) [
      | inl s ↦ (
          let e : out (c p) ≡ out (b p) = subst (λ q. out (c q) ≡ out (b q)) (sym s.1) same in
          let f = (o.counts p).out_now in
          omega arith)
      | inr d ↦ (
          let e : out (c p) ≡ out (b p) = ap out (others p d.1) in
          let f = (o.counts p).out_now in
          omega arith)
    ]

    pub counts_at : (d : List ℕ → V) → Kept faults openings out 1 true (b name) (c name) → AllBack holds faults openings out content own (take i names) things c d
        → (p : List ℕ) → Kept faults openings out (times p (take (i + 1) names)) (has p (take 1 (drop i names))) (a p) (d p)
    counts_at d kept back p =
        subst (λ m. Kept faults openings out m (has p (take 1 (drop i names))) (a p) (d p)) (sym (times_more p (take i names) name) ∙ ap (times p) (sym (taken_next names i name lt is)))
        (subst (λ f. Kept faults openings out (times p (take i names) + cond (bytes_eq p name) 1 0) f (a p) (d p)) (sym (ap (has p) (here names i name lt is) ∙ one_name p name))
        (refused_counts holds faults openings out content own start (take i names) things name 1 true a b c d o kept others back p))

    pub counts_memory : (d : List ℕ → V) (k : ℕ) → k ≤ 1 → Kept faults openings out k false (b name) (c name) → AllBack holds faults openings out content own (take i names) things c d
        → (p : List ℕ) → Kept faults openings out (times p (take (i + k) names)) false (a p) (d p)
    counts_memory d zero le kept back p =
        subst (λ m. Kept faults openings out m false (a p) (d p)) (ap (λ k. times p (take i names) + k) (no_count p name) ∙ (add-zero (times p (take i names)) ∙ ap (λ n. times p (take n names)) (sym (add-zero i))))
        (subst (λ f. Kept faults openings out (times p (take i names) + cond (bytes_eq p name) 0 0) f (a p) (d p)) (no_mark p name)
        (refused_counts holds faults openings out content own start (take i names) things name 0 false a b c d o kept others back p))
    counts_memory d (suc zero) le kept back p =
        subst (λ m. Kept faults openings out m false (a p) (d p)) (sym (times_more p (take i names) name) ∙ ap (times p) (sym (taken_next names i name lt is)))
        (subst (λ f. Kept faults openings out (times p (take i names) + cond (bytes_eq p name) 1 0) f (a p) (d p)) (no_mark p name)
        (refused_counts holds faults openings out content own start (take i names) things name 1 false a b c d o kept others back p))
    counts_memory d (suc (suc k)) le kept back p = absurd (omega arith)
