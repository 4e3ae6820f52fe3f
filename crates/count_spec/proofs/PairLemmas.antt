-- Openings are at most the pairs of session and domain with a decoded set, and the template records.
use Rattle.std.proofs.Common.{◌≡◌, ℕ, ◌+◌, ◌≤◌, ◌⊎◌, inl, inr, Bool, true, false, ◌&&◌, ◌||◌, cond, List, [], ◌∷◌, ◌++◌, Some, None, length, refl, ap, sym, subst, ◌∙◌, map, arith, append_assoc, append-nil, length-append}
use Rattle.std.specs.Prelude.{Ok, Err, Option, ◌==◌, sum_by, count_by, flat_map, zip}
use Rattle.std.specs.List.{AllByRecursion, list_any}
use Rattle.std.proofs.lemmas.Bool.{eqb-true, eq-eqb, and_parts, and_from}
use Rattle.std.proofs.lemmas.Grind.{flat_map-append}
use Rattle.std.proofs.lemmas.List.Folds.{list_any-append}
use Rattle.std.proofs.lemmas.List.Sums.{sum_by-cons}
use Rattle.std.proofs.Math.Bool.{or-true}
use Rattle.col_base.specs.declared.base.SessionKey.{SessionKey}
use Rattle.col_base.specs.declared.base.Transport.{Transport}
use Rattle.wire_spec.specs.Content.{Touch, Part, Message}
use Rattle.template_spec.specs.Changes.{changes, count_after}
use Rattle.arrival_spec.specs.Arrival.Arrival.{SessionOpen, Raw, SessionClose, Periodic}
use Rattle.run_spec.specs.Read.{ReadArrival}
use Rattle.arrival_spec.specs.Order.{same_key}
use Rattle.run_spec.specs.Judge.{Inputs, Judgement}
use Rattle.run_spec.specs.Judge.Judgement.{Malformed, Crowded, Late, Taken}
use Rattle.run_spec.specs.Touches.{dated, touches_in}
use Rattle.run_spec.specs.Outcome.{Outcome, DecodedSet, decoded_sets}
use Rattle.run_spec.specs.Outcome.Outcome.{Touched, Skipped, Empty, Decoded}
use Rattle.run_spec.specs.Work.{Work}
use Rattle.run_spec.proofs.ApartLemmas.{same_is, own_is}
use Rattle.count_spec.specs.Counts.{taken_as, taken_of, sum_after}
use Rattle.count_spec.specs.Openings.{Deed, deeds_of_set, deeds_of, deeds_at, deeds, touch_of, live_by, live_after, is_live, openings_after, opens_at, opens, Pair, same_pair, pair_by, pairs_in, pairs, touches_taken}
use Rattle.count_spec.specs.Openings.Deed.{Does}
use Rattle.count_spec.proofs.BoundLemmas.{openings_bounded}
use Rattle.count_spec.proofs.MoreLemmas.{one_more_deeds}
use Rattle.count_spec.proofs.TouchLemmas.{of_set}
use Rattle.count_spec.proofs.SumLemmas.{IsTest, sum_at, once, at_most_once, different_once, different_there}

-- a work is of one taken message, or of none
pub taken_is : (w : Work) → (taken_of w ≡ []) ⊎ ((t : SessionKey × Message) × (taken_of w ≡ t ∷ []))
taken_is w = by_parts w.arrival w.judgement
  where
    by_judgement : (key : SessionKey) (m : Message) (j : Judgement) → (taken_as (Raw key (Ok m)) (Some j) ≡ []) ⊎ ((t : SessionKey × Message) × (taken_as (Raw key (Ok m)) (Some j) ≡ t ∷ []))
    by_judgement key m (Malformed fault) = inl refl
    by_judgement key m Crowded = inl refl
    by_judgement key m Late = inl refl
    by_judgement key m Taken = inr ((key, m), refl)

    by_parts : (a : ReadArrival) (j : Option Judgement) → (taken_as a j ≡ []) ⊎ ((t : SessionKey × Message) × (taken_as a j ≡ t ∷ []))
    by_parts (SessionOpen key transport) j = inl refl
    by_parts (SessionClose key) j = inl refl
    by_parts (Periodic input seconds) j = inl refl
    by_parts (Raw key (Err fault)) j = inl refl
    by_parts (Raw key (Ok m)) None = inl refl
    by_parts (Raw key (Ok m)) (Some j) = by_judgement key m j

pair_is : (a b : Pair) → same_pair a b ≡ true → a ≡ b
pair_is a b e =
    let p = and_parts (same_key a.0 b.0) (a.1 == b.1) e in
    ap (λ (k : SessionKey). (k, a.1)) (same_is a.0 b.0 p.0) ∙ ap (λ (n : ℕ). (b.0, n)) (eqb-true a.1 b.1 p.1)

pair_own : (a : Pair) → same_pair a a ≡ true
pair_own a = and_from (same_key a.0 a.0) (a.1 == a.1) (own_is a.0) (eq-eqb a.1 a.1 refl)

pub pair_test : IsTest same_pair
pair_test = record { is = pair_is; own = pair_own }

abbrev touches : List Deed → List (ℕ × Touch)
touches list = flat_map touch_of list

module _ (transport : Transport) where
  -- deeds one after another
  pub openings_on : (before list more : List Deed) (live : Bool)
      → openings_after transport before live (list ++ more) ≡ openings_after transport before live list + openings_after transport (before ++ list) (live_after transport before live list) more
  openings_on before [] more live =
      let same : openings_after transport (before ++ []) live more ≡ openings_after transport before live more = ap (λ b. openings_after transport b live more) (append-nil before) in
      omega arith
  openings_on before (d ∷ list) more live =
      let now = live_by transport before live d in
      let further = openings_on (before ++ d ∷ []) list more now in
      let same : openings_after transport ((before ++ d ∷ []) ++ list) (live_after transport (before ++ d ∷ []) now list) more ≡ openings_after transport (before ++ d ∷ list) (live_after transport (before ++ d ∷ []) now list) more =
      ap (λ b. openings_after transport b (live_after transport (before ++ d ∷ []) now list) more) (append_assoc before (d ∷ []) list) in
      omega arith

  -- template records open nothing
  no_opening : (before : List Deed) (live : Bool) (list : List (ℕ × Touch)) → openings_after transport before live (map Does list) ≡ 0
  no_opening before live [] = refl
  no_opening before live (t ∷ list) = let further = no_opening (before ++ Does t ∷ []) (live_by transport before live (Does t)) list in omega arith

  none_opened : (time : ℕ) (parts : List Part) (outcomes : List Outcome) → decoded_sets outcomes ≡ [] → (before : List Deed) (live : Bool) → openings_after transport before live (flat_map (deeds_of_set transport time) (zip parts outcomes)) ≡ 0
  none_opened time [] outcomes e before live = refl
  none_opened time (p ∷ parts) [] e before live = refl
  none_opened time (p ∷ parts) (o ∷ outcomes) e before live = by_outcome o e (none_opened time parts outcomes)
    where
      plain : (rest : List Deed) → ((b : List Deed) (l : Bool) → openings_after transport b l rest ≡ 0) → openings_after transport before live ((map Does (dated transport time p) ++ []) ++ rest) ≡ 0
      plain rest none =
          let joined : (map Does (dated transport time p) ++ []) ++ rest ≡ map Does (dated transport time p) ++ rest = ap (λ l. l ++ rest) (append-nil (map Does (dated transport time p))) in
          let a = ap (openings_after transport before live) joined in
          let b = openings_on before (map Does (dated transport time p)) rest live in
          let c = no_opening before live (dated transport time p) in
          let d = none (before ++ map Does (dated transport time p)) (live_after transport before live (map Does (dated transport time p))) in
          omega arith

      by_outcome : (x : Outcome) → decoded_sets (x ∷ outcomes) ≡ [] → (decoded_sets outcomes ≡ [] → (b : List Deed) (l : Bool) → openings_after transport b l (flat_map (deeds_of_set transport time) (zip parts outcomes)) ≡ 0)
          → openings_after transport before live (deeds_of_set transport time (p, x) ++ flat_map (deeds_of_set transport time) (zip parts outcomes)) ≡ 0
      by_outcome Touched f more = plain (flat_map (deeds_of_set transport time) (zip parts outcomes)) (more f)
      by_outcome (Skipped reason) f more = plain (flat_map (deeds_of_set transport time) (zip parts outcomes)) (more f)
      by_outcome Empty f more = plain (flat_map (deeds_of_set transport time) (zip parts outcomes)) (more f)
      by_outcome (Decoded d) f more = absurd cc

  fewer_touches : (time : ℕ) (parts : List Part) (outcomes : List Outcome) → length (touches (flat_map (deeds_of_set transport time) (zip parts outcomes))) ≤ length (flat_map (dated transport time) parts)
  fewer_touches time [] outcomes = omega arith
  fewer_touches time (p ∷ parts) [] = omega arith
  fewer_touches time (p ∷ parts) (o ∷ outcomes) =
      let rest = flat_map (deeds_of_set transport time) (zip parts outcomes) in
      let a = ap length (flat_map-append touch_of (deeds_of_set transport time (p, o)) rest) in
      let b = length-append (touches (deeds_of_set transport time (p, o))) (touches rest) in
      let c = ap length (of_set transport time p o) in
      let d = length-append (dated transport time p) (flat_map (dated transport time) parts) in
      let further = fewer_touches time parts outcomes in
      omega arith

  changes_most : (past list : List (ℕ × Touch)) → count_after (changes transport) past list ≤ length list
  changes_most past [] = omega arith
  changes_most past (t ∷ list) = let further = changes_most (past ++ t ∷ []) list in by_change (changes transport past t) further
    where
      by_change : (b : Bool) → count_after (changes transport) (past ++ t ∷ []) list ≤ length list → cond b 1 0 + count_after (changes transport) (past ++ t ∷ []) list ≤ length (t ∷ list)
      by_change true le = omega arith
      by_change false le = omega arith

sum_same : {X : Type 0} (f g : X → ℕ) → ((x : X) → f x ≡ g x) → (xs : List X) → sum_by f xs ≡ sum_by g xs
sum_same f g e [] = refl
sum_same f g e (x ∷ xs) =
    let a = sum_by-cons f x xs in
    let b = sum_by-cons g x xs in
    let one = e x in
    let further = sum_same f g e xs in
    omega arith

sum_one_more : {X : Type 0} (f g : X → ℕ) → ((x : X) → f x ≤ 1 + g x) → (xs : List X) → sum_by f xs ≤ length xs + sum_by g xs
sum_one_more f g le [] = omega arith
sum_one_more f g le (x ∷ xs) =
    let a = sum_by-cons f x xs in
    let b = sum_by-cons g x xs in
    let one = le x in
    let further = sum_one_more f g le xs in
    omega arith

module _ (inputs : Inputs) where
  abbrev by_pair : Pair → Transport
  by_pair p = (inputs p.0.input).transport

  abbrev pair_of : SessionKey × Message → Pair
  pair_of t = (t.0, t.1.domain)

  abbrev is_at : Pair → Pair → Bool
  is_at q p = same_pair p q

  -- the deeds of a pair in a work
  pub of_nothing : (w : Work) (p : Pair) → taken_of w ≡ [] → deeds_at inputs p.0 p.1 w ≡ []
  of_nothing w p e = ap (flat_map (λ (t : SessionKey × Message). cond (same_key t.0 p.0 && t.1.domain == p.1) (deeds_of inputs t w.outcomes) [])) e

  pub of_one : (w : Work) (p : Pair) (t : SessionKey × Message) → taken_of w ≡ t ∷ [] → deeds_at inputs p.0 p.1 w ≡ cond (same_pair (pair_of t) p) (deeds_of inputs t w.outcomes) []
  of_one w p t e =
      ap (flat_map (λ (u : SessionKey × Message). cond (same_key u.0 p.0 && u.1.domain == p.1) (deeds_of inputs u w.outcomes) [])) e ∙ append-nil (cond (same_pair (pair_of t) p) (deeds_of inputs t w.outcomes) [])

  pub of_other : (w : Work) (p : Pair) (t : SessionKey × Message) → taken_of w ≡ t ∷ [] → is_at (pair_of t) p ≡ false → deeds_at inputs p.0 p.1 w ≡ []
  of_other w p t e f = of_one w p t e ∙ by_same (same_pair (pair_of t) p) refl
    where
      by_same : (b : Bool) → same_pair (pair_of t) p ≡ b → cond b (deeds_of inputs t w.outcomes) [] ≡ []
      by_same true g =
          let same : pair_of t ≡ p = pair_is (pair_of t) p g in
          let no : true ≡ false = sym (ap (λ (x : Pair). same_pair p x) same ∙ pair_own p) ∙ f in
          absurd cc
      by_same false g = refl

  pub of_own : (w : Work) (t : SessionKey × Message) → taken_of w ≡ t ∷ [] → deeds_at inputs t.0 t.1.domain w ≡ deeds_of inputs t w.outcomes
  of_own w t e = of_one w (pair_of t) t e ∙ ap (λ b. cond b (deeds_of inputs t w.outcomes) []) (pair_own (pair_of t))

  abbrev opened : List Work → Pair → ℕ
  opened works p = openings_after (by_pair p) [] false (deeds inputs p.0 p.1 works)

  abbrev opened_by : List Work → Pair → List Deed → ℕ
  opened_by works p list = openings_after (by_pair p) (deeds inputs p.0 p.1 works) (is_live (by_pair p) (deeds inputs p.0 p.1 works)) list

  opened_more : (works : List Work) (w : Work) (p : Pair) → opened (works ++ w ∷ []) p ≡ opened works p + opened_by works p (deeds_at inputs p.0 p.1 w)
  opened_more works w p =
      ap (openings_after (by_pair p) [] false) (one_more_deeds inputs p.0 p.1 works w)
      ∙ openings_on (by_pair p) [] (deeds inputs p.0 p.1 works) (deeds_at inputs p.0 p.1 w) false

  opened_same : (works : List Work) (w : Work) (p : Pair) → deeds_at inputs p.0 p.1 w ≡ [] → opened (works ++ w ∷ []) p ≡ opened works p
  opened_same works w p e = let a = opened_more works w p in let b = ap (opened_by works p) e in omega arith

  -- the openings of a work are those of its pair
  at_work : (works : List Work) (w : Work) (t : SessionKey × Message) → taken_of w ≡ t ∷ [] → opens_at inputs works w ≡ opened_by works (pair_of t) (deeds_of inputs t w.outcomes)
  at_work works w t e =
      ap (sum_by (λ (u : SessionKey × Message). opened_by works (pair_of u) (deeds_of inputs u w.outcomes))) e
      ∙ (let one : sum_by (λ (u : SessionKey × Message). opened_by works (pair_of u) (deeds_of inputs u w.outcomes)) (t ∷ []) ≡ opened_by works (pair_of t) (deeds_of inputs t w.outcomes) = omega arith in one)

  -- each decoded set is of a pair of the list, which stands there once
  abbrev IsCovered : List Pair → Work → Type 0
  IsCovered all w = (q : Pair) → list_any (is_at q) (pairs_in w) ≡ true → count_by (is_at q) all ≡ 1

  abbrev Adds : List Pair → List Work → Work → Type 0
  Adds all works w = sum_by (opened (works ++ w ∷ [])) all ≡ sum_by (opened works) all + opens_at inputs works w

  module _ (all : List Pair) (works : List Work) (w : Work) where
    no_message : taken_of w ≡ [] → Adds all works w
    no_message e =
        let same = sum_same (opened (works ++ w ∷ [])) (opened works) (λ p. opened_same works w p (of_nothing w p e)) all in
        let none : opens_at inputs works w ≡ 0 = ap (sum_by (λ (u : SessionKey × Message). opened_by works (pair_of u) (deeds_of inputs u w.outcomes))) e in
        omega arith

    module _ (t : SessionKey × Message) (e : taken_of w ≡ t ∷ []) where
      abbrev own : List Deed
      own = deeds_of inputs t w.outcomes

      -- no decoded set: nothing is opened
      no_set : decoded_sets w.outcomes ≡ [] → Adds all works w
      no_set empty =
          let same = sum_same (opened (works ++ w ∷ [])) (opened works) (λ p. unopened p) all in
          let none = at_work works w t e in
          let zero_ = none_opened (by_pair (pair_of t)) t.1.export t.1.parts w.outcomes empty (deeds inputs t.0 t.1.domain works) (is_live (by_pair (pair_of t)) (deeds inputs t.0 t.1.domain works)) in
          omega arith
        where
          unopened : (p : Pair) → opened (works ++ w ∷ []) p ≡ opened works p
          unopened p = by_same (is_at (pair_of t) p) refl
            where
              by_same : (b : Bool) → is_at (pair_of t) p ≡ b → opened (works ++ w ∷ []) p ≡ opened works p
              by_same true f =
                  subst (λ (x : Pair). opened (works ++ w ∷ []) x ≡ opened works x) (sym (pair_is p (pair_of t) f))
                  (let a = opened_more works w (pair_of t) in
                  let b = ap (opened_by works (pair_of t)) (of_own w t e) in
                  let c = none_opened (by_pair (pair_of t)) t.1.export t.1.parts w.outcomes empty (deeds inputs t.0 t.1.domain works) (is_live (by_pair (pair_of t)) (deeds inputs t.0 t.1.domain works)) in
                  omega arith)
              by_same false f = opened_same works w p (of_other w p t e f)

      one_pair : count_by (is_at (pair_of t)) all ≡ 1 → Adds all works w
      one_pair there =
          let d = opens_at inputs works w in
          let sums = sum_at (is_at (pair_of t)) (opened (works ++ w ∷ [])) (opened works) d 0 all (λ p f. opened_same works w p (of_other w p t e f)) (λ p f. grows p f) in
          let left = once (is_at (pair_of t)) 0 all there in
          let right = once (is_at (pair_of t)) d all there in
          omega arith
        where
          grows : (p : Pair) → is_at (pair_of t) p ≡ true → opened (works ++ w ∷ []) p + 0 ≡ opened works p + opens_at inputs works w
          grows p f =
              subst (λ (x : Pair). opened (works ++ w ∷ []) x + 0 ≡ opened works x + opens_at inputs works w) (sym (pair_is p (pair_of t) f))
              (let a = opened_more works w (pair_of t) in
              let b = ap (opened_by works (pair_of t)) (of_own w t e) in
              let c = at_work works w t e in
              omega arith)

      one_message : IsCovered all w → Adds all works w
      one_message covered = by_sets (decoded_sets w.outcomes) refl
        where
          by_sets : (sets : List DecodedSet) → decoded_sets w.outcomes ≡ sets → Adds all works w
          by_sets [] f = no_set f
          by_sets (d ∷ sets) f =
              let there : pairs_in w ≡ pair_of t ∷ [] = ap (flat_map (pair_by (decoded_sets w.outcomes))) e ∙ ap (λ l. pair_by l t ++ []) f in
              one_pair (covered (pair_of t) (ap (list_any (is_at (pair_of t))) there ∙ ap (λ b. b || false) (pair_own (pair_of t))))

    one_work : IsCovered all w → Adds all works w
    one_work covered =
        elim (taken_is w) [
          | inl e ↦ no_message e
          | inr t ↦ one_message t.0 t.1 covered
        ]

  all_works : (all : List Pair) (before works : List Work) → AllByRecursion (IsCovered all) works → sum_by (opened (before ++ works)) all ≡ sum_by (opened before) all + sum_after (opens_at inputs) before works
  all_works all before [] covered = let same = ap (λ b. sum_by (opened b) all) (append-nil before) in omega arith
  all_works all before (w ∷ works) covered =
      let one = one_work all before w covered.0 in
      let further = all_works all (before ++ w ∷ []) works covered.1 in
      let same = ap (λ b. sum_by (opened b) all) (append_assoc before (w ∷ []) works) in
      omega arith

  -- the pairs of some works cover them
  covered_by : (list : List Pair) (works : List Work) → ((q : Pair) → list_any (is_at q) (flat_map pairs_in works) ≡ true → list_any (is_at q) list ≡ true) → (all : List Pair)
      → ((q : Pair) → list_any (is_at q) list ≡ true → count_by (is_at q) all ≡ 1) → AllByRecursion (IsCovered all) works
  covered_by list [] within all there = tt
  covered_by list (w ∷ works) within all there = (
    λ q e. there q (within q (list_any-append (is_at q) (pairs_in w) (flat_map pairs_in works) ∙ ap (λ b. b || list_any (is_at q) (flat_map pairs_in works)) e)),
    covered_by list works (λ q e. within q (list_any-append (is_at q) (pairs_in w) (flat_map pairs_in works) ∙ (ap (λ b. list_any (is_at q) (pairs_in w) || b) e ∙ or-true (list_any (is_at q) (pairs_in w))))) all there,
  )

  pub opens_by_pairs : (works : List Work) → opens inputs works ≡ sum_by (opened works) (pairs works)
  opens_by_pairs works =
      let sums = all_works (pairs works) [] works (covered_by (flat_map pairs_in works) works (λ q e. e) (pairs works) (λ q e. different_there same_pair pair_test q (flat_map pairs_in works) e)) in
      let none = nothing (pairs works) in
      omega arith
    where
      nothing : (list : List Pair) → sum_by (opened []) list ≡ 0
      nothing [] = refl
      nothing (p ∷ list) = let a = sum_by-cons (opened []) p list in let further = nothing list in omega arith

  -- the template records of the pairs are at most those of the messages
  abbrev touched : List Work → Pair → ℕ
  touched works p = length (touches (deeds inputs p.0 p.1 works))

  touched_more : (works : List Work) (w : Work) (p : Pair) → touched (works ++ w ∷ []) p ≡ touched works p + length (touches (deeds_at inputs p.0 p.1 w))
  touched_more works w p =
      ap (λ l. length (touches l)) (one_more_deeds inputs p.0 p.1 works w)
      ∙ (ap length (flat_map-append touch_of (deeds inputs p.0 p.1 works) (deeds_at inputs p.0 p.1 w)) ∙ length-append (touches (deeds inputs p.0 p.1 works)) (touches (deeds_at inputs p.0 p.1 w)))

  touched_same : (works : List Work) (w : Work) (p : Pair) → deeds_at inputs p.0 p.1 w ≡ [] → touched (works ++ w ∷ []) p ≡ touched works p
  touched_same works w p e = let a = touched_more works w p in let b = ap (λ l. length (touches l)) e in omega arith

  abbrev taken_touches : Work → ℕ
  taken_touches w = sum_by (λ (t : SessionKey × Message). length (touches_in (inputs t.0.input).transport t.1)) (taken_of w)

  one_touched : (all : List Pair) → ((q : Pair) → count_by (is_at q) all ≤ 1) → (works : List Work) (w : Work) → sum_by (touched (works ++ w ∷ [])) all ≤ sum_by (touched works) all + taken_touches w
  one_touched all most works w =
      elim (taken_is w) [
        | inl e ↦ (let same = sum_same (touched (works ++ w ∷ [])) (touched works) (λ p. touched_same works w p (of_nothing w p e)) all in omega arith)
        | inr t ↦
            (let n = length (touches (deeds_of inputs t.0 w.outcomes)) in
            let sums = sum_at (is_at (pair_of t.0)) (touched (works ++ w ∷ [])) (touched works) n 0 all (λ p f. touched_same works w p (of_other w p t.0 t.1 f)) (λ p f. grows p t.0 t.1 f) in
            let right = at_most_once (is_at (pair_of t.0)) n all (most (pair_of t.0)) in
            let fewer : n ≤ length (touches_in (inputs t.0.0.input).transport t.0.1) = fewer_touches (inputs t.0.0.input).transport t.0.1.export t.0.1.parts w.outcomes in
            let own : taken_touches w ≡ sum_by (λ (u : SessionKey × Message). length (touches_in (inputs u.0.input).transport u.1)) (t.0 ∷ []) = ap (sum_by (λ (u : SessionKey × Message). length (touches_in (inputs u.0.input).transport u.1))) t.1 in
            omega arith)
      ]
    where
      grows : (p : Pair) (t : SessionKey × Message) → taken_of w ≡ t ∷ [] → is_at (pair_of t) p ≡ true → touched (works ++ w ∷ []) p + 0 ≡ touched works p + length (touches (deeds_of inputs t w.outcomes))
      grows p t e f =
          subst (λ (x : Pair). touched (works ++ w ∷ []) x + 0 ≡ touched works x + length (touches (deeds_of inputs t w.outcomes))) (sym (pair_is p (pair_of t) f))
          (let a = touched_more works w (pair_of t) in
          let b = ap (λ l. length (touches l)) (of_own w t e) in
          omega arith)

  all_touched : (all : List Pair) → ((q : Pair) → count_by (is_at q) all ≤ 1) → (before works : List Work) → sum_by (touched (before ++ works)) all ≤ sum_by (touched before) all + touches_taken inputs works
  all_touched all most before [] = let same = ap (λ b. sum_by (touched b) all) (append-nil before) in omega arith
  all_touched all most before (w ∷ works) =
      let one = one_touched all most before w in
      let further = all_touched all most (before ++ w ∷ []) works in
      let same = ap (λ b. sum_by (touched b) all) (append_assoc before (w ∷ []) works) in
      let cons = sum_by-cons taken_touches w works in
      omega arith

  -- Openings are at most the pairs with a decoded set, and the template records.
  pub opens_most : (works : List Work) → opens inputs works ≤ length (pairs works) + touches_taken inputs works
  opens_most works =
      let all = pairs works in
      let a = opens_by_pairs works in
      let b = sum_one_more (opened works) (touched works) (λ p. bounded p) all in
      let c = all_touched all (λ q. different_once same_pair pair_test q (flat_map pairs_in works)) [] works in
      let d = nothing all in
      omega arith
    where
      bounded : (p : Pair) → opened works p ≤ 1 + touched works p
      bounded p =
          let a = openings_bounded (by_pair p) (deeds inputs p.0 p.1 works) in
          let b = changes_most (by_pair p) [] (touches (deeds inputs p.0 p.1 works)) in
          omega arith

      nothing : (list : List Pair) → sum_by (touched []) list ≡ 0
      nothing [] = refl
      nothing (p ∷ list) = let a = sum_by-cons (touched []) p list in let further = nothing list in omega arith
