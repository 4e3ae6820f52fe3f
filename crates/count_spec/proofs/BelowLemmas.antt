-- The snapshots in use are at most those that were opened before.
use Rattle.std.proofs.Common.{◌≡◌, ℕ, zero, suc, ◌+◌, ◌≤◌, ◌<◌, inl, inr, Bool, true, false, not, ◌&&◌, cond, List, [], ◌∷◌, ◌++◌, Some, None, length, refl, ap, sym, subst, ◌∙◌, map, take, drop, arith, append_assoc, append-nil}
use Rattle.std.specs.Prelude.{Ok, Err, Option, ◌==◌, sum_by, flat_map, zip}
use Rattle.std.proofs.lemmas.Bool.{and_parts, and_from, eqb-true}
use Rattle.std.proofs.lemmas.Grind.{flat_map-append}
use Rattle.std.proofs.lemmas.List.{map-append, take-append-drop}
use Rattle.col_base.specs.declared.base.SessionKey.{SessionKey}
use Rattle.col_base.specs.declared.base.Transport.{Transport}
use Rattle.wire_spec.specs.Content.{Message, Touch}
use Rattle.arrival_spec.specs.Arrival.{input_of}
use Rattle.arrival_spec.specs.Arrival.Arrival.{SessionOpen, Raw, SessionClose, Periodic}
use Rattle.arrival_spec.specs.Order.{same_key, opened_in, opened_keys, open_keys, has_key, may_come, in_order_after, are_in_order}
use Rattle.run_spec.specs.Read.{ReadArrival}
use Rattle.run_spec.specs.Judge.{Inputs, Judgement, different}
use Rattle.run_spec.specs.Judge.Judgement.{Malformed, Crowded, Late, Taken}
use Rattle.run_spec.specs.Work.{Work}
use Rattle.run_spec.proofs.ApartLemmas.{same_is}
use Rattle.count_spec.specs.Counts.{taken_as, taken_of, sum_after}
use Rattle.count_spec.specs.Openings.{Deed, deeds_of_set, deeds_of, deeds, touch_of, live_after, is_live, opening_by, openings_after, opens_at, opens, ended_after, domain_at, live_at, live_in, ended_in, cut_arrival, first_sets, in_use, pairs, touches_taken}
use Rattle.count_spec.specs.Openings.Deed.{Does, Uses}
use Rattle.count_spec.specs.More.{one_if, IsOpenOnce}
use Rattle.template_spec.specs.Changes.{changes}
use Rattle.count_spec.proofs.DeedLemmas.{one_more_arrival}
use Rattle.count_spec.proofs.MoreLemmas.{one_more_opens}
use Rattle.count_spec.proofs.PairLemmas.{taken_is, of_own, openings_on, opens_most}
use Rattle.count_spec.proofs.InUseLemmas.{live_more, used_more, live_dropped, live_tick, live_closed, live_opened, used_at, used_cut}
use Rattle.std.proofs.lemmas.List.Folds.{list_any-append}
use Rattle.count_spec.proofs.OpenLemmas.{count_of, Sound, or_parts, not_true, opened_more, at_end, arrivals, message_once, closing_once}
use Rattle.count_spec.proofs.OtherLemmas.{taken_from, live_aside}

abbrev touches : List Deed → List (ℕ × Touch)
touches list = flat_map touch_of list

-- one template record, which changes the table or not: what was used was live
ends_live : (live used changed : Bool) → one_if used ≤ one_if live → one_if (live && not changed) + cond (used && changed) 1 0 ≤ one_if live
ends_live true true true le = omega arith
ends_live true true false le = omega arith
ends_live true false true le = omega arith
ends_live true false false le = omega arith
ends_live false true changed le = absurd (omega arith)
ends_live false false true le = omega arith
ends_live false false false le = omega arith

still_live : (live used changed : Bool) → one_if used ≤ one_if live → one_if (used && not changed) ≤ one_if (live && not changed)
still_live true true true le = omega arith
still_live true true false le = omega arith
still_live true false true le = omega arith
still_live true false false le = omega arith
still_live false true changed le = absurd (omega arith)
still_live false false true le = omega arith
still_live false false false le = omega arith

opens_live : (live : Bool) → 1 ≤ one_if live + opening_by live Uses
opens_live true = omega arith
opens_live false = omega arith

module _ (transport : Transport) where
  -- deeds leave and end no more than was live and is opened
  most : (before list : List Deed) (live used : Bool) → one_if used ≤ one_if live
      → one_if (live_after transport before live list) + ended_after transport before used list ≤ one_if live + openings_after transport before live list
  most before [] live used le = omega arith
  most before (Does t ∷ list) live used le =
      let changed = changes transport (touches before) t in
      let further = most (before ++ Does t ∷ []) list (live && not changed) (used && not changed) (still_live live used changed le) in
      let one = ends_live live used changed le in
      omega arith
  most before (Uses ∷ list) live used le =
      let further = most (before ++ Uses ∷ []) list true true (omega arith) in
      let one = opens_live live in
      omega arith

-- one work more in order
order_more : (before list : List ReadArrival) (a : ReadArrival) → in_order_after before (list ++ a ∷ []) ≡ (in_order_after before list && may_come (before ++ list) a)
order_more before [] a = and_true (may_come before a) ∙ ap (λ l. may_come l a) (sym (append-nil before))
  where
    and_true : (b : Bool) → (b && true) ≡ b
    and_true true = refl
    and_true false = refl
order_more before (b ∷ list) a =
    ap (λ c. may_come before b && c) (order_more (before ++ b ∷ []) list a ∙ ap (λ l. in_order_after (before ++ b ∷ []) list && may_come l a) (append_assoc before (b ∷ []) list))
    ∙ grouped (may_come before b) (in_order_after (before ++ b ∷ []) list) (may_come (before ++ b ∷ list) a)
  where
    grouped : (x y z : Bool) → (x && (y && z)) ≡ ((x && y) && z)
    grouped true y z = refl
    grouped false y z = refl

abbrev InOrder : List Work → Type 0
InOrder works = are_in_order (arrivals works) ≡ true

order_of : (works : List Work) (w : Work) → are_in_order (arrivals (works ++ w ∷ [])) ≡ (are_in_order (arrivals works) && may_come (arrivals works) w.arrival)
order_of works w = ap are_in_order (map-append (λ (v : Work). v.arrival) works (w ∷ [])) ∙ order_more [] (arrivals works) w.arrival

front_in_order : (works : List Work) (w : Work) → InOrder (works ++ w ∷ []) → InOrder works
front_in_order works w e = (and_parts (are_in_order (arrivals works)) (may_come (arrivals works) w.arrival) (sym (order_of works w) ∙ e)).0

-- what holds of no works, and of one more in order, holds of works in order
in_order : (P : List Work → Type 0) → P [] → ((works : List Work) (w : Work) → InOrder (works ++ w ∷ []) → P works → P (works ++ w ∷ [])) → (works : List Work) → InOrder works → P works
in_order P none more works e = along [] works refl none e
  where
    along : (before list : List Work) → InOrder before → P before → in_order_after (arrivals before) (arrivals list) ≡ true → P (before ++ list)
    along before [] o p e = subst P (sym (append-nil before)) p
    along before (w ∷ list) o p e =
        let parts = and_parts (may_come (arrivals before) w.arrival) (in_order_after (arrivals before ++ w.arrival ∷ []) (arrivals list)) e in
        let next : InOrder (before ++ w ∷ []) = order_of before w ∙ and_from (are_in_order (arrivals before)) (may_come (arrivals before) w.arrival) o parts.0 in
        let rest : in_order_after (arrivals (before ++ w ∷ [])) (arrivals list) ≡ true = ap (λ l. in_order_after l (arrivals list)) (map-append (λ (v : Work). v.arrival) before (w ∷ [])) ∙ parts.1 in
        subst P (append_assoc before (w ∷ []) list) (along (before ++ w ∷ []) list next (more before w next p) rest)

last_may_come : (works : List Work) (w : Work) → InOrder (works ++ w ∷ []) → Sound (opened_keys (arrivals works)) (open_keys (arrivals works)) × (may_come (arrivals works) w.arrival ≡ true)
last_may_come works w o = at_end (arrivals works) w.arrival (ap are_in_order (sym (map-append (λ (v : Work). v.arrival) works (w ∷ []))) ∙ o)

-- a session that never opened has no messages
abbrev IsBare : SessionKey → List Work → Type 0
IsBare q works = has_key q (opened_keys (arrivals works)) ≡ false → flat_map (domain_at q) works ≡ []

no_messages : (q : SessionKey) (works : List Work) → InOrder works → IsBare q works
no_messages q works o = in_order (IsBare q) (λ e. refl) more works o
  where
    more : (works : List Work) (w : Work) → InOrder (works ++ w ∷ []) → IsBare q works → IsBare q (works ++ w ∷ [])
    more works w o before e =
        flat_map-append (domain_at q) works (w ∷ []) ∙ (ap (λ l. l ++ (domain_at q w ++ [])) (before never) ∙ (append-nil (domain_at q w) ∙ nothing))
      where
        opened : opened_keys (arrivals (works ++ w ∷ [])) ≡ opened_keys (arrivals works) ++ opened_in w.arrival
        opened = ap opened_keys (map-append (λ (v : Work). v.arrival) works (w ∷ [])) ∙ opened_more (arrivals works) w.arrival

        never : has_key q (opened_keys (arrivals works)) ≡ false
        never =
            (or_parts (has_key q (opened_keys (arrivals works))) (has_key q (opened_in w.arrival))
            (sym (list_any-append (same_key q) (opened_keys (arrivals works)) (opened_in w.arrival)) ∙ (sym (ap (has_key q) opened) ∙ e))).0

        nothing : domain_at q w ≡ []
        nothing =
            elim (taken_is w) [
              | inl n ↦ ap (flat_map (λ (u : SessionKey × Message). cond (same_key u.0 q) (u.1.domain ∷ []) [])) n
              | inr t ↦
                  ap (flat_map (λ (u : SessionKey × Message). cond (same_key u.0 q) (u.1.domain ∷ []) [])) t.1
                  ∙ (append-nil (cond (same_key t.0.0 q) (t.0.1.domain ∷ []) []) ∙ by_test t.0 (message_once works w t.0.0 (Ok t.0.1) o (taken_from w.arrival w.judgement t.0 t.1)) (same_key t.0.0 q) refl)
            ]
          where
            by_test : (t : SessionKey × Message) → IsOpenOnce t.0 works → (b : Bool) → same_key t.0 q ≡ b → cond (same_key t.0 q) (t.1.domain ∷ []) [] ≡ []
            by_test t there true f =
                let none = (last_may_come works w o).0.known q never in
                let one = subst (λ (k : SessionKey). count_of k (open_keys (arrivals works)) ≡ 1) (same_is t.0 q f) there in
                absurd (omega arith)
            by_test t there false f = ap (λ c. cond c (t.1.domain ∷ []) []) f

module _ (inputs : Inputs) where
  module _ (works : List Work) (w : Work) (key : SessionKey) (m : Message) (e : taken_of w ≡ (key, m) ∷ []) where
    abbrev over : Transport
    over = (inputs key.input).transport

    abbrev past : List Deed
    past = deeds inputs key m.domain works

    abbrev own : List Deed
    own = deeds_of inputs (key, m) w.outcomes

    opened_here : opens_at inputs works w ≡ openings_after over past (is_live over past) own
    opened_here =
        let one = ap (sum_by (λ (t : SessionKey × Message). openings_after (inputs t.0.input).transport (deeds inputs t.0 t.1.domain works) (is_live (inputs t.0.input).transport (deeds inputs t.0 t.1.domain works)) (deeds_of inputs t w.outcomes))) e in
        omega arith

    live_here : one_if (live_at inputs key m.domain (works ++ w ∷ [])) ≡ one_if (live_after over past (is_live over past) own)
    live_here = ap one_if (one_more_arrival inputs key m.domain over works w ∙ ap (live_after over past (is_live over past)) (of_own inputs w (key, m) e))

    left_and_ended : one_if (live_at inputs key m.domain (works ++ w ∷ [])) + ended_in inputs works (key, m) w.outcomes ≤ one_if (live_at inputs key m.domain works) + opens_at inputs works w
    left_and_ended =
        let a = opened_here in
        let b = live_here in
        let c = most over past own (is_live over past) false (omega arith) in
        omega arith

  rises : (input : ℕ) (works : List Work) (w : Work) → InOrder (works ++ w ∷ []) → live_in inputs input (works ++ w ∷ []) ≤ live_in inputs input works + opens_at inputs works w
  rises input works w o = by_input (input_of w.arrival == input) refl
    where
      own_input : (key : SessionKey) → key.input ≡ input → live_in inputs key.input (works ++ w ∷ []) ≤ live_in inputs key.input works + opens_at inputs works w
          → live_in inputs input (works ++ w ∷ []) ≤ live_in inputs input works + opens_at inputs works w
      own_input key p le = subst (λ (i : ℕ). live_in inputs i (works ++ w ∷ []) ≤ live_in inputs i works + opens_at inputs works w) p le

      by_arrival : (a : ReadArrival) → w.arrival ≡ a → input_of w.arrival ≡ input → live_in inputs input (works ++ w ∷ []) ≤ live_in inputs input works + opens_at inputs works w
      by_arrival (SessionOpen key transport) e i =
          let never = not_true (has_key key (opened_keys (arrivals works))) (ap (may_come (arrivals works)) (sym e) ∙ (last_may_come works w o).1) in
          let none = ap different (no_messages key works (front_in_order works w o) never) in
          let same = live_opened inputs works w key transport e none in
          own_input key (sym (ap (λ (a : ReadArrival). input_of a) e) ∙ i) (omega arith)
      by_arrival (Periodic j seconds) e i = let same = live_tick inputs input j seconds works w e in omega arith
      by_arrival (SessionClose key) e i =
          let less = live_closed inputs works w key e (closing_once works w key o e) in
          own_input key (sym (ap (λ (a : ReadArrival). input_of a) e) ∙ i) (omega arith)
      by_arrival (Raw key read) e i =
          elim (taken_is w) [
            | inl n ↦ (let same = live_dropped inputs input works w key read e n in omega arith)
            | inr t ↦
                (let from = taken_from w.arrival w.judgement t.0 t.1 in
                let moved = live_more inputs works w t.0.0 t.0.1 t.1 (message_once works w t.0.0 (Ok t.0.1) o from) in
                let few = left_and_ended works w t.0.0 t.0.1 t.1 in
                own_input t.0.0 (sym (ap (λ (a : ReadArrival). input_of a) from) ∙ i) (omega arith))
          ]

      by_input : (b : Bool) → (input_of w.arrival == input) ≡ b → live_in inputs input (works ++ w ∷ []) ≤ live_in inputs input works + opens_at inputs works w
      by_input true same = by_arrival w.arrival refl (eqb-true (input_of w.arrival) input same)
      by_input false other = let kept = live_aside inputs input works w other in omega arith

  -- What is live was opened.
  pub live_below : (input : ℕ) (works : List Work) → are_in_order (map (λ (v : Work). v.arrival) works) ≡ true → live_in inputs input works ≤ opens inputs works
  live_below input works o =
      in_order (λ (list : List Work). live_in inputs input list ≤ opens inputs list) (omega arith)
      (λ list w next le. (let a = rises input list w next in let b = one_more_opens inputs list w in omega arith)) works o

  cut_none : (n : ℕ) (a : ReadArrival) (j : Option Judgement) → taken_as a j ≡ [] → taken_as (cut_arrival n a) j ≡ []
  cut_none n (SessionOpen key transport) j e = refl
  cut_none n (SessionClose key) j e = refl
  cut_none n (Periodic i seconds) j e = refl
  cut_none n (Raw key (Err fault)) j e = refl
  cut_none n (Raw key (Ok m)) None e = refl
  cut_none n (Raw key (Ok m)) (Some (Malformed fault)) e = refl
  cut_none n (Raw key (Ok m)) (Some Crowded) e = refl
  cut_none n (Raw key (Ok m)) (Some Late) e = refl
  cut_none n (Raw key (Ok m)) (Some Taken) e = absurd cc

  -- Before a set no more are in use than the sets before it opened.
  pub used_below : (before after : List Work) (w : Work) (n : ℕ) → are_in_order (map (λ (v : Work). v.arrival) (before ++ w ∷ [])) ≡ true
      → in_use inputs (before ++ w ∷ after) (length before) n ≤ opens inputs (before ++ first_sets n w ∷ [])
  used_below before after w n o =
      elim (taken_is w) [
        | inl none ↦
            (let at = used_at inputs before after w n in
            let zero_ = ap (sum_by (λ (t : SessionKey × Message). live_in inputs t.0.input (before ++ first_sets n w ∷ []) + ended_in inputs before t (take n w.outcomes))) (cut_none n w.arrival w.judgement none) in
            omega arith)
        | inr t ↦
            (let at = used_at inputs before after w n in
            let first : Message = record t.0.1 { parts = take n t.0.1.parts } in
            let cut = used_cut w t.0.0 t.0.1 n t.1 in
            let from = taken_from w.arrival w.judgement t.0 t.1 in
            let used = used_more inputs before (first_sets n w) t.0.0 first cut (message_once before w t.0.0 (Ok t.0.1) o from) in
            let few = left_and_ended before (first_sets n w) t.0.0 first cut in
            let below = live_below t.0.0.input before (front_in_order before w o) in
            let more = one_more_opens inputs before (first_sets n w) in
            omega arith)
      ]

zip_take : {X Y : Type 0} (n : ℕ) (xs : List X) (ys : List Y) → zip (take n xs) (take n ys) ≡ take n (zip xs ys)
zip_take zero xs ys = refl
zip_take (suc n) [] ys = refl
zip_take (suc n) (x ∷ xs) [] = refl
zip_take (suc n) (x ∷ xs) (y ∷ ys) = ap (λ l. (x, y) ∷ l) (zip_take n xs ys)

sums_on : (f : List Work → Work → ℕ) (before xs ys : List Work) → sum_after f before (xs ++ ys) ≡ sum_after f before xs + sum_after f (before ++ xs) ys
sums_on f before [] ys = let same = ap (λ b. sum_after f b ys) (append-nil before) in omega arith
sums_on f before (x ∷ xs) ys =
    let further = sums_on f (before ++ x ∷ []) xs ys in
    let same = ap (λ b. sum_after f b ys) (append_assoc before (x ∷ []) xs) in
    omega arith

module _ (inputs : Inputs) where
  first_opens : (before : List Work) (w : Work) (n : ℕ) → opens_at inputs before (first_sets n w) ≤ opens_at inputs before w
  first_opens before w n =
      elim (taken_is w) [
        | inl none ↦
            (let zero_ = ap (sum_by (λ (t : SessionKey × Message). openings_after (inputs t.0.input).transport (deeds inputs t.0 t.1.domain before) (is_live (inputs t.0.input).transport (deeds inputs t.0 t.1.domain before)) (deeds_of inputs t (take n w.outcomes)))) (cut_none inputs n w.arrival w.judgement none) in
            omega arith)
        | inr t ↦
            (let first : Message = record t.0.1 { parts = take n t.0.1.parts } in
            let a = opened_here inputs before (first_sets n w) t.0.0 first (used_cut w t.0.0 t.0.1 n t.1) in
            let b = opened_here inputs before w t.0.0 t.0.1 t.1 in
            let past = deeds inputs t.0.0 t.0.1.domain before in
            let transport = (inputs t.0.0.input).transport in
            let all = zip t.0.1.parts w.outcomes in
            let c = ap (λ l. openings_after transport past (is_live transport past) (flat_map (deeds_of_set transport t.0.1.export) l)) (zip_take n t.0.1.parts w.outcomes) in
            let d = ap (openings_after transport past (is_live transport past)) (ap (flat_map (deeds_of_set transport t.0.1.export)) (sym (take-append-drop n all)) ∙ flat_map-append (deeds_of_set transport t.0.1.export) (take n all) (drop n all)) in
            let f = openings_on transport past (flat_map (deeds_of_set transport t.0.1.export) (take n all)) (flat_map (deeds_of_set transport t.0.1.export) (drop n all)) (is_live transport past) in
            omega arith)
      ]

  -- Openings before a set are some of all.
  pub opens_grow : (before after : List Work) (w : Work) (n : ℕ) → opens inputs (before ++ first_sets n w ∷ []) ≤ opens inputs (before ++ w ∷ after)
  opens_grow before after w n =
      let a = one_more_opens inputs before (first_sets n w) in
      let b = one_more_opens inputs before w in
      let c = first_opens before w n in
      let d = sums_on (opens_at inputs) [] (before ++ w ∷ []) after in
      let e = ap (opens inputs) (append_assoc before (w ∷ []) after) in
      omega arith

  -- Where a set opens one, pairs and template records are more than what is in use.
  pub used_fits : (before after : List Work) (w : Work) (n : ℕ) → are_in_order (map (λ (v : Work). v.arrival) (before ++ w ∷ [])) ≡ true
      → opens inputs (before ++ first_sets n w ∷ []) < opens inputs (before ++ first_sets (1 + n) w ∷ [])
      → in_use inputs (before ++ w ∷ after) (length before) n < length (pairs (before ++ w ∷ after)) + touches_taken inputs (before ++ w ∷ after)
  used_fits before after w n o rise =
      let a = used_below inputs before after w n o in
      let b = opens_grow before after w (1 + n) in
      let c = opens_most inputs (before ++ w ∷ after) in
      omega arith
