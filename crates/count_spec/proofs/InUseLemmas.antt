-- The live snapshots of an input change at the session and domain of a message alone.
use Rattle.std.proofs.Common.{◌≡◌, ℕ, ◌+◌, inl, inr, Bool, true, false, not, ◌&&◌, ◌||◌, cond, List, [], ◌∷◌, ◌++◌, Some, None, length, refl, ap, sym, subst, ◌∙◌, map, take, arith, append-nil}
use Rattle.std.specs.Prelude.{Ok, Err, Result, Option, ◌==◌, sum_by, count_by, filter, flat_map}
use Rattle.std.specs.List.{list_any}
use Rattle.std.proofs.lemmas.Bool.{eqb-true, eq-eqb}
use Rattle.std.proofs.lemmas.Grind.{flat_map-append}
use Rattle.std.proofs.lemmas.List.{map-append}
use Rattle.std.proofs.lemmas.List.Elements.{filter-append}
use Rattle.std.proofs.lemmas.List.Folds.{list_any-append}
use Rattle.std.proofs.lemmas.List.Sums.{fold-append, sum_by-cons, sum_by_push}
use Rattle.std.proofs.Math.Bool.{and-false}
use Rattle.std.proofs.Math.Seq.{take-append_seam, drop-append_seam}
use Rattle.col_base.specs.declared.base.SessionKey.{SessionKey}
use Rattle.col_base.specs.declared.base.Transport.{Transport}
use Rattle.wire_spec.specs.declared.malformed.Malformed.{Malformed as Fault}
use Rattle.wire_spec.specs.Content.{Message}
use Rattle.arrival_spec.specs.Arrival.Arrival.{SessionOpen, Raw, SessionClose, Periodic}
use Rattle.run_spec.specs.Read.{ReadArrival}
use Rattle.arrival_spec.specs.Order.{same_key, open_by, open_keys}
use Rattle.run_spec.specs.Judge.{Inputs, Judgement, different}
use Rattle.run_spec.specs.Judge.Judgement.{Malformed, Crowded, Late, Taken}
use Rattle.run_spec.specs.Work.{Work}
use Rattle.run_spec.proofs.AlikeLemmas.{among_different}
use Rattle.run_spec.proofs.ApartLemmas.{same_is, own_is}
use Rattle.count_spec.specs.Counts.{taken_as, taken_of}
use Rattle.count_spec.specs.Openings.{deeds, deeds_at, deeds_of, is_live, open_after, open_of, domain_at, domains_of, live_at, live_of, live_in, ended_in, cut_arrival, first_sets, in_use_by, in_use}
use Rattle.count_spec.specs.More.{one_if, IsOpenOnce}
use Rattle.count_spec.proofs.MoreLemmas.{one_more_deeds}
use Rattle.count_spec.proofs.PairLemmas.{taken_is, of_nothing, of_other, of_one}
use Rattle.count_spec.proofs.SumLemmas.{IsTest, where_it, sum_at, nowhere, once, none_counted, some_counted, grown_by, different_once}

number_test : IsTest (λ (m n : ℕ). m == n)
number_test = record { is = λ a b e. eqb-true a b e; own = λ a. eq-eqb a a refl }

-- two keys are the same both ways
pub other_way : (a b : SessionKey) → same_key a b ≡ false → same_key b a ≡ false
other_way a b e = by_same (same_key b a) refl
  where
    by_same : (c : Bool) → same_key b a ≡ c → same_key b a ≡ false
    by_same true f =
        let same : b ≡ a = same_is b a f in
        let no : true ≡ false = sym (ap (λ (x : SessionKey). same_key a x) same ∙ own_is a) ∙ e in
        absurd cc
    by_same false f = f

-- a session that is none of some is in none of their counts
abbrev pub others_of : SessionKey → List SessionKey → List SessionKey
others_of key keys = filter (λ (k : SessionKey). not (same_key k key)) keys

abbrev here_of : SessionKey → (SessionKey → ℕ) → SessionKey → ℕ
here_of key f = where_it (λ (k : SessionKey). same_key k key) (f key)

removed : (key : SessionKey) (f : SessionKey → ℕ) (keys : List SessionKey) → sum_by f (filter (λ (k : SessionKey). not (same_key k key)) keys) + sum_by (where_it (λ (k : SessionKey). same_key k key) (f key)) keys ≡ sum_by f keys
removed key f [] = refl
removed key f (k ∷ keys) =
    let a = sum_by-cons f k keys in
    let b = sum_by-cons (where_it (λ (x : SessionKey). same_key x key) (f key)) k keys in
    by_same (same_key k key) refl a b (removed key f keys)
  where
    by_same : (c : Bool) → same_key k key ≡ c → sum_by f (k ∷ keys) ≡ f k + sum_by f keys → sum_by (here_of key f) (k ∷ keys) ≡ here_of key f k + sum_by (here_of key f) keys → sum_by f (others_of key keys) + sum_by (here_of key f) keys ≡ sum_by f keys
        → sum_by f (cond (not c) (k ∷ (others_of key keys)) (others_of key keys)) + sum_by (here_of key f) (k ∷ keys) ≡ sum_by f (k ∷ keys)
    by_same true e a b further =
        let own : here_of key f k ≡ f k = ap (λ d. cond d (f key) 0) e ∙ ap f (sym (same_is k key e)) in
        omega arith
    by_same false e a b further =
        let none : here_of key f k ≡ 0 = ap (λ d. cond d (f key) 0) e in
        let c = sum_by-cons f k (others_of key keys) in
        omega arith

-- the keys of an input alone
abbrev pub own_keys : ℕ → List SessionKey → List SessionKey
own_keys input keys = filter (λ (k : SessionKey). k.input == input) keys

pub swapped : (input : ℕ) (key : SessionKey) (keys : List SessionKey) → own_keys input (others_of key keys) ≡ others_of key (own_keys input keys)
swapped input key [] = refl
swapped input key (k ∷ keys) = by_tests (same_key k key) (k.input == input) refl refl (swapped input key keys)
  where
    by_tests : (a b : Bool) → same_key k key ≡ a → (k.input == input) ≡ b → own_keys input (others_of key keys) ≡ others_of key (own_keys input keys)
        → own_keys input (cond (not a) (k ∷ others_of key keys) (others_of key keys)) ≡ others_of key (cond b (k ∷ own_keys input keys) (own_keys input keys))
    by_tests true true e f further = further ∙ ap (λ c. cond (not c) (k ∷ others_of key (own_keys input keys)) (others_of key (own_keys input keys))) (sym e)
    by_tests true false e f further = further
    by_tests false true e f further =
        ap (λ c. cond c (k ∷ own_keys input (others_of key keys)) (own_keys input (others_of key keys))) f
        ∙ (ap (λ l. k ∷ l) further ∙ ap (λ c. cond (not c) (k ∷ others_of key (own_keys input keys)) (others_of key (own_keys input keys))) (sym e))
    by_tests false false e f further = ap (λ c. cond c (k ∷ own_keys input (others_of key keys)) (own_keys input (others_of key keys))) f ∙ further

-- a session stands as often among those of its input
of_input : (key : SessionKey) (keys : List SessionKey) → count_by (λ (k : SessionKey). same_key k key) (own_keys key.input keys) ≡ count_by (λ (k : SessionKey). same_key k key) keys
of_input key [] = refl
of_input key (k ∷ keys) =
    let a = sum_by-cons (λ (x : SessionKey). one_if (same_key x key)) k keys in
    by_tests (k.input == key.input) refl a (of_input key keys)
  where
    by_tests : (b : Bool) → (k.input == key.input) ≡ b → count_by (λ (x : SessionKey). same_key x key) (k ∷ keys) ≡ one_if (same_key k key) + count_by (λ (x : SessionKey). same_key x key) keys
        → count_by (λ (x : SessionKey). same_key x key) (own_keys key.input keys) ≡ count_by (λ (x : SessionKey). same_key x key) keys
        → count_by (λ (x : SessionKey). same_key x key) (cond b (k ∷ own_keys key.input keys) (own_keys key.input keys)) ≡ count_by (λ (x : SessionKey). same_key x key) (k ∷ keys)
    by_tests true e a further = let c = sum_by-cons (λ (x : SessionKey). one_if (same_key x key)) k (own_keys key.input keys) in omega arith
    by_tests false e a further =
        let none : one_if (same_key k key) ≡ one_if false = ap one_if (ap (λ c. c && k.number == key.number) e) in
        omega arith

module _ (inputs : Inputs) where
  -- the open sessions, one arrival later
  pub keys_more : (works : List Work) (w : Work) → open_after (works ++ w ∷ []) ≡ open_by (open_after works) w.arrival
  keys_more works w = ap open_keys (map-append (λ (v : Work). v.arrival) works (w ∷ [])) ∙ fold-append (open_by {M = Result Message Fault}) [] (map (λ (v : Work). v.arrival) works) (w.arrival ∷ [])

  taken_keeps : (keys : List SessionKey) (a : ReadArrival) (j : Option Judgement) (t : SessionKey × Message) → taken_as a j ≡ t ∷ [] → open_by keys a ≡ keys
  taken_keeps keys (SessionOpen key transport) j t e = absurd cc
  taken_keeps keys (SessionClose key) j t e = absurd cc
  taken_keeps keys (Periodic i seconds) j t e = refl
  taken_keeps keys (Raw key read) j t e = refl

  module _ (works : List Work) (w : Work) where
    abbrev later : List Work
    later = works ++ w ∷ []

    domains_more : (key : SessionKey) → domains_of key later ≡ different (flat_map (domain_at key) works ++ domain_at key w)
    domains_more key = ap different (flat_map-append (domain_at key) works (w ∷ []) ∙ ap (λ l. flat_map (domain_at key) works ++ l) (append-nil (domain_at key w)))

    live_same : (key : SessionKey) (domain : ℕ) → deeds_at inputs key domain w ≡ [] → live_at inputs key domain later ≡ live_at inputs key domain works
    live_same key domain e =
        ap (is_live (inputs key.input).transport) (one_more_deeds inputs key domain works w ∙ (ap (λ l. deeds inputs key domain works ++ l) e ∙ append-nil (deeds inputs key domain works)))

    -- a work that gives a session nothing leaves its number
    nothing_new : (key : SessionKey) → domain_at key w ≡ [] → ((domain : ℕ) → deeds_at inputs key domain w ≡ []) → live_of inputs later key ≡ live_of inputs works key
    nothing_new key e none =
        let domains : domains_of key later ≡ domains_of key works = domains_more key ∙ ap different (ap (λ l. flat_map (domain_at key) works ++ l) e ∙ append-nil (flat_map (domain_at key) works)) in
        ap (count_by (λ (d : ℕ). live_at inputs key d later)) domains ∙ count_same (λ d. live_same key d (none d)) (domains_of key works)
      where
        count_same : ((d : ℕ) → live_at inputs key d later ≡ live_at inputs key d works) → (list : List ℕ) → count_by (λ (d : ℕ). live_at inputs key d later) list ≡ count_by (λ (d : ℕ). live_at inputs key d works) list
        count_same same [] = refl
        count_same same (d ∷ list) =
            let a = sum_by-cons (λ (x : ℕ). one_if (live_at inputs key x later)) d list in
            let b = sum_by-cons (λ (x : ℕ). one_if (live_at inputs key x works)) d list in
            let one = ap one_if (same d) in
            let further = count_same same list in
            omega arith

    pub nothing_of : taken_of w ≡ [] → (key : SessionKey) → live_of inputs later key ≡ live_of inputs works key
    nothing_of e key = nothing_new key (ap (flat_map (λ (t : SessionKey × Message). cond (same_key t.0 key) (t.1.domain ∷ []) [])) e) (λ d. of_nothing inputs w (key, d) e)

    sums_same : ((key : SessionKey) → live_of inputs later key ≡ live_of inputs works key) → (keys : List SessionKey) → sum_by (live_of inputs later) keys ≡ sum_by (live_of inputs works) keys
    sums_same same [] = refl
    sums_same same (k ∷ keys) =
        let a = sum_by-cons (live_of inputs later) k keys in
        let b = sum_by-cons (live_of inputs works) k keys in
        let one = same k in
        let further = sums_same same keys in
        omega arith

    module _ (key : SessionKey) (m : Message) (e : taken_of w ≡ (key, m) ∷ []) where
      abbrev was : ℕ
      was = one_if (live_at inputs key m.domain works)

      abbrev now : ℕ
      now = one_if (live_at inputs key m.domain later)

      domain_here : (k : SessionKey) → domain_at k w ≡ cond (same_key key k) (m.domain ∷ []) []
      domain_here k = ap (flat_map (λ (t : SessionKey × Message). cond (same_key t.0 k) (t.1.domain ∷ []) [])) e ∙ append-nil (cond (same_key key k) (m.domain ∷ []) [])

      pub other_session : (k : SessionKey) → same_key k key ≡ false → live_of inputs later k ≡ live_of inputs works k
      other_session k f =
          nothing_new k (domain_here k ∙ ap (λ c. cond c (m.domain ∷ []) []) (other_way k key f)) (λ d. of_other inputs w (k, d) (key, m) e (ap (λ c. c && d == m.domain) f))

      other_domain : (d : ℕ) → (d == m.domain) ≡ false → one_if (live_at inputs key d later) ≡ one_if (live_at inputs key d works)
      other_domain d f = ap one_if (live_same key d (of_other inputs w (key, d) (key, m) e (ap (λ c. same_key key key && c) f ∙ and-false (same_key key key))))

      own_domain : (d : ℕ) → (d == m.domain) ≡ true → one_if (live_at inputs key d later) + was ≡ one_if (live_at inputs key d works) + now
      own_domain d f =
          subst (λ (x : ℕ). one_if (live_at inputs key x later) + was ≡ one_if (live_at inputs key x works) + now) (sym (eqb-true d m.domain f))
          (let swap : now + was ≡ was + now = omega arith in swap)

      -- a domain that no message was of has no deeds, and so no live snapshot
      no_deeds : (list : List Work) → list_any (λ (d : ℕ). d == m.domain) (flat_map (domain_at key) list) ≡ false → deeds inputs key m.domain list ≡ []
      no_deeds [] f = refl
      no_deeds (v ∷ list) f =
          let parts : list_any (λ (d : ℕ). d == m.domain) (domain_at key v) || list_any (λ (d : ℕ). d == m.domain) (flat_map (domain_at key) list) ≡ false =
          sym (list_any-append (λ (d : ℕ). d == m.domain) (domain_at key v) (flat_map (domain_at key) list)) ∙ f in
          ap (λ l. l ++ deeds inputs key m.domain list) (by_taken (or_first (list_any (λ (d : ℕ). d == m.domain) (domain_at key v)) (list_any (λ (d : ℕ). d == m.domain) (flat_map (domain_at key) list)) parts))
          ∙ no_deeds list (or_second (list_any (λ (d : ℕ). d == m.domain) (domain_at key v)) (list_any (λ (d : ℕ). d == m.domain) (flat_map (domain_at key) list)) parts)
        where
          or_first : (a b : Bool) → a || b ≡ false → a ≡ false
          or_first true b g = absurd cc
          or_first false b g = refl

          or_second : (a b : Bool) → a || b ≡ false → b ≡ false
          or_second true b g = absurd cc
          or_second false b g = g

          by_key : (t : SessionKey × Message) (c : Bool) → list_any (λ (d : ℕ). d == m.domain) (cond c (t.1.domain ∷ []) []) ≡ false → cond (c && t.1.domain == m.domain) (deeds_of inputs t v.outcomes) [] ≡ []
          by_key t true g = ap (λ c. cond c (deeds_of inputs t v.outcomes) []) (or_first (t.1.domain == m.domain) false g)
          by_key t false g = refl

          by_taken : list_any (λ (d : ℕ). d == m.domain) (domain_at key v) ≡ false → deeds_at inputs key m.domain v ≡ []
          by_taken g =
              elim (taken_is v) [
                | inl n ↦ of_nothing inputs v (key, m.domain) n
                | inr t ↦
                    (let domain : domain_at key v ≡ cond (same_key t.0.0 key) (t.0.1.domain ∷ []) [] =
                    ap (flat_map (λ (u : SessionKey × Message). cond (same_key u.0 key) (u.1.domain ∷ []) [])) t.1 ∙ append-nil (cond (same_key t.0.0 key) (t.0.1.domain ∷ []) []) in
                    of_one inputs v (key, m.domain) t.0 t.1 ∙ by_key t.0 (same_key t.0.0 key) (sym (ap (list_any (λ (d : ℕ). d == m.domain)) domain) ∙ g))
              ]

      abbrev known : List ℕ
      known = domains_of key works

      own_session : live_of inputs later key + was ≡ live_of inputs works key + now
      own_session =
          let domains : domains_of key later ≡ grown_by (λ (a b : ℕ). a == b) number_test known m.domain =
          domains_more key ∙ (ap (λ l. different (flat_map (domain_at key) works ++ l)) (domain_here key ∙ ap (λ c. cond c (m.domain ∷ []) []) (own_is key))
          ∙ fold-append (grown_by (λ (a b : ℕ). a == b) number_test) [] (flat_map (domain_at key) works) (m.domain ∷ [])) in
          let counted : live_of inputs later key ≡ count_by (λ (d : ℕ). live_at inputs key d later) (grown_by (λ (a b : ℕ). a == b) number_test known m.domain) = ap (count_by (λ (d : ℕ). live_at inputs key d later)) domains in
          let grown = by_known (list_any (λ (d : ℕ). d == m.domain) known) refl in
          omega arith
        where
          sums : sum_by (λ (d : ℕ). one_if (live_at inputs key d later)) known + sum_by (where_it (λ (d : ℕ). d == m.domain) was) known
              ≡ sum_by (λ (d : ℕ). one_if (live_at inputs key d works)) known + sum_by (where_it (λ (d : ℕ). d == m.domain) now) known
          sums = sum_at (λ (d : ℕ). d == m.domain) (λ (d : ℕ). one_if (live_at inputs key d later)) (λ (d : ℕ). one_if (live_at inputs key d works)) now was known other_domain own_domain

          unknown : list_any (λ (d : ℕ). d == m.domain) known ≡ false → live_at inputs key m.domain works ≡ false
          unknown f = ap (is_live (inputs key.input).transport) (no_deeds works (by_there (list_any (λ (d : ℕ). d == m.domain) (flat_map (domain_at key) works)) refl))
            where
              by_there : (c : Bool) → list_any (λ (d : ℕ). d == m.domain) (flat_map (domain_at key) works) ≡ c → list_any (λ (d : ℕ). d == m.domain) (flat_map (domain_at key) works) ≡ false
              by_there true g = absurd (let no : true ≡ false = sym (among_different m.domain (flat_map (domain_at key) works) g) ∙ f in cc)
              by_there false g = g

          by_known : (c : Bool) → list_any (λ (d : ℕ). d == m.domain) known ≡ c → count_by (λ (d : ℕ). live_at inputs key d later) (cond c known (known ++ m.domain ∷ [])) + was ≡ count_by (λ (d : ℕ). live_at inputs key d works) known + now
          by_known true f =
              let most = different_once (λ (a b : ℕ). a == b) number_test m.domain (flat_map (domain_at key) works) in
              let some = some_counted (λ (d : ℕ). d == m.domain) known f in
              let one : count_by (λ (d : ℕ). d == m.domain) known ≡ 1 = omega arith in
              let left = once (λ (d : ℕ). d == m.domain) was known one in
              let right = once (λ (d : ℕ). d == m.domain) now known one in
              let all = sums in
              omega arith
          by_known false f =
              let none = none_counted (λ (d : ℕ). d == m.domain) known f in
              let left = nowhere (λ (d : ℕ). d == m.domain) was known none in
              let right = nowhere (λ (d : ℕ). d == m.domain) now known none in
              let push = sum_by_push (λ (d : ℕ). one_if (live_at inputs key d later)) known m.domain in
              let dead : was ≡ one_if false = ap one_if (unknown f) in
              let all = sums in
              omega arith

      taken_live : IsOpenOnce key works → live_in inputs key.input later + was ≡ live_in inputs key.input works + now
      taken_live once_open =
          let keys = open_of key.input works in
          let same : live_in inputs key.input later ≡ sum_by (live_of inputs later) keys =
          ap (λ l. sum_by (live_of inputs later) (own_keys key.input l)) (keys_more works w ∙ taken_keeps (open_after works) w.arrival w.judgement (key, m) e) in
          let there = of_input key (open_after works) ∙ once_open in
          let all = sum_at (λ (k : SessionKey). same_key k key) (live_of inputs later) (live_of inputs works) now was keys other_session (λ k f. at_own k f) in
          let left = once (λ (k : SessionKey). same_key k key) was keys there in
          let right = once (λ (k : SessionKey). same_key k key) now keys there in
          omega arith
        where
          at_own : (k : SessionKey) → same_key k key ≡ true → live_of inputs later k + was ≡ live_of inputs works k + now
          at_own k f = subst (λ (x : SessionKey). live_of inputs later x + was ≡ live_of inputs works x + now) (sym (same_is k key f)) own_session

      taken_used : IsOpenOnce key works → in_use_by inputs works w + was ≡ live_in inputs key.input works + now + ended_in inputs works (key, m) w.outcomes
      taken_used once_open =
          let own : in_use_by inputs works w ≡ sum_by (λ (t : SessionKey × Message). live_in inputs t.0.input later + ended_in inputs works t w.outcomes) ((key, m) ∷ []) =
          ap (sum_by (λ (t : SessionKey × Message). live_in inputs t.0.input later + ended_in inputs works t w.outcomes)) e in
          let live = taken_live once_open in
          omega arith

  -- A message that is taken moves the number at its own session and domain alone.
  pub live_more : (works : List Work) (w : Work) (key : SessionKey) (m : Message) → taken_of w ≡ (key, m) ∷ [] → IsOpenOnce key works
      → live_in inputs key.input (works ++ w ∷ []) + one_if (live_at inputs key m.domain works) ≡ live_in inputs key.input works + one_if (live_at inputs key m.domain (works ++ w ∷ []))
  live_more works w key m e once_open = taken_live works w key m e once_open

  pub used_more : (works : List Work) (w : Work) (key : SessionKey) (m : Message) → taken_of w ≡ (key, m) ∷ [] → IsOpenOnce key works
      → in_use_by inputs works w + one_if (live_at inputs key m.domain works) ≡ live_in inputs key.input works + one_if (live_at inputs key m.domain (works ++ w ∷ [])) + ended_in inputs works (key, m) w.outcomes
  used_more works w key m e once_open = taken_used works w key m e once_open

  live_kept : (input : ℕ) (works : List Work) (w : Work) → taken_of w ≡ [] → open_by (open_after works) w.arrival ≡ open_after works → live_in inputs input (works ++ w ∷ []) ≡ live_in inputs input works
  live_kept input works w e keys =
      ap (λ l. sum_by (live_of inputs (works ++ w ∷ [])) (own_keys input l)) (keys_more works w ∙ keys) ∙ sums_same works w (nothing_of works w e) (open_of input works)

  -- One that is dropped, and a tick, leave it.
  pub live_dropped : (input : ℕ) (works : List Work) (w : Work) (key : SessionKey) (read : Result Message Fault) → w.arrival ≡ Raw key read → taken_of w ≡ [] → live_in inputs input (works ++ w ∷ []) ≡ live_in inputs input works
  live_dropped input works w key read e none = live_kept input works w none (ap (open_by (open_after works)) e)

  pub live_tick : (input i seconds : ℕ) (works : List Work) (w : Work) → w.arrival ≡ Periodic i seconds → live_in inputs input (works ++ w ∷ []) ≡ live_in inputs input works
  live_tick input i seconds works w e = live_kept input works w (ap (λ a. taken_as a w.judgement) e) (ap (open_by (open_after works)) e)

  -- A session that closes takes its own away.
  pub live_closed : (works : List Work) (w : Work) (key : SessionKey) → w.arrival ≡ SessionClose key → IsOpenOnce key works → live_in inputs key.input (works ++ w ∷ []) + live_of inputs works key ≡ live_in inputs key.input works
  live_closed works w key e once_open =
      let keys = open_of key.input works in
      let none : taken_of w ≡ [] = ap (λ a. taken_as a w.judgement) e in
      let left : open_of key.input (works ++ w ∷ []) ≡ others_of key keys = ap (own_keys key.input) (keys_more works w ∙ ap (open_by (open_after works)) e) ∙ swapped key.input key (open_after works) in
      let there = of_input key (open_after works) ∙ once_open in
      let a = ap (sum_by (live_of inputs (works ++ w ∷ []))) left in
      let b = sums_same works w (nothing_of works w none) (others_of key keys) in
      let c = removed key (live_of inputs works) keys in
      let d = once (λ (k : SessionKey). same_key k key) (live_of inputs works key) keys there in
      omega arith

  -- One that opens has none.
  pub live_opened : (works : List Work) (w : Work) (key : SessionKey) (transport : Transport) → w.arrival ≡ SessionOpen key transport → domains_of key works ≡ [] → live_in inputs key.input (works ++ w ∷ []) ≡ live_in inputs key.input works
  live_opened works w key transport e new =
      let keys = open_of key.input works in
      let none : taken_of w ≡ [] = ap (λ a. taken_as a w.judgement) e in
      let more : open_of key.input (works ++ w ∷ []) ≡ keys ++ key ∷ [] =
      ap (own_keys key.input) (keys_more works w ∙ ap (open_by (open_after works)) e)
      ∙ (filter-append (λ (k : SessionKey). k.input == key.input) (open_after works) (key ∷ []) ∙ ap (λ c. keys ++ cond c (key ∷ []) []) (eq-eqb key.input key.input refl)) in
      let a = ap (sum_by (live_of inputs (works ++ w ∷ []))) more in
      let b = sum_by_push (live_of inputs (works ++ w ∷ [])) keys key in
      let c = sums_same works w (nothing_of works w none) keys in
      let d = nothing_of works w none key in
      let zero_ : live_of inputs works key ≡ 0 = ap (count_by (λ (x : ℕ). live_at inputs key x works)) new in
      omega arith

  -- The number before a set of the message at a place.
  pub used_at : (before after : List Work) (w : Work) (n : ℕ) → in_use inputs (before ++ w ∷ after) (length before) n ≡ in_use_by inputs before (first_sets n w)
  used_at before after w n =
      ap (λ l. sum_by (λ (v : Work). in_use_by inputs (take (length before) (before ++ w ∷ after)) (first_sets n v)) (take 1 l)) (drop-append_seam before (w ∷ after))
      ∙ (ap (λ l. sum_by (λ (v : Work). in_use_by inputs l (first_sets n v)) (w ∷ [])) (take-append_seam before (w ∷ after))
      ∙ (let one : sum_by (λ (v : Work). in_use_by inputs before (first_sets n v)) (w ∷ []) ≡ in_use_by inputs before (first_sets n w) = omega arith in one))

cut_taken : (n : ℕ) (a : ReadArrival) (j : Option Judgement) (key : SessionKey) (m : Message) → taken_as a j ≡ (key, m) ∷ [] → taken_as (cut_arrival n a) j ≡ (key, record m { parts = take n m.parts }) ∷ []
cut_taken n (SessionOpen k transport) j key m e = absurd cc
cut_taken n (SessionClose k) j key m e = absurd cc
cut_taken n (Periodic i seconds) j key m e = absurd cc
cut_taken n (Raw k (Err fault)) j key m e = absurd cc
cut_taken n (Raw k (Ok o)) None key m e = absurd cc
cut_taken n (Raw k (Ok o)) (Some (Malformed fault)) key m e = absurd cc
cut_taken n (Raw k (Ok o)) (Some Crowded) key m e = absurd cc
cut_taken n (Raw k (Ok o)) (Some Late) key m e = absurd cc
cut_taken n (Raw k (Ok o)) (Some Taken) key m e = ap (map (λ (t : SessionKey × Message). (t.0, record t.1 { parts = take n t.1.parts }))) e

-- The first sets of a message that is taken are taken.
pub used_cut : (w : Work) (key : SessionKey) (m : Message) (n : ℕ) → taken_of w ≡ (key, m) ∷ [] → taken_of (first_sets n w) ≡ (key, record m { parts = take n m.parts }) ∷ []
used_cut w key m n e = cut_taken n w.arrival w.judgement key m e
