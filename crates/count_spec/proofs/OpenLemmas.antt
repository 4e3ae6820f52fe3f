-- In arrivals in order a session that a message or a closing comes in is open once.
use Rattle.std.proofs.Common.{◌≡◌, ℕ, ◌+◌, ◌≤◌, Bool, true, false, not, ◌||◌, cond, List, [], ◌∷◌, ◌++◌, refl, ap, sym, subst, ◌∙◌, map, arith, append_assoc, append-nil}
use Rattle.std.specs.Prelude.{Result, count_by, filter}
use Rattle.std.specs.List.{list_any}
use Rattle.std.proofs.lemmas.Bool.{and_parts}
use Rattle.std.proofs.lemmas.Grind.{flat_map-append}
use Rattle.std.proofs.lemmas.List.{map-append}
use Rattle.std.proofs.lemmas.List.Folds.{list_any-append}
use Rattle.std.proofs.lemmas.List.Sums.{fold-append, sum_by-cons, sum_by_push}
use Rattle.col_base.specs.declared.base.SessionKey.{SessionKey}
use Rattle.wire_spec.specs.declared.malformed.Malformed.{Malformed as Fault}
use Rattle.wire_spec.specs.Content.{Message}
use Rattle.arrival_spec.specs.Arrival.Arrival.{SessionOpen, Raw, SessionClose, Periodic}
use Rattle.arrival_spec.specs.Order.{same_key, opened_in, opened_keys, open_by, open_keys, has_key, fits_behind, may_come, in_order_after, are_in_order}
use Rattle.run_spec.specs.Read.{ReadArrival}
use Rattle.run_spec.specs.Work.{Work}
use Rattle.run_spec.proofs.ApartLemmas.{same_is, own_is}
use Rattle.count_spec.specs.More.{one_if, IsOpenOnce}
use Rattle.count_spec.proofs.InUseLemmas.{other_way}
use Rattle.count_spec.proofs.SumLemmas.{some_counted}

abbrev pub count_of : SessionKey → List SessionKey → ℕ
count_of q keys = count_by (λ (k : SessionKey). same_key k q) keys

-- each open session was opened, and stands once
pub record Sound (opened keys : List SessionKey) : Type 0 where
  pub few : (q : SessionKey) → count_of q keys ≤ 1
  pub known : (q : SessionKey) → has_key q opened ≡ false → count_of q keys ≡ 0

pub or_parts : (a b : Bool) → a || b ≡ false → (a ≡ false) × (b ≡ false)
or_parts true b e = absurd cc
or_parts false b e = (refl, e)

pub not_true : (b : Bool) → not b ≡ true → b ≡ false
not_true true e = absurd cc
not_true false e = refl

fewer : (q key : SessionKey) (keys : List SessionKey) → count_of q (filter (λ (k : SessionKey). not (same_key k key)) keys) ≤ count_of q keys
fewer q key [] = omega arith
fewer q key (k ∷ keys) =
    let a = sum_by-cons (λ (x : SessionKey). one_if (same_key x q)) k keys in
    by_test (same_key k key) a (fewer q key keys)
  where
    by_test : (b : Bool) → count_of q (k ∷ keys) ≡ one_if (same_key k q) + count_of q keys → count_of q (filter (λ (x : SessionKey). not (same_key x key)) keys) ≤ count_of q keys
        → count_of q (cond (not b) (k ∷ filter (λ (x : SessionKey). not (same_key x key)) keys) (filter (λ (x : SessionKey). not (same_key x key)) keys)) ≤ count_of q (k ∷ keys)
    by_test true a further = omega arith
    by_test false a further = let c = sum_by-cons (λ (x : SessionKey). one_if (same_key x q)) k (filter (λ (x : SessionKey). not (same_key x key)) keys) in omega arith

step : (opened keys : List SessionKey) (a : ReadArrival) → fits_behind opened keys a ≡ true → Sound opened keys → Sound (opened ++ opened_in a) (open_by keys a)
step opened keys (SessionOpen key transport) fits s = record { few = λ q. by_same q (same_key key q) refl; known = λ q none. new_known q (or_parts (has_key q opened) (has_key q (key ∷ [])) (sym (list_any-append (same_key q) opened (key ∷ [])) ∙ none)) }
  where
    new : has_key key opened ≡ false
    new = not_true (has_key key opened) fits

    by_same : (q : SessionKey) (b : Bool) → same_key key q ≡ b → count_of q (keys ++ key ∷ []) ≤ 1
    by_same q true e =
        let push = sum_by_push (λ (x : SessionKey). one_if (same_key x q)) keys key in
        let one : one_if (same_key key q) ≡ one_if true = ap one_if e in
        let none = s.known q (subst (λ (x : SessionKey). has_key x opened ≡ false) (same_is key q e) new) in
        omega arith
    by_same q false e =
        let push = sum_by_push (λ (x : SessionKey). one_if (same_key x q)) keys key in
        let zero_ : one_if (same_key key q) ≡ one_if false = ap one_if e in
        let few = s.few q in
        omega arith

    new_known : (q : SessionKey) → (has_key q opened ≡ false) × (has_key q (key ∷ []) ≡ false) → count_of q (keys ++ key ∷ []) ≡ 0
    new_known q p =
        let push = sum_by_push (λ (x : SessionKey). one_if (same_key x q)) keys key in
        let zero_ : one_if (same_key key q) ≡ one_if false = ap one_if (other_way q key (or_parts (same_key q key) false p.1).0) in
        let none = s.known q p.0 in
        omega arith
step opened keys (Raw key read) fits s = subst (λ (l : List SessionKey). Sound l keys) (sym (append-nil opened)) s
step opened keys (Periodic input seconds) fits s = subst (λ (l : List SessionKey). Sound l keys) (sym (append-nil opened)) s
step opened keys (SessionClose key) fits s =
    subst (λ (l : List SessionKey). Sound l (filter (λ (k : SessionKey). not (same_key k key)) keys)) (sym (append-nil opened)) (record {
      few = λ q. (let a = fewer q key keys in let b = s.few q in omega arith);
      known = λ q none. (let a = fewer q key keys in let b = s.known q none in omega arith);
    })

pub opened_more : (before : List ReadArrival) (a : ReadArrival) → opened_keys (before ++ a ∷ []) ≡ opened_keys before ++ opened_in a
opened_more before a = flat_map-append (opened_in {M = Result Message Fault}) before (a ∷ []) ∙ ap (λ l. opened_keys before ++ l) (append-nil (opened_in a))

open_more : (before : List ReadArrival) (a : ReadArrival) → open_keys (before ++ a ∷ []) ≡ open_by (open_keys before) a
open_more before a = fold-append (open_by {M = Result Message Fault}) [] before (a ∷ [])

ends : (before list : List ReadArrival) (a : ReadArrival) → in_order_after before (list ++ a ∷ []) ≡ true → Sound (opened_keys before) (open_keys before)
    → Sound (opened_keys (before ++ list)) (open_keys (before ++ list)) × (may_come (before ++ list) a ≡ true)
ends before [] a e s =
    let p = and_parts (may_come before a) true e in
    (subst (λ (l : List ReadArrival). Sound (opened_keys l) (open_keys l)) (sym (append-nil before)) s, ap (λ l. may_come l a) (append-nil before) ∙ p.0)
ends before (b ∷ list) a e s =
    let p = and_parts (may_come before b) (in_order_after (before ++ b ∷ []) (list ++ a ∷ [])) e in
    let next : Sound (opened_keys (before ++ b ∷ [])) (open_keys (before ++ b ∷ [])) =
    subst (λ (l : List SessionKey). Sound l (open_keys (before ++ b ∷ []))) (sym (opened_more before b))
    (subst (Sound (opened_keys before ++ opened_in b)) (sym (open_more before b)) (step (opened_keys before) (open_keys before) b p.0 s)) in
    let further = ends (before ++ b ∷ []) list a p.1 next in
    subst (λ (l : List ReadArrival). Sound (opened_keys l) (open_keys l) × (may_come l a ≡ true)) (append_assoc before (b ∷ []) list) further

pub at_end : (list : List ReadArrival) (a : ReadArrival) → are_in_order (list ++ a ∷ []) ≡ true → Sound (opened_keys list) (open_keys list) × (may_come list a ≡ true)
at_end list a e = ends [] list a e (record { few = λ q. omega arith; known = λ q none. refl })

there_once : (key : SessionKey) (list : List ReadArrival) → Sound (opened_keys list) (open_keys list) → has_key key (open_keys list) ≡ true → count_of key (open_keys list) ≡ 1
there_once key list s there =
    let some = some_counted (λ (k : SessionKey). same_key k key) (open_keys list) (turned (open_keys list) there) in
    let few = s.few key in
    omega arith
  where
    turned : (keys : List SessionKey) → list_any (same_key key) keys ≡ true → list_any (λ (k : SessionKey). same_key k key) keys ≡ true
    turned [] e = absurd cc
    turned (k ∷ keys) e = by_same (same_key key k) refl e (turned keys)
      where
        by_same : (b : Bool) → same_key key k ≡ b → b || list_any (same_key key) keys ≡ true → (list_any (same_key key) keys ≡ true → list_any (λ (x : SessionKey). same_key x key) keys ≡ true)
            → same_key k key || list_any (λ (x : SessionKey). same_key x key) keys ≡ true
        by_same true f g further =
            let same : key ≡ k = same_is key k f in
            ap (λ b. b || list_any (λ (x : SessionKey). same_key x key) keys) (ap (λ (x : SessionKey). same_key x key) (sym same) ∙ own_is key)
        by_same false f g further = ap (λ b. b || list_any (λ (x : SessionKey). same_key x key) keys) (other_way key k f) ∙ further g

abbrev pub arrivals : List Work → List ReadArrival
arrivals works = map (λ (w : Work). w.arrival) works

-- A message, and a closing, come in a session that is open once.
pub message_once : (works : List Work) (w : Work) (key : SessionKey) (read : Result Message Fault) → are_in_order (map (λ (v : Work). v.arrival) (works ++ w ∷ [])) ≡ true → w.arrival ≡ Raw key read → IsOpenOnce key works
message_once works w key read e a =
    let p = at_end (arrivals works) w.arrival (ap are_in_order (sym (map-append (λ (v : Work). v.arrival) works (w ∷ []))) ∙ e) in
    there_once key (arrivals works) p.0 (ap (may_come (arrivals works)) (sym a) ∙ p.1)

pub closing_once : (works : List Work) (w : Work) (key : SessionKey) → are_in_order (map (λ (v : Work). v.arrival) (works ++ w ∷ [])) ≡ true → w.arrival ≡ SessionClose key → IsOpenOnce key works
closing_once works w key e a =
    let p = at_end (arrivals works) w.arrival (ap are_in_order (sym (map-append (λ (v : Work). v.arrival) works (w ∷ []))) ∙ e) in
    there_once key (arrivals works) p.0 (ap (may_come (arrivals works)) (sym a) ∙ p.1)
