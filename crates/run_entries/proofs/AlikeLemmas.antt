-- The arrivals of one input are decoded and counted alike by its own settings alone and by those of all inputs.
use Rattle.std.proofs.Common.{◌≡◌, ℕ, ◌+◌, false, List, [], ◌∷◌, ◌++◌, Option, Some, None, Ok, Err, map, refl, ap, sym, ◌∙◌}
use Rattle.std.specs.Prelude.{sum_by}
use Rattle.std.specs.List.{AllByRecursion}
use Rattle.std.proofs.lemmas.List.Sums.{sum_by-cons}
use Rattle.col_base.specs.declared.base.SessionKey.{SessionKey}
use Rattle.wire_spec.specs.Content.{Message}
use Rattle.arrival_spec.specs.Arrival.{Arrival, input_of}
use Rattle.arrival_spec.specs.Arrival.Arrival.{SessionOpen, Raw, SessionClose, Periodic}
use Rattle.arrival_spec.specs.Mark.{Mark}
use Rattle.arrival_spec.specs.Settings.{Settings}
use Rattle.run_spec.specs.Read.{ReadArrival, AreReadAs, IsReadAs}
use Rattle.run_spec.specs.Judge.{Inputs, Judgement, judge, judge_read, judgement, messages_of}
use Rattle.run_spec.specs.Judge.Judgement.{Malformed, Crowded, Late, Taken}
use Rattle.run_spec.specs.Outcome.{Outcome}
use Rattle.run_spec.specs.Work.{Work, item_by, item_of, items_of, outcomes_if, outcomes_of, works_after, works_of}
use Rattle.run_spec.specs.Work.Item.{Note}
use Rattle.count_spec.specs.Counts.{counts, ignored, left_out, redefined_at, redefined_by, sum_after, taken_as, taken_of}
use Rattle.parser_lane.specs.Parsers.{inputs}

-- ---- what was read is of the same input

same_input : (a : Arrival (List ℕ)) (r : ReadArrival) → IsReadAs a r → input_of r ≡ input_of a
same_input (SessionOpen key transport) r is = ap input_of is
same_input (Raw key octets) r is = ap input_of is.2
same_input (SessionClose key) r is = ap input_of is
same_input (Periodic input seconds) r is = ap input_of is

pub own_read : (k : ℕ) (list : List (Arrival (List ℕ))) (read : List ReadArrival) → AreReadAs list read → AllByRecursion (λ (a : Arrival (List ℕ)). input_of a ≡ k) list → AllByRecursion (λ (r : ReadArrival). input_of r ≡ k) read
own_read k [] [] are own = tt
own_read k [] (r ∷ read) are own = absurd are
own_read k (a ∷ list) [] are own = absurd are
own_read k (a ∷ list) (r ∷ read) are own = (same_input a r are.0 ∙ own.0, own_read k list read are.1 own.1)

sum_same : {X : Type 0} (P : X → Type 0) (f g : X → ℕ) (xs : List X) → ((x : X) → P x → f x ≡ g x) → AllByRecursion P xs → sum_by f xs ≡ sum_by g xs
sum_same P f g [] e p = refl
sum_same P f g (x ∷ xs) e p = sum_by-cons f x xs ∙ ((λ i. e x p.0 i + sum_same P f g xs e p.1 i) ∙ sym (sum_by-cons g x xs))

module _ (all : Inputs) (k : ℕ) where
  abbrev Own : ReadArrival → Type 0
  Own a = input_of a ≡ k

  same : (n : ℕ) → n ≡ k → all k ≡ all n
  same n e = ap all (sym e)

  -- ---- works and items

  judged : (before : List ReadArrival) (a : ReadArrival) → Own a → judgement (inputs (all k)) before a ≡ judgement all before a
  judged before (SessionOpen key transport) e = refl
  judged before (Raw key read) e = ap (λ s. Some (judge_read s (messages_of key before) read)) (same key.input e)
  judged before (SessionClose key) e = refl
  judged before (Periodic input seconds) e = refl

  given : (before : List ReadArrival) (a : ReadArrival) → Own a → outcomes_of (inputs (all k)) before a ≡ outcomes_of all before a
  given before (SessionOpen key transport) e = refl
  given before (Raw key (Ok m)) e = ap (λ s. outcomes_if s (messages_of key before) m (judge s (messages_of key before) m)) (same key.input e)
  given before (Raw key (Err fault)) e = refl
  given before (SessionClose key) e = refl
  given before (Periodic input seconds) e = refl

  works_alike : (before list : List ReadArrival) → AllByRecursion Own list → works_after (inputs (all k)) before list ≡ works_after all before list
  works_alike before [] o = refl
  works_alike before (a ∷ list) o = λ i. record { arrival = a; judgement = judged before a o.0 i; outcomes = given before a o.0 i } ∷ works_alike (before ++ a ∷ []) list o.1 i

  item_alike : (a : ReadArrival) (os : List Outcome) → Own a → item_by (inputs (all k)) a os ≡ item_by all a os
  item_alike (SessionOpen key transport) os e = refl
  item_alike (Raw key (Ok m)) os e = refl
  item_alike (Raw key (Err fault)) os e = refl
  item_alike (SessionClose key) os e = ap (λ (s : Settings). Note key s.transport false) (same key.input e)
  item_alike (Periodic input seconds) os e = refl

  items_after : (before list : List ReadArrival) → AllByRecursion Own list → map (item_of (inputs (all k))) (works_after (inputs (all k)) before list) ≡ map (item_of all) (works_after all before list)
  items_after before [] o = refl
  items_after before (a ∷ list) o =
      let head : item_by (inputs (all k)) a (outcomes_of (inputs (all k)) before a) ≡ item_by all a (outcomes_of all before a) = item_alike a (outcomes_of (inputs (all k)) before a) o.0 ∙ ap (item_by all a) (given before a o.0) in
      λ i. head i ∷ items_after (before ++ a ∷ []) list o.1 i

  pub items_alike : (list : List ReadArrival) → AllByRecursion Own list → items_of (inputs (all k)) list ≡ items_of all list
  items_alike list o = items_after [] list o

  works_own : (before list : List ReadArrival) → AllByRecursion Own list → AllByRecursion (λ (w : Work). Own w.arrival) (works_after all before list)
  works_own before [] o = tt
  works_own before (a ∷ list) o = (o.0, works_own (before ++ a ∷ []) list o.1)

  -- ---- counts

  -- what goes over the message that a work has taken
  taken_alike : (f : Settings → SessionKey × Message → ℕ) (a : ReadArrival) (j : Option Judgement) → Own a → sum_by (f (all k)) (taken_as a j) ≡ sum_by (λ t. f (all t.0.input) t) (taken_as a j)
  taken_alike f (Raw key (Ok m)) (Some Taken) e =
      sum_by-cons (f (all k)) (key, m) [] ∙ (ap (λ s. f s (key, m) + 0) (same key.input e) ∙ sym (sum_by-cons (λ (t : SessionKey × Message). f (all t.0.input) t) (key, m) []))
  taken_alike f (Raw key (Ok m)) (Some (Malformed fault)) e = refl
  taken_alike f (Raw key (Ok m)) (Some Crowded) e = refl
  taken_alike f (Raw key (Ok m)) (Some Late) e = refl
  taken_alike f (Raw key (Ok m)) None e = refl
  taken_alike f (Raw key (Err fault)) j e = refl
  taken_alike f (SessionOpen key transport) j e = refl
  taken_alike f (SessionClose key) j e = refl
  taken_alike f (Periodic input seconds) j e = refl

  ignored_alike : (works : List Work) → AllByRecursion (λ (w : Work). Own w.arrival) works → ignored (inputs (all k)) works ≡ ignored all works
  ignored_alike works o =
      sum_same (λ (w : Work). Own w.arrival) (λ w. sum_by (λ t. sum_by (left_out (all k)) t.1.parts) (taken_of w)) (λ w. sum_by (λ t. sum_by (left_out (all t.0.input)) t.1.parts) (taken_of w)) works
      (λ w e. taken_alike (λ s t. sum_by (left_out s) t.1.parts) w.arrival w.judgement e) o

  redefined_after : (before works : List Work) → AllByRecursion (λ (w : Work). Own w.arrival) works → sum_after (redefined_at (inputs (all k))) before works ≡ sum_after (redefined_at all) before works
  redefined_after before [] o = refl
  redefined_after before (w ∷ works) o =
      let head : redefined_at (inputs (all k)) before w ≡ redefined_at all before w = taken_alike (λ s t. redefined_by s (messages_of t.0 (map (λ (b : Work). b.arrival) before)) t.1) w.arrival w.judgement o.0 in
      λ i. head i + redefined_after (before ++ w ∷ []) works o.1 i

  counted : (marks : List Mark) (works : List Work) → AllByRecursion (λ (w : Work). Own w.arrival) works → counts (inputs (all k)) marks works ≡ counts all marks works
  counted marks works o = λ i. record (counts all marks works) { ignored = ignored_alike works o i; redefined = redefined_after [] works o i }

  pub counts_alike : (marks : List Mark) (list : List ReadArrival) → AllByRecursion Own list → counts (inputs (all k)) marks (works_of (inputs (all k)) list) ≡ counts all marks (works_of all list)
  counts_alike marks list o = ap (counts (inputs (all k)) marks) (works_alike [] list o) ∙ counted marks (works_of all list) (works_own [] list o)
