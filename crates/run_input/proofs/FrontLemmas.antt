-- What the arrivals of an input begin with, and which may come next.
use Rattle.std.proofs.Common.{◌≡◌, ◌⊎◌, inl, inr, ℕ, zero, suc, ◌≤◌, ◌<◌, Bool, true, false, cond, List, [], ◌∷◌, ◌++◌, Some, length, take, refl, ap, sym, subst, ◌∙◌, arith, append_assoc, append-nil}
use Rattle.std.specs.Prelude.{◌==◌, fold}
use Rattle.std.proofs.lemmas.List.Elements.{filter-append}
use Rattle.col_base.specs.declared.base.SessionKey.{SessionKey}
use Rattle.arrival_spec.specs.declared.event.Scripted.{Scripted}
use Rattle.arrival_spec.specs.Arrival.{Arrival}
use Rattle.arrival_spec.specs.Arrival.Arrival.{SessionOpen, Raw, SessionClose, Periodic}
use Rattle.arrival_spec.specs.Events.{events_of, first_events, is_event}
use Rattle.arrival_spec.specs.Mark.{arrivals_in}
use Rattle.arrival_spec.specs.Order.{are_in_order, fits_behind, may_come, open_by, open_keys, opened_in, opened_keys}
use Rattle.arrival_spec.specs.Settings.{Settings}
use Rattle.arrival_spec.specs.Run.{Run, arrivals_of}
use Rattle.arrival_spec.proofs.RunLemmas.{arrived_before_all, looks_give_nothing}
use Rattle.arrival_spec.proofs.LeadLemmas.{comes}
use Rattle.arrival_spec.proofs.OrderLemmas.{in_order}
use Rattle.run_spec.specs.Read.{ReadArrival, AreReadAs, IsReadAs}
use Rattle.session_table.specs.declared.arrival.Arrival.{Arrival as Arrived}
use Rattle.session_table.specs.declared.arrival.Arrival.TheVariants as gives
use Rattle.input_lane.specs.declared.came.InletAnswer.TheVariants as answer
use Rattle.input_lane.specs.declared.state.Lane.{Lane}
use Rattle.input_lane.specs.declared.state.Reading.{Reading}
use Rattle.input_lane.specs.declared.state.Reading.TheVariants as reading
use Rattle.input_lane.specs.Hands.{left_by, meant}
use Rattle.input_lane.specs.Inlets.{IsReading, GoesOn, GoesOnBy, Answers}
use Rattle.parser_lane.specs.Parsers.{CanCome, arrival_of}

abbrev pub Given : Type 0
Given = Arrival (List ℕ)

-- ---- what the arrivals of an input begin with

front_taken : (n : ℕ) (xs ys : List Scripted) → length xs ≤ n → (rest : List Scripted) × (take n (xs ++ ys) ≡ xs ++ rest)
front_taken n [] ys le = (take n ys, refl)
front_taken zero (x ∷ xs) ys le = absurd (omega arith)
front_taken (suc n) (x ∷ xs) ys le = let r = front_taken n xs ys (omega arith) in (r.0, ap (λ l. x ∷ l) r.1)

-- what counts of some given, and of more
events_front : (limit : ℕ) (given more : List Scripted) → (limit ≡ 0) ⊎ (length (events_of given) ≤ limit) → (rest : List Scripted) × (first_events limit (given ++ more) ≡ events_of given ++ rest)
events_front limit given more h = by_test (limit == 0) refl h
  where
    joined : events_of (given ++ more) ≡ events_of given ++ events_of more
    joined = filter-append is_event given more

    by_test : (b : Bool) → (limit == 0) ≡ b → (limit ≡ 0) ⊎ (length (events_of given) ≤ limit) → (rest : List Scripted) × (cond b (events_of (given ++ more)) (take limit (events_of (given ++ more))) ≡ events_of given ++ rest)
    by_test true is h = (events_of more, joined)
    by_test false is (inr le) = let r = front_taken limit (events_of given) (events_of more) le in (r.0, ap (take limit) joined ∙ r.1)
    by_test false is (inl z) = let no : true ≡ false = sym (ap (λ n. n == 0) z) ∙ is in absurd cc

pub within_of : (limit n m : ℕ) → (limit ≡ 0) ⊎ ((m ≡ n) × (n < limit)) → (limit ≡ 0) ⊎ (m ≤ limit)
within_of limit n m (inl z) = inl z
within_of limit n m (inr h) = inr (omega arith)

-- an input that reads on has given the first arrivals of its events, and of more events
pub reads_front : (settings : Settings) (k : ℕ) (given more : List Scripted) (out : List Given) (x : Lane) → IsReading settings k given out x → (rest : List Given) × (arrivals_of settings k (given ++ more) ≡ out ++ rest)
reads_front settings k given more out x r =
    let e = events_front settings.stop_after given more (within_of settings.stop_after x.taken (length (events_of given)) r.within) in
    let a = arrived_before_all settings k (given ++ more) (events_of given) e.0 e.1 in (
      meant x.state.hand.items ++ a.0,
      a.1 ∙ (ap (λ (y : Run). arrivals_in y.marks ++ a.0) (looks_give_nothing settings k given) ∙ (ap (λ l. l ++ a.0) (sym r.whole) ∙ append_assoc out (meant x.state.hand.items) a.0)),
    )

goes_by : (settings : Settings) (k : ℕ) (given : List Scripted) (out : List Given) (x : Lane) (how : Reading) → GoesOnBy how settings k given out x → (rest : List Given) × (arrivals_of settings k given ≡ out ++ rest)
goes_by settings k given out x reading.Open r = let f = reads_front settings k given [] out x r in (f.0, ap (arrivals_of settings k) (sym (append-nil given)) ∙ f.1)
goes_by settings k given out x reading.Ended r = (left_by x.state.hand.items x.state.sessions, sym r.whole)
goes_by settings k given out x reading.Failed r = (left_by x.state.hand.items x.state.sessions, sym r.whole)
goes_by settings k given out x reading.Wanting r = absurd r

-- an input that goes on has given the first of its arrivals
pub goes_front : (settings : Settings) (k : ℕ) (given : List Scripted) (out : List Given) (x : Lane) → GoesOn settings k given out x → (rest : List Given) × (arrivals_of settings k given ≡ out ++ rest)
goes_front settings k given out x g = goes_by settings k given out x x.reading g

-- and the last that it gave came behind the others
last_comes : (settings : Settings) (k : ℕ) (given : List Scripted) (out : List Given) (a : Given) (x : Lane) → GoesOn settings k given (out ++ a ∷ []) x → may_come out a ≡ true
last_comes settings k given out a x g =
    let f = goes_front settings k given (out ++ a ∷ []) x g in
    comes out f.0 a (ap are_in_order (sym (f.1 ∙ append_assoc out (a ∷ []) f.0)) ∙ in_order settings k given)

-- ---- what was read is in the same order

same_opened : (a : Given) (r : ReadArrival) → IsReadAs a r → opened_in r ≡ opened_in a
same_opened (SessionOpen key transport) r p = ap opened_in p
same_opened (Raw key octets) r p = ap opened_in p.2
same_opened (SessionClose key) r p = ap opened_in p
same_opened (Periodic input seconds) r p = ap opened_in p

same_open : (keys : List SessionKey) (a : Given) (r : ReadArrival) → IsReadAs a r → open_by keys r ≡ open_by keys a
same_open keys (SessionOpen key transport) r p = ap (open_by keys) p
same_open keys (Raw key octets) r p = ap (open_by keys) p.2
same_open keys (SessionClose key) r p = ap (open_by keys) p
same_open keys (Periodic input seconds) r p = ap (open_by keys) p

all_opened : (list : List Given) (read : List ReadArrival) → AreReadAs list read → opened_keys read ≡ opened_keys list
all_opened [] [] p = refl
all_opened [] (r ∷ read) p = absurd p
all_opened (a ∷ list) [] p = absurd p
all_opened (a ∷ list) (r ∷ read) p = ap (λ l. l ++ opened_keys read) (same_opened a r p.0) ∙ ap (λ l. opened_in a ++ l) (all_opened list read p.1)

all_open : (keys : List SessionKey) (list : List Given) (read : List ReadArrival) → AreReadAs list read → fold open_by keys read ≡ fold open_by keys list
all_open keys [] [] p = refl
all_open keys [] (r ∷ read) p = absurd p
all_open keys (a ∷ list) [] p = absurd p
all_open keys (a ∷ list) (r ∷ read) p = ap (λ k. fold open_by k read) (same_open keys a r p.0) ∙ all_open (open_by keys a) list read p.1

can_come : (out : List Given) (read : List ReadArrival) (a : Given) → AreReadAs out read → may_come out a ≡ true → CanCome read (Some a)
can_come out read a p h = ap (λ o. fits_behind o (open_keys read) a) (all_opened out read p) ∙ (ap (λ k. fits_behind (opened_keys out) k a) (all_open [] out read p) ∙ h)

-- ---- the arrival that an input gives

module _ (settings : Settings) (k : ℕ) (given : List Scripted) (out : List Given) (x : Lane) where
  pub got_goes : (arrival : Arrived) (a : Given) → arrival_of arrival ≡ Some a → Answers settings k given out x (answer.Got arrival) → GoesOn settings k given (out ++ a ∷ []) x
  got_goes (gives.SessionOpen key transport) a e g = let same : SessionOpen key transport ≡ a = cc in subst (λ (b : Given). GoesOn settings k given (out ++ b ∷ []) x) same g
  got_goes (gives.Raw key octets) a e g = let same : Raw key octets.value ≡ a = cc in subst (λ (b : Given). GoesOn settings k given (out ++ b ∷ []) x) same g
  got_goes (gives.SessionClose key) a e g = let same : SessionClose key ≡ a = cc in subst (λ (b : Given). GoesOn settings k given (out ++ b ∷ []) x) same g
  got_goes (gives.Periodic n seconds) a e g = let same : Periodic n seconds ≡ a = cc in subst (λ (b : Given). GoesOn settings k given (out ++ b ∷ []) x) same g
  got_goes gives.End a e g = absurd cc

  -- it may come next for a parser
  pub got_comes : (read : List ReadArrival) (arrival : Arrived) → AreReadAs out read → Answers settings k given out x (answer.Got arrival) → CanCome read (arrival_of arrival)
  got_comes read (gives.SessionOpen key transport) p g = can_come out read (SessionOpen key transport) p (last_comes settings k given out (SessionOpen key transport) x g)
  got_comes read (gives.Raw key octets) p g = can_come out read (Raw key octets.value) p (last_comes settings k given out (Raw key octets.value) x g)
  got_comes read (gives.SessionClose key) p g = can_come out read (SessionClose key) p (last_comes settings k given out (SessionClose key) x g)
  got_comes read (gives.Periodic n seconds) p g = can_come out read (Periodic n seconds) p (last_comes settings k given out (Periodic n seconds) x g)
  got_comes read gives.End p g = tt
