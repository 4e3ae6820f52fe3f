-- An input's source, one question more.
use Rattle.std.proofs.Common.{◌≡◌, ◌⊎◌, inl, inr, ℕ, ◌+◌, ◌≤◌, ◌<◌, Bool, true, false, cond, List, [], ◌∷◌, ◌++◌, Option, Some, None, length, refl, ap, sym, subst, ◌∙◌, arith, append_assoc}
use Rattle.std.proofs.lemmas.List.{length-append}
use Rattle.std.proofs.lemmas.List.Elements.{filter-append}
use Rattle.arrival_spec.specs.declared.event.Scripted.{Scripted}
use Rattle.arrival_spec.specs.Events.{events_of, is_event}
use Rattle.arrival_spec.specs.Settings.{Settings}
use Rattle.site_io.specs.Events.{TakesFirst}
use Rattle.call_spec.specs.Counts.{MovesBy}
use Rattle.call_spec.specs.Ends.{TakenFrom, IsNothingLeft, IsWithin, HasRoom}
use Rattle.input_lane.specs.declared.came.InletAnswer.{InletAnswer}
use Rattle.input_lane.specs.declared.came.InletAnswer.TheVariants as answer
use Rattle.session_table.specs.declared.arrival.Arrival.TheVariants as gives
use Rattle.input_lane.specs.declared.state.Lane.{Lane}
use Rattle.input_lane.specs.declared.state.Reading.{Reading}
use Rattle.input_lane.specs.declared.state.Reading.TheVariants as reading
use Rattle.input_lane.specs.Inlets.{Answers as Answered, Asked, Asks, Causes, GoesOn, GoesOnBy, IsReading, StandsBehind, StillBy, Stops, and_given, is_end}
use Rattle.input_lane.specs.Inlets.{Stands as LaneStands}
use Rattle.input_lane.specs.Inlets.Asked.{NotAsked, Gave, AtEnd, Failing, Wanted}
use Rattle.input_lane.proofs.StandLemmas.{ends_how}
use Rattle.run_input.specs.Inputs.{ReadsBy, FailsBy, GaveUnfailed}
use Rattle.run_input.proofs.FrontLemmas.{Given}

-- ---- what is left of a source

-- one taking after another
take_more : (a b c : Option (List Scripted)) (given more : List Scripted) → TakenFrom a b given → TakenFrom b c more → TakenFrom a c (given ++ more)
take_more None b c given more p q = tt
take_more (Some xs) None c given more p q = absurd p
take_more (Some xs) (Some ys) None given more p q = absurd q
take_more (Some xs) (Some ys) (Some zs) given more p q = p ∙ (ap (λ r. given ++ r) q ∙ sym (append_assoc given more zs))

first_taken : (a b : Option (List Scripted)) (e : Scripted) → TakesFirst a b (Some e) → TakenFrom a b (e ∷ [])
first_taken None b e t = tt
first_taken (Some xs) None e t = absurd t
first_taken (Some xs) (Some ys) e t = t

-- the end takes nothing, and nothing is left
end_taken : (a b c : Option (List Scripted)) (given : List Scripted) → TakenFrom a b given → TakesFirst b c None → TakenFrom a c given × IsNothingLeft a c
end_taken None b c given p t = (tt, tt)
end_taken (Some xs) None c given p t = absurd p
end_taken (Some xs) (Some ys) None given p t = absurd t
end_taken (Some xs) (Some ys) (Some zs) given p t = (p ∙ ap (λ l. given ++ l) (t.0 ∙ sym t.1), t.1)

-- ---- how many events may come

event_most : (given : List Scripted) (e : Scripted) → length (events_of (given ++ e ∷ [])) ≤ length (events_of given) + 1
event_most given e =
    let both : events_of (given ++ e ∷ []) ≡ events_of given ++ events_of (e ∷ []) = filter-append is_event given (e ∷ []) in
    let long : length (events_of (given ++ e ∷ [])) ≡ length (events_of given) + length (events_of (e ∷ [])) = ap length both ∙ length-append (events_of given) (events_of (e ∷ [])) in
    let one : length (events_of (e ∷ [])) ≤ 1 = by_test (is_event e) in
    omega arith
  where
    by_test : (b : Bool) → length (cond b (e ∷ []) []) ≤ 1
    by_test true = omega arith
    by_test false = omega arith

room_within : (limit : ℕ) (given : List Scripted) → HasRoom limit given → IsWithin limit given
room_within limit given (inl z) = inl z
room_within limit given (inr lt) = inr (omega arith)

room_more : (limit : ℕ) (given : List Scripted) (e : Scripted) → HasRoom limit given → IsWithin limit (given ++ e ∷ [])
room_more limit given e (inl z) = inl z
room_more limit given e (inr lt) = let m = event_most given e in inr (omega arith)

has_room : (limit n m : ℕ) → (limit ≡ 0) ⊎ ((m ≡ n) × (n < limit)) → (limit ≡ 0) ⊎ (m < limit)
has_room limit n m (inl z) = inl z
has_room limit n m (inr h) = inr (omega arith)

reading_room : (settings : Settings) (k : ℕ) (given : List Scripted) (out : List Given) (x : Lane) → IsReading settings k given out x → HasRoom settings.stop_after given
reading_room settings k given out x r = has_room settings.stop_after x.taken (length (events_of given)) r.within

-- ---- an answer of an input whose reading goes on

module _ (settings : Settings) (k : ℕ) (given : List Scripted) (out : List Given) (x : Lane) (on : x.reading ≡ reading.Open) where
  goes_open : (list : List Given) → GoesOn settings k given list x → IsReading settings k given list x
  goes_open list g = subst (λ (r : Reading). GoesOnBy r settings k given list x) on g

  -- it has room for more
  pub open_room : (a : InletAnswer) → Answered settings k given out x a → HasRoom settings.stop_after given
  open_room (answer.Got (gives.SessionOpen key transport)) g = reading_room settings k given _ x (goes_open _ g)
  open_room (answer.Got (gives.Raw key octets)) g = reading_room settings k given _ x (goes_open _ g)
  open_room (answer.Got (gives.SessionClose key)) g = reading_room settings k given _ x (goes_open _ g)
  open_room (answer.Got (gives.Periodic n seconds)) g = reading_room settings k given _ x (goes_open _ g)
  open_room (answer.Got gives.End) g = absurd (let wrong : false ≡ true = subst (λ (r : Reading). is_end r ≡ true) on g.2 in cc)
  open_room answer.Nothing g = reading_room settings k given out x g.0
  open_room answer.NotYet g = reading_room settings k given out x g.0
  open_room answer.NoMemory g = absurd (let wrong : reading.Open ≡ reading.Wanting = sym on ∙ g in cc)

-- memory was wanted: how reading stands
wanting_is : (settings : Settings) (k : ℕ) (given : List Scripted) (out : List Given) (x : Lane) (a : InletAnswer) → a ≡ answer.NoMemory → Answered settings k given out x a → x.reading ≡ reading.Wanting
wanting_is settings k given out x a e g = subst (λ (b : InletAnswer). Answered settings k given out x b) e g

-- ---- a question

module _ {S : Type 0} (left : S → Option (List Scripted)) (faults : S → ℕ) (first s t : S) (settings : Settings) (k : ℕ) (given : List Scripted) (out : List Given) (x y : Lane) (a : InletAnswer) where
  abbrev Comes : Asked → Type 0
  Comes asked = Answered settings k (and_given asked given) out y a

  -- what came off the source
  pub taken_step : (asked : Asked) → Asks left faults asked s t → TakenFrom (left first) (left s) given → TakenFrom (left first) (left t) (and_given asked given)
  taken_step NotAsked e p = subst (λ (u : S). TakenFrom (left first) (left u) given) (sym e) p
  taken_step (Gave e) q p = take_more (left first) (left s) (left t) given (e ∷ []) p (first_taken (left s) (left t) e q.0)
  taken_step AtEnd q p = (end_taken (left first) (left s) (left t) given p q.0).0
  taken_step Failing q p = subst (λ (o : Option (List Scripted)). TakenFrom (left first) o given) (sym q.0) p
  taken_step Wanted q p = subst (λ (o : Option (List Scripted)). TakenFrom (left first) o given) (sym q.0) p

  fails_open : x.reading ≡ reading.Open → FailsBy x.reading (faults first) (faults s) → faults s ≡ faults first
  fails_open on f = subst (λ (r : Reading). FailsBy r (faults first) (faults s)) on f

  -- by a source that had not failed
  pub unfailed_step : (asked : Asked) → Asks left faults asked s t → Causes asked x.reading y.reading a → TakenFrom (left first) (left s) given → FailsBy x.reading (faults first) (faults s) → GaveUnfailed left faults first given
      → GaveUnfailed left faults first (and_given asked given)
  unfailed_step NotAsked q c p f u = u
  unfailed_step (Gave e) q c p f u = (t, q.1 ∙ fails_open c.0 f, taken_step (Gave e) q p)
  unfailed_step AtEnd q c p f u = u
  unfailed_step Failing q c p f u = u
  unfailed_step Wanted q c p f u = u

  still_reading : StillBy x.reading y.reading a → y.reading ≡ x.reading
  still_reading c = by_answer a c
    where
      by_answer : (b : InletAnswer) → StillBy x.reading y.reading b → y.reading ≡ x.reading
      by_answer (answer.Got b) c = c
      by_answer answer.NoMemory c = c.0
      by_answer answer.Nothing c = absurd c
      by_answer answer.NotYet c = absurd c

  -- how reading stands
  pub reads_step : (asked : Asked) → Asks left faults asked s t → Causes asked x.reading y.reading a → Stops asked x y → LaneStands settings k given out x → Comes asked → TakenFrom (left first) (left s) given
      → ReadsBy settings.stop_after (left first) (left s) given x.reading → ReadsBy settings.stop_after (left first) (left t) (and_given asked given) y.reading
  reads_step NotAsked q c stops stands g p r =
      subst (λ (h : Reading). ReadsBy settings.stop_after (left first) (left t) given h) (sym (still_reading c)) (subst (λ (u : S). ReadsBy settings.stop_after (left first) (left u) given x.reading) (sym q) r)
  reads_step (Gave e) q c stops stands g p r = by_reading y.reading refl (stops settings k given out stands)
    where
      room : HasRoom settings.stop_after given
      room = subst (λ (h : Reading). ReadsBy settings.stop_after (left first) (left s) given h) c.0 r

      by_reading : (h : Reading) → y.reading ≡ h → StandsBehind h settings (given ++ e ∷ []) → ReadsBy settings.stop_after (left first) (left t) (given ++ e ∷ []) h
      by_reading reading.Open is b = open_room settings k (given ++ e ∷ []) out y is a g
      by_reading reading.Ended is b = inr b
      by_reading reading.Failed is b = absurd b
      by_reading reading.Wanting is b = room_more settings.stop_after given e room
  reads_step AtEnd q c stops stands g p r =
      let room : HasRoom settings.stop_after given = subst (λ (h : Reading). ReadsBy settings.stop_after (left first) (left s) given h) c.0 r in
      subst (λ (h : Reading). ReadsBy settings.stop_after (left first) (left t) given h) (sym (ends_how reading.Ended y.reading a c.1))
      (inl ((end_taken (left first) (left s) (left t) given p q.0).1, room_within settings.stop_after given room))
  reads_step Failing q c stops stands g p r =
      let room : HasRoom settings.stop_after given = subst (λ (h : Reading). ReadsBy settings.stop_after (left first) (left s) given h) c.0 r in
      subst (λ (h : Reading). ReadsBy settings.stop_after (left first) (left t) given h) (sym (ends_how reading.Failed y.reading a c.1)) room
  reads_step Wanted q c stops stands g p r =
      let room : HasRoom settings.stop_after given = subst (λ (h : Reading). ReadsBy settings.stop_after (left first) (left s) given h) c.0 r in
      subst (λ (h : Reading). ReadsBy settings.stop_after (left first) (left t) given h) (sym (wanting_is settings k given out y a c.1 g)) (room_within settings.stop_after given room)

  -- whether the source failed
  pub fails_step : (asked : Asked) → Asks left faults asked s t → Causes asked x.reading y.reading a → Stops asked x y → LaneStands settings k given out x → Comes asked
      → FailsBy x.reading (faults first) (faults s) → FailsBy y.reading (faults first) (faults t)
  fails_step NotAsked q c stops stands g f =
      subst (λ (h : Reading). FailsBy h (faults first) (faults t)) (sym (still_reading c)) (subst (λ (u : S). FailsBy x.reading (faults first) (faults u)) (sym q) f)
  fails_step (Gave e) q c stops stands g f = by_reading y.reading (stops settings k given out stands)
    where
      same : faults t ≡ faults first
      same = q.1 ∙ fails_open c.0 f

      by_reading : (h : Reading) → StandsBehind h settings (given ++ e ∷ []) → FailsBy h (faults first) (faults t)
      by_reading reading.Open b = same
      by_reading reading.Ended b = same
      by_reading reading.Failed b = absurd b
      by_reading reading.Wanting b = tt
  fails_step AtEnd q c stops stands g f =
      subst (λ (h : Reading). FailsBy h (faults first) (faults t)) (sym (ends_how reading.Ended y.reading a c.1)) (q.1 ∙ fails_open c.0 f)
  fails_step Failing q c stops stands g f =
      subst (λ (h : Reading). FailsBy h (faults first) (faults t)) (sym (ends_how reading.Failed y.reading a c.1)) (subst (λ n. MovesBy true n (faults t)) (fails_open c.0 f) q.1)
  fails_step Wanted q c stops stands g f =
      subst (λ (h : Reading). FailsBy h (faults first) (faults t)) (sym (wanting_is settings k given out y a c.1 g)) tt
