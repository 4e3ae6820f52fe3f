-- What an input stands for, event by event and at its end.
use Rattle.std.proofs.Common.{◌≡◌, ◌⊎◌, inl, inr, ℕ, ◌+◌, ◌≤◌, ◌<◌, ◌^◌, Bool, true, false, cond, List, [], ◌∷◌, ◌++◌, Some, None, map, refl, ap, sym, subst, ◌∙◌, arith, append_assoc, append-nil, take_all, take, drop, length, length-append}
use Rattle.std.specs.Prelude.{◌==◌}
use Rattle.std.proofs.lemmas.List.{drop_all}
use Rattle.std.proofs.lemmas.List.Elements.{filter-append}
use Rattle.std.proofs.lemmas.Grind.{flat_map-append}
use Rattle.arrival_spec.specs.declared.event.Scripted.{Scripted}
use Rattle.arrival_spec.specs.Arrival.{Arrival}
use Rattle.arrival_spec.specs.Events.{events_of, first_events, is_event}
use Rattle.arrival_spec.specs.Mark.{Mark, arrival_in, arrivals_in}
use Rattle.arrival_spec.specs.Settings.{Settings}
use Rattle.arrival_spec.specs.Sessions.{Standing, gives, closings}
use Rattle.arrival_spec.specs.Run.{Run, run_of, standing_after, ended, marks_of}
use Rattle.arrival_spec.proofs.RunLemmas.{one_more, stands_after, looks_give_nothing}
use Rattle.arrival_spec.specs.declared.event.Scripted.TheVariants as scripted
use Rattle.site_io.specs.declared.source.SourceEvent.{SourceEvent}
use Rattle.site_io.specs.declared.source.SourceEvent.TheVariants as event
use Rattle.input_lane.specs.declared.came.Came.{Came}
use Rattle.input_lane.specs.declared.came.Came.TheVariants as came
use Rattle.input_lane.specs.declared.state.Lane.{Lane}
use Rattle.input_lane.specs.declared.state.State.{State}
use Rattle.input_lane.specs.declared.tally.Tally.{Tally}
use Rattle.input_lane.specs.declared.state.Reading.{Reading}
use Rattle.input_lane.specs.declared.state.Reading.TheVariants as reading
use Rattle.input_lane.specs.declared.came.InletAnswer.{InletAnswer}
use Rattle.input_lane.specs.declared.came.InletAnswer.TheVariants as answer
use Rattle.input_lane.specs.Kept.{Keeps}
use Rattle.input_lane.specs.Hands.{IsGot, closes_of, handed_by, left_by, meant, meant_by}
use Rattle.input_lane.specs.Tallies.{Counted, no_counts}
use Rattle.input_lane.specs.Inlets.{Asked, Takes, Finishes, IsEmptyHanded, IsIdle, Stops, IsReading, IsOver, IsTaken, IsKind, kind_of, IsWithin, IsFull, StandsBehind, IsNoLook, EndsAs, StillBy, GaveBy, Stands, StandsBy, GoesOn, GoesOnBy, Answers, is_end}
use Rattle.input_lane.specs.Inlets.Asked.{NotAsked, Gave, AtEnd, Failing, Wanted}
use Rattle.site_io.specs.Outside.{one_more as count_more}
use Rattle.session_table.specs.Table.{Table, ClosesNext}
use Rattle.session_table.specs.declared.arrival.Arrival.TheVariants as given
use Rattle.col_base.specs.declared.base.SessionKey.{SessionKey}
use Rattle.arrival_spec.specs.Arrival.Arrival.{SessionClose}
use Rattle.input_lane.proofs.CountLemmas.{counted_then}

first_all : (limit : ℕ) (given : List Scripted) → (limit ≡ 0) ⊎ (length (events_of given) ≤ limit) → first_events limit given ≡ events_of given
first_all limit given h = by_test (limit == 0) refl h
  where
    by_test : (b : Bool) → (limit == 0) ≡ b → (limit ≡ 0) ⊎ (length (events_of given) ≤ limit) → cond b (events_of given) (take limit (events_of given)) ≡ events_of given
    by_test true is h = refl
    by_test false is (inr le) = take_all limit (events_of given) le
    by_test false is (inl z) = let no : true ≡ false = sym (ap (λ n. n == 0) z) ∙ is in absurd cc

-- within the limit all marks are those of the events, and the closings
pub all_marks : (settings : Settings) (input : ℕ) (taken : List Scripted) → IsWithin settings taken
    → marks_of settings input taken ≡ (run_of settings input taken).marks ++ closings input (standing_after settings input taken)
all_marks settings input taken h =
    ap (λ l. ended input (run_of settings input l)) (first_all settings.stop_after taken h) ∙ ap (ended input) (looks_give_nothing settings input taken)

joined : (out hand more before : List (Arrival (List ℕ))) (now : List (Arrival (List ℕ))) (m n : List Mark) → out ++ hand ≡ arrivals_in m → now ≡ hand ++ arrivals_in n → out ++ now ≡ arrivals_in (m ++ n)
joined out hand more before now m n e f =
    ap (λ l. out ++ l) f ∙ (sym (append_assoc out hand (arrivals_in n)) ∙ (ap (λ l. l ++ arrivals_in n) e ∙ sym (flat_map-append arrival_in m n)))

-- one event more is counted once
pub event_more : (taken : List Scripted) (e : Scripted) → is_event e ≡ true → length (events_of (taken ++ e ∷ [])) ≡ length (events_of taken) + 1
event_more taken e is =
    ap length (filter-append is_event taken (e ∷ []) ∙ ap (λ b. events_of taken ++ cond b (e ∷ []) []) is) ∙ length-append (events_of taken) (e ∷ [])

still_within : (settings : Settings) (e : Scripted) (taken : List Scripted) (n : ℕ) → is_event e ≡ true → (settings.stop_after ≡ 0) ⊎ ((length (events_of taken) ≡ n) × (n < settings.stop_after)) → IsWithin settings (taken ++ e ∷ [])
still_within settings e taken n is (inl z) = inl z
still_within settings e taken n is (inr h) = let m = event_more taken e is in inr (omega arith)

module _ (settings : Settings) (input : ℕ) (taken : List Scripted) (out : List (Arrival (List ℕ))) where
  -- reading is over
  pub over_by : (x y : Lane) → IsTaken settings input taken out x → Finishes x.state y.state → IsOver settings input taken out y
  over_by x y k f =
      let done = f settings input (standing_after settings input taken) k.keeps in
      let all = all_marks settings input taken k.within in
      let marks = (run_of settings input taken).marks in
      let last = closings input (standing_after settings input taken) in
      record {
        whole = joined out (meant x.state.hand.items) [] [] (left_by y.state.hand.items y.state.sessions) marks last k.whole done.hand ∙ ap arrivals_in (sym all);
        counts = subst (λ (m : List Mark). Counted m no_counts y.state.tally) (sym all) (counted_then marks last no_counts x.state.tally y.state.tally k.counts done.counts);
      }

  pub answers_handed : (x : Lane) (c : Came) → GoesOn settings input taken (out ++ meant_by c ∷ []) x → Answers settings input taken out x (handed_by c)
  answers_handed x (came.SessionOpen key transport) h = h
  answers_handed x (came.Raw key octets) h = h
  answers_handed x (came.SessionClose key) h = h
  answers_handed x (came.Periodic n seconds) h = h

  pub over_goes_on : (x : Lane) (how : Reading) → is_end how ≡ true → x.reading ≡ how → IsOver settings input taken out x → GoesOn settings input taken out x
  over_goes_on x reading.Open e is h = absurd cc
  over_goes_on x reading.Ended e is h = subst (λ (r : Reading). GoesOnBy r settings input taken out x) (sym is) h
  over_goes_on x reading.Failed e is h = subst (λ (r : Reading). GoesOnBy r settings input taken out x) (sym is) h
  over_goes_on x reading.Wanting e is h = absurd cc

  pub goes_on_stands : (x : Lane) (how : Reading) → GoesOnBy how settings input taken out x → StandsBy how settings input taken out x
  goes_on_stands x reading.Open h = h
  goes_on_stands x reading.Ended h = h
  goes_on_stands x reading.Failed h = h
  goes_on_stands x reading.Wanting h = tt

  pub is_over : (x : Lane) (how : Reading) → is_end how ≡ true → x.reading ≡ how → Stands settings input taken out x → IsOver settings input taken out x
  is_over x reading.Open e is h = absurd cc
  is_over x reading.Ended e is h = subst (λ (r : Reading). StandsBy r settings input taken out x) is h
  is_over x reading.Failed e is h = subst (λ (r : Reading). StandsBy r settings input taken out x) is h
  is_over x reading.Wanting e is h = absurd cc

  -- one event more
  pub taken_more : (e : Scripted) (x y : Lane) → is_event e ≡ true → IsReading settings input taken out x → Takes e x.state y.state → IsTaken settings input (taken ++ e ∷ []) out y
  taken_more e x y is r t =
      let s = standing_after settings input taken in
      let g = gives settings input s e in
      let done = t settings input s r.keeps in
      let run = one_more settings input taken e in
      record {
        keeps = subst (λ (n : Standing). Keeps settings input n y.state) (sym (stands_after settings input taken e)) done.keeps;
        whole = joined out (meant x.state.hand.items) [] [] (meant y.state.hand.items) (run_of settings input taken).marks g.marks r.whole done.hand
            ∙ ap (λ (r : Run). arrivals_in r.marks) (sym run);
        counts = subst (λ (r : Run). Counted r.marks no_counts y.state.tally) (sym run)
            (counted_then (run_of settings input taken).marks g.marks no_counts x.state.tally y.state.tally r.counts done.counts);
        within = still_within settings e taken x.taken is r.within;
      }

one_handed : (out : List (Arrival (List ℕ))) (c : Came) (rest : List Came) → (out ++ meant_by c ∷ []) ++ meant rest ≡ out ++ meant (c ∷ rest)
one_handed out c rest = append_assoc out (meant_by c ∷ []) (meant rest)

-- the first that waits is handed on
pub handed_whole : (out all : List (Arrival (List ℕ))) (c : Came) (hand rest : List Came) → hand ≡ c ∷ rest → out ++ meant hand ≡ all → (out ++ meant_by c ∷ []) ++ meant rest ≡ all
handed_whole out all c hand rest e w = one_handed out c rest ∙ (ap (λ l. out ++ meant l) (sym e) ∙ w)

pub none_whole : (out all : List (Arrival (List ℕ))) (hand : List Came) → hand ≡ [] → out ++ meant hand ≡ all → out ≡ all
none_whole out all hand e w = sym (append-nil out) ∙ (ap (λ l. out ++ meant l) (sym e) ∙ w)

module _ (settings : Settings) (input : ℕ) (taken : List Scripted) (out : List (Arrival (List ℕ))) where
  -- reading is over, and the first that waits is handed on
  pub over_handed : (x y : Lane) (c : Came) (a : InletAnswer) → is_end x.reading ≡ true → y.reading ≡ x.reading → x.state.hand.items ≡ c ∷ y.state.hand.items → y.state.sessions ≡ x.state.sessions → y.state.tally ≡ x.state.tally
      → Stands settings input taken out x → a ≡ handed_by c → Answers settings input taken out y a
  over_handed x y c a e is front sessions tally h said =
      let over = is_over settings input taken out x x.reading e refl h in
      subst (λ (a : InletAnswer). Answers settings input taken out y a) (sym said)
      (answers_handed settings input taken out y c (over_goes_on settings input taken (out ++ meant_by c ∷ []) y x.reading e is (record {
        whole = append_assoc out (meant_by c ∷ []) (left_by y.state.hand.items y.state.sessions)
            ∙ (ap (λ (o : Table). out ++ (meant_by c ∷ (meant y.state.hand.items ++ closes_of o))) sessions ∙ (ap (λ l. out ++ left_by l x.state.sessions) (sym front) ∙ over.whole));
        counts = subst (λ (n : Tally). Counted (marks_of settings input taken) no_counts n) (sym tally) over.counts;
      })))

  -- nothing waits, and a session closes
  pub over_closes : (x y : Lane) (key : SessionKey) → is_end x.reading ≡ true → y.reading ≡ x.reading → x.state.hand.items ≡ [] → y.state.hand.items ≡ [] → ClosesNext x.state.sessions y.state.sessions (Some key) → y.state.tally ≡ x.state.tally
      → Stands settings input taken out x → Answers settings input taken out y (answer.Got (given.SessionClose key))
  over_closes x y key e is none still w tally h =
      let over = is_over settings input taken out x x.reading e refl h in
      over_goes_on settings input taken (out ++ SessionClose key ∷ []) y x.reading e is (record {
        whole = ap (λ l. (out ++ SessionClose key ∷ []) ++ left_by l y.state.sessions) still
            ∙ (append_assoc out (SessionClose key ∷ []) (closes_of y.state.sessions)
            ∙ (ap (λ l. out ++ map SessionClose l) (sym w.0) ∙ (ap (λ l. out ++ left_by l x.state.sessions) (sym none) ∙ over.whole)));
        counts = subst (λ (n : Tally). Counted (marks_of settings input taken) no_counts n) (sym tally) over.counts;
      })

  -- nothing is left
  pub over_ends : (x y : Lane) → is_end x.reading ≡ true → y.reading ≡ x.reading → x.state.hand.items ≡ [] → y.state.hand.items ≡ [] → ClosesNext x.state.sessions y.state.sessions None → y.state.tally ≡ x.state.tally
      → Stands settings input taken out x → Answers settings input taken out y (answer.Got given.End)
  over_ends x y e is none still w tally h =
      let over = is_over settings input taken out x x.reading e refl h in
      let rest : left_by x.state.hand.items x.state.sessions ≡ [] = ap (λ l. left_by l x.state.sessions) none ∙ ap (λ l. map SessionClose l) w.0 in
      let same : left_by y.state.hand.items y.state.sessions ≡ left_by x.state.hand.items x.state.sessions = (λ j. left_by (still j) (w.1 j)) ∙ ap (λ l. left_by l x.state.sessions) (sym none) in (
        record {
          whole = ap (λ l. out ++ l) same ∙ over.whole;
          counts = subst (λ (n : Tally). Counted (marks_of settings input taken) no_counts n) (sym tally) over.counts;
        },
        sym (append-nil out) ∙ (ap (λ l. out ++ l) (sym rest) ∙ over.whole),
        ap is_end is ∙ e,
      )

  -- one event more, and reading goes on
  pub taken_still : (x y z : Lane) → IsTaken settings input taken out y → y.state ≡ z.state → settings.stop_after ≡ z.stop_after
      → (settings.stop_after ≡ 0) ⊎ ((length (events_of taken) ≡ z.taken) × (z.taken < settings.stop_after)) → IsReading settings input taken out z
  taken_still x y z k same told within = record {
    told = told;
    keeps = subst (λ (t : State). Keeps settings input (standing_after settings input taken) t) same k.keeps;
    whole = ap (λ (t : State). out ++ meant t.hand.items) (sym same) ∙ k.whole;
    counts = subst (λ (t : State). Counted (run_of settings input taken).marks no_counts t.tally) same k.counts;
    within = within;
  }

  -- it goes on with the first handed on
  pub still_handed : (x y : Lane) (c : Came) (a : InletAnswer) → IsReading settings input taken out x → x.state.hand.items ≡ c ∷ y.state.hand.items → y.reading ≡ reading.Open
      → Keeps settings input (standing_after settings input taken) y.state → y.state.tally ≡ x.state.tally → y.stop_after ≡ x.stop_after → y.taken ≡ x.taken → a ≡ handed_by c → Answers settings input taken out y a
  still_handed x y c a r front is keeps tally conf number said =
      subst (λ (a : InletAnswer). Answers settings input taken out y a) (sym said)
      (answers_handed settings input taken out y c (subst (λ (r : Reading). GoesOnBy r settings input taken (out ++ meant_by c ∷ []) y) (sym is) (record {
        told = r.told ∙ sym conf;
        keeps = keeps;
        whole = handed_whole out (arrivals_in (run_of settings input taken).marks) c x.state.hand.items y.state.hand.items front r.whole;
        counts = subst (λ (n : Tally). Counted (run_of settings input taken).marks no_counts n) (sym tally) r.counts;
        within = subst (λ (n : ℕ). (settings.stop_after ≡ 0) ⊎ ((length (events_of taken) ≡ n) × (n < settings.stop_after))) (sym number) r.within;
      })))

pub within_more : (settings : Settings) (e : Scripted) (taken : List Scripted) (n m stop : ℕ) → is_event e ≡ true → settings.stop_after ≡ stop → stop < 2 ^ 64
    → (settings.stop_after ≡ 0) ⊎ ((length (events_of taken) ≡ n) × (n < settings.stop_after)) → m ≡ count_more n → (stop ≡ 0) ⊎ (m < stop)
    → (settings.stop_after ≡ 0) ⊎ ((length (events_of (taken ++ e ∷ [])) ≡ m) × (m < settings.stop_after))
within_more settings e taken n m stop is same limit (inl z) more goes = inl z
within_more settings e taken n m stop is same limit (inr h) more (inl z) = inl (same ∙ z)
within_more settings e taken n m stop is same limit (inr h) more (inr lt) = let k = event_more taken e is in inr (omega arith, omega arith)

-- what waits changes nothing of what stands
pub keeps_hand : (settings : Settings) (input : ℕ) (s : Standing) (t u : State) → Keeps settings input s t → u.input ≡ t.input → u.transport ≡ t.transport → u.sessions ≡ t.sessions → u.links ≡ t.links → u.seconds ≡ t.seconds → Keeps settings input s u
keeps_hand settings input s t u k i a b c d = record { input_is = k.input_is ∙ sym i; transport = k.transport ∙ sym a; sessions = b ∙ k.sessions; links = c ∙ k.links; seconds = d ∙ k.seconds }

pub ends_got : (how : Reading) (a : InletAnswer) → IsGot a → EndsAs how how a
ends_got how (answer.Got a) g = refl
ends_got how answer.Nothing g = absurd g
ends_got how answer.NotYet g = absurd g
ends_got how answer.NoMemory g = absurd g

pub look_got : (a : InletAnswer) → IsGot a → IsNoLook a
look_got (answer.Got a) g = tt
look_got answer.Nothing g = absurd g
look_got answer.NotYet g = absurd g
look_got answer.NoMemory g = absurd g

pub look_ends : (how new : Reading) (a : InletAnswer) → EndsAs how new a → IsNoLook a
look_ends how new (answer.Got a) g = tt
look_ends how new answer.Nothing g = tt
look_ends how new answer.NotYet g = absurd g
look_ends how new answer.NoMemory g = tt

pub still_got : (how : Reading) (a : InletAnswer) → IsGot a → StillBy how how a
still_got how (answer.Got a) g = refl
still_got how answer.Nothing g = absurd g
still_got how answer.NotYet g = absurd g
still_got how answer.NoMemory g = absurd g

pub gave_by : (e : Scripted) (a : InletAnswer) → is_event e ≡ true → IsNoLook a → GaveBy e a
gave_by e (answer.Got a) is g = is
gave_by e answer.Nothing is g = is
gave_by e answer.NotYet is g = absurd g
gave_by e answer.NoMemory is g = is

pub open_reading : (settings : Settings) (input : ℕ) (taken : List Scripted) (out : List (Arrival (List ℕ))) (x : Lane) → x.reading ≡ reading.Open → Stands settings input taken out x → IsReading settings input taken out x
open_reading settings input taken out x is h = subst (λ (r : Reading). StandsBy r settings input taken out x) is h

-- nothing waits: all was given on
pub idle_reading : (settings : Settings) (input : ℕ) (taken : List Scripted) (out : List (Arrival (List ℕ))) (x : Lane) → IsIdle x → Stands settings input taken out x
    → IsReading settings input taken out x × (out ≡ arrivals_in (run_of settings input taken).marks)
idle_reading settings input taken out x idle h =
    let r = open_reading settings input taken out x idle.0 h in
    (r, none_whole out (arrivals_in (run_of settings input taken).marks) x.state.hand.items idle.1 r.whole)

-- all was given on: what stood still stands
pub empty_stands : (old new : Lane) → IsEmptyHanded old new → (settings : Settings) (input : ℕ) (taken : List Scripted) (out : List (Arrival (List ℕ))) → Stands settings input taken out old → Stands settings input taken out new
empty_stands old new h settings input taken out s = subst (λ (r : Reading). StandsBy r settings input taken out new) (sym h.still) (h.stands settings input taken out s).0

pub empty_stops : (asked : Asked) (old mid new : Lane) → IsEmptyHanded old mid → Stops asked mid new → Stops asked old new
empty_stops NotAsked old mid new h s = tt
empty_stops (Gave e) old mid new h s = λ settings input taken out t. s settings input taken out (empty_stands old mid h settings input taken out t)
empty_stops AtEnd old mid new h s = tt
empty_stops Failing old mid new h s = tt
empty_stops Wanted old mid new h s = tt

pub reading_taken : (settings : Settings) (input : ℕ) (taken : List Scripted) (out : List (Arrival (List ℕ))) (x : Lane) → IsReading settings input taken out x → IsTaken settings input taken out x
reading_taken settings input taken out x r = record { keeps = r.keeps; whole = r.whole; counts = r.counts; within = by_limit r.within }
  where
    by_limit : (settings.stop_after ≡ 0) ⊎ ((length (events_of taken) ≡ x.taken) × (x.taken < settings.stop_after)) → IsWithin settings taken
    by_limit (inl z) = inl z
    by_limit (inr h) = inr (omega arith)

pub kind_is : (room : List ℕ) (a : SourceEvent) → IsKind room a (kind_of a)
kind_is room (event.Opened c) = (scripted.Opened c, refl, refl)
kind_is room (event.Bytes c n) = (scripted.Bytes c (take n room), refl, refl)
kind_is room (event.Datagram p n) = (scripted.Datagram p (take n room), refl, refl)
kind_is room (event.Closed c) = (scripted.Closed c, refl, refl)
kind_is room (event.Tick s) = (scripted.Tick s, refl, refl)
kind_is room event.NotYet = refl
kind_is room event.End = refl

look_same : (taken : List Scripted) → events_of (taken ++ scripted.NotYet ∷ []) ≡ events_of taken
look_same taken = filter-append is_event taken (scripted.NotYet ∷ []) ∙ append-nil (events_of taken)

look_run : (settings : Settings) (input : ℕ) (taken : List Scripted) → run_of settings input (taken ++ scripted.NotYet ∷ []) ≡ run_of settings input taken
look_run settings input taken = sym (looks_give_nothing settings input (taken ++ scripted.NotYet ∷ [])) ∙ (ap (run_of settings input) (look_same taken) ∙ looks_give_nothing settings input taken)

-- a look that found nothing
pub look_reading : (settings : Settings) (input : ℕ) (taken : List Scripted) (out : List (Arrival (List ℕ))) (x : Lane) → IsReading settings input taken out x
    → IsReading settings input (taken ++ scripted.NotYet ∷ []) out x
look_reading settings input taken out x r =
    let run = sym (look_run settings input taken) in
    record {
      told = r.told;
      keeps = subst (λ (n : Run). Keeps settings input n.standing x.state) run r.keeps;
      whole = r.whole ∙ ap (λ (n : Run). arrivals_in n.marks) run;
      counts = subst (λ (n : Run). Counted n.marks no_counts x.state.tally) run r.counts;
      within = subst (λ (l : List Scripted). (settings.stop_after ≡ 0) ⊎ ((length l ≡ x.taken) × (x.taken < settings.stop_after))) (sym (look_same taken)) r.within;
    }

pub look_whole : (settings : Settings) (input : ℕ) (taken : List Scripted) (out : List (Arrival (List ℕ))) → out ≡ arrivals_in (run_of settings input taken).marks
    → out ≡ arrivals_in (run_of settings input (taken ++ scripted.NotYet ∷ [])).marks
look_whole settings input taken out e = e ∙ ap (λ (n : Run). arrivals_in n.marks) (sym (look_run settings input taken))

pub room_whole : (n : ℕ) (new old : List ℕ) → length new ≡ length old → n ≡ length old → take n (new ++ drop (length new) old) ≡ new
room_whole n new old e f = ap (λ l. take n (new ++ l)) (drop_all (length new) old (omega arith)) ∙ (ap (take n) (append-nil new) ∙ take_all n new (omega arith))

-- with one event more as many were taken as may be
pub full_more : (settings : Settings) (e : Scripted) (taken : List Scripted) (n m stop : ℕ) → is_event e ≡ true → settings.stop_after ≡ stop → stop < 2 ^ 64
    → (settings.stop_after ≡ 0) ⊎ ((length (events_of taken) ≡ n) × (n < settings.stop_after)) → m ≡ count_more n → (0 < stop) × (stop ≤ m) → IsFull settings (taken ++ e ∷ [])
full_more settings e taken n m stop is same limit (inl z) more reached = absurd (omega arith)
full_more settings e taken n m stop is same limit (inr h) more reached = let k = event_more taken e is in (omega arith, omega arith)

-- reading that goes on, or that memory was wanted for
pub stands_behind : (settings : Settings) (taken : List Scripted) (now how : Reading) → now ≡ how → StandsBehind how settings taken → StandsBehind now settings taken
stands_behind settings taken now how e s = subst (λ (r : Reading). StandsBehind r settings taken) (sym e) s

pub ends_how : (how new : Reading) (a : InletAnswer) → EndsAs how new a → new ≡ how
ends_how how new (answer.Got a) e = e
ends_how how new answer.NoMemory e = absurd e
ends_how how new answer.Nothing e = absurd e
ends_how how new answer.NotYet e = absurd e
