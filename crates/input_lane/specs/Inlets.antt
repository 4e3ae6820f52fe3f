-- What an input stands for: a list of the answers that its source gave, and a list of the arrivals that it gave on.
use Rattle.std.specs.Prelude.{ℕ, ◌≡◌, ◌≤◌, ◌<◌, ◌⊎◌, Bool, true, false, List, [], ◌∷◌, ◌++◌, length, Option, Some, None, ⊤}
use Rattle.arrival_spec.specs.declared.event.Scripted.{Scripted}
use Rattle.arrival_spec.specs.declared.event.Scripted.TheVariants as scripted
use Rattle.arrival_spec.specs.Arrival.{Arrival}
use Rattle.arrival_spec.specs.Arrival.Arrival.{SessionOpen, Raw, SessionClose, Periodic}
use Rattle.arrival_spec.specs.Events.{is_event, events_of}
use Rattle.arrival_spec.specs.Mark.{arrivals_in}
use Rattle.arrival_spec.specs.Settings.{Settings}
use Rattle.arrival_spec.specs.Sessions.{Standing, gives, closings}
use Rattle.arrival_spec.specs.Run.{run_of, standing_after, arrivals_of, marks_of}
use Rattle.site_io.specs.Events.{TakesFirst, event_in}
use Rattle.site_io.specs.declared.source.SourceEvent.{SourceEvent}
use Rattle.site_io.specs.declared.source.SourceEvent.TheVariants as event
use Rattle.site_io.specs.Outside.{Rose}
use Rattle.session_table.specs.declared.arrival.Arrival.TheVariants as given
use Rattle.input_lane.specs.declared.came.InletAnswer.{InletAnswer}
use Rattle.input_lane.specs.declared.came.InletAnswer.TheVariants as answer
use Rattle.pipeline_message.specs.declared.lane_fault.LaneFault.{LaneFault}
use Rattle.pipeline_message.specs.declared.lane_fault.LaneFault.TheVariants as fault
use Rattle.input_lane.specs.declared.state.Kind.{Kind}
use Rattle.input_lane.specs.declared.state.Kind.TheVariants as kind
use Rattle.input_lane.specs.declared.state.Reading.{Reading}
use Rattle.input_lane.specs.declared.state.Reading.TheVariants as reading
use Rattle.input_lane.specs.declared.state.State.{State}
use Rattle.input_lane.specs.declared.state.Lane.{Lane}
use Rattle.std.specs.Arc.{arc_value}
use Rattle.input_lane.specs.Hands.{meant, left_by}
use Rattle.input_lane.specs.Kept.{Keeps, Taken}
use Rattle.input_lane.specs.Tallies.{Counted, no_counts}

-- an event was taken, whatever stood
abbrev pub Takes : Scripted → State → State → Type 0
Takes e old new = (settings : Settings) (input : ℕ) (s : Standing) → Keeps settings input s old → Taken settings input (gives settings input s e) old new

-- reading is over: what is still to be given ends with the closings
pub record Finished (input : ℕ) (s : Standing) (old new : State) : Type 0 where
  pub hand : left_by new.hand.items new.sessions ≡ meant old.hand.items ++ arrivals_in (closings input s)
  pub counts : Counted (closings input s) old.tally new.tally

abbrev pub Finishes : State → State → Type 0
Finishes old new = (settings : Settings) (input : ℕ) (s : Standing) → Keeps settings input s old → Finished input s old new

-- so far
pub record IsReading (settings : Settings) (input : ℕ) (taken : List Scripted) (out : List (Arrival (List ℕ))) (x : Lane) : Type 0 where
  pub told : settings.stop_after ≡ x.stop_after
  pub keeps : Keeps settings input (standing_after settings input taken) x.state
  pub whole : out ++ meant x.state.hand.items ≡ arrivals_in (run_of settings input taken).marks
  pub counts : Counted (run_of settings input taken).marks no_counts x.state.tally
  pub within : (settings.stop_after ≡ 0) ⊎ ((length (events_of taken) ≡ x.taken) × (x.taken < settings.stop_after))

-- reading has ended
pub record IsOver (settings : Settings) (input : ℕ) (taken : List Scripted) (out : List (Arrival (List ℕ))) (x : Lane) : Type 0 where
  pub whole : out ++ left_by x.state.hand.items x.state.sessions ≡ arrivals_of settings input taken
  pub counts : Counted (marks_of settings input taken) no_counts x.state.tally

abbrev pub StandsBy : Reading → Settings → ℕ → List Scripted → List (Arrival (List ℕ)) → Lane → Type 0
StandsBy reading.Open settings input taken out x = IsReading settings input taken out x
StandsBy reading.Ended settings input taken out x = IsOver settings input taken out x
StandsBy reading.Failed settings input taken out x = IsOver settings input taken out x
StandsBy reading.Wanting settings input taken out x = ⊤

-- the source gave these answers, and these arrivals were given on
abbrev pub Stands : Settings → ℕ → List Scripted → List (Arrival (List ℕ)) → Lane → Type 0
Stands settings input taken out x = StandsBy x.reading settings input taken out x

abbrev pub GoesOnBy : Reading → Settings → ℕ → List Scripted → List (Arrival (List ℕ)) → Lane → Type 0
GoesOnBy reading.Open settings input taken out x = IsReading settings input taken out x
GoesOnBy reading.Ended settings input taken out x = IsOver settings input taken out x
GoesOnBy reading.Failed settings input taken out x = IsOver settings input taken out x
GoesOnBy reading.Wanting settings input taken out x = ⊥

-- the same, and memory was not wanted
abbrev pub GoesOn : Settings → ℕ → List Scripted → List (Arrival (List ℕ)) → Lane → Type 0
GoesOn settings input taken out x = GoesOnBy x.reading settings input taken out x

abbrev pub is_end : Reading → Bool
is_end reading.Open = false
is_end reading.Ended = true
is_end reading.Failed = true
is_end reading.Wanting = false

-- what a call answers, where with it the source gave these answers, and these arrivals had been given on
abbrev pub Answers : Settings → ℕ → List Scripted → List (Arrival (List ℕ)) → Lane → InletAnswer → Type 0
Answers settings input taken out x (answer.Got (given.SessionOpen key transport)) = GoesOn settings input taken (out ++ SessionOpen key transport ∷ []) x
Answers settings input taken out x (answer.Got (given.Raw key octets)) = GoesOn settings input taken (out ++ Raw key (arc_value octets) ∷ []) x
Answers settings input taken out x (answer.Got (given.SessionClose key)) = GoesOn settings input taken (out ++ SessionClose key ∷ []) x
Answers settings input taken out x (answer.Got (given.Periodic n seconds)) = GoesOn settings input taken (out ++ Periodic n seconds ∷ []) x
Answers settings input taken out x (answer.Got given.End) = IsOver settings input taken out x × (out ≡ arrivals_of settings input taken) × (is_end x.reading ≡ true)
Answers settings input taken out x answer.Nothing = IsReading settings input taken out x × (out ≡ arrivals_in (run_of settings input taken).marks) × (x.reading ≡ reading.Open)
Answers settings input taken out x answer.NotYet = IsReading settings input taken out x × (out ≡ arrivals_in (run_of settings input taken).marks) × (x.reading ≡ reading.Open)
Answers settings input taken out x answer.NoMemory = x.reading ≡ reading.Wanting

-- for whatever it stood for, a call that asked nothing
abbrev pub AnswersFrom : Lane → Lane → InletAnswer → Type 0
AnswersFrom old new a = (settings : Settings) (input : ℕ) (taken : List Scripted) (out : List (Arrival (List ℕ))) → Stands settings input taken out old → Answers settings input taken out new a

-- nothing waits, and reading goes on: the source may be asked
abbrev pub IsIdle : Lane → Type 0
IsIdle x = (x.reading ≡ reading.Open) × (x.state.hand.items ≡ [])

-- all was given on, and reading goes on
pub record IsEmptyHanded (old new : Lane) : Type 0 where
  pub was : old.reading ≡ reading.Open
  pub still : new.reading ≡ reading.Open
  pub idle : IsIdle new
  pub stands : (settings : Settings) (input : ℕ) (taken : List Scripted) (out : List (Arrival (List ℕ))) → Stands settings input taken out old
      → IsReading settings input taken out new × (out ≡ arrivals_in (run_of settings input taken).marks)

abbrev pub StillBy : Reading → Reading → InletAnswer → Type 0
StillBy old new answer.Nothing = ⊥
StillBy old new answer.NotYet = ⊥
StillBy old new (answer.Got a) = new ≡ old
StillBy old new answer.NoMemory = (new ≡ old) × (old ≡ reading.Wanting)

-- reading ended in this way, and an arrival or the end comes
abbrev pub EndsAs : Reading → Reading → InletAnswer → Type 0
EndsAs how new (answer.Got a) = new ≡ how
EndsAs how new answer.NoMemory = ⊥
EndsAs how new answer.Nothing = ⊥
EndsAs how new answer.NotYet = ⊥

abbrev pub IsNoLook : InletAnswer → Type 0
IsNoLook (answer.Got a) = ⊤
IsNoLook answer.NoMemory = ⊤
IsNoLook answer.Nothing = ⊤
IsNoLook answer.NotYet = ⊥

abbrev pub GaveBy : Scripted → InletAnswer → Type 0
GaveBy e (answer.Got a) = is_event e ≡ true
GaveBy e answer.NoMemory = is_event e ≡ true
GaveBy e answer.Nothing = is_event e ≡ true
GaveBy e answer.NotYet = e ≡ scripted.NotYet

abbrev pub kind_of : SourceEvent → Kind
kind_of (event.Opened c) = kind.Event
kind_of (event.Bytes c n) = kind.Event
kind_of (event.Datagram p n) = kind.Event
kind_of (event.Closed c) = kind.Event
kind_of (event.Tick s) = kind.Event
kind_of event.NotYet = kind.Look
kind_of event.End = kind.End

-- what an answer of a source is
abbrev pub IsKind : List ℕ → SourceEvent → Kind → Type 0
IsKind room event kind.Event = (e : Scripted) × (event_in room event ≡ Some e) × (is_event e ≡ true)
IsKind room event kind.Look = event_in room event ≡ Some scripted.NotYet
IsKind room event kind.End = event_in room event ≡ None

abbrev pub HandsOut : Lane → Lane → Option InletAnswer → Type 0
HandsOut old new None = IsEmptyHanded old new
HandsOut old new (Some a) = AnswersFrom old new a × StillBy old.reading new.reading a

-- how many arrivals are given without a question, the end not among them
abbrev pub still_left : Lane → ℕ
still_left x = length (left_by x.state.hand.items x.state.sessions)

-- an arrival is given, and they are fewer
abbrev pub LessensBy : Lane → Lane → InletAnswer → Type 0
LessensBy old new (answer.Got (given.SessionOpen key transport)) = still_left new < still_left old
LessensBy old new (answer.Got (given.Raw key octets)) = still_left new < still_left old
LessensBy old new (answer.Got (given.SessionClose key)) = still_left new < still_left old
LessensBy old new (answer.Got (given.Periodic n seconds)) = still_left new < still_left old
LessensBy old new (answer.Got given.End) = ⊤
LessensBy old new answer.Nothing = ⊤
LessensBy old new answer.NotYet = ⊤
LessensBy old new answer.NoMemory = ⊤

abbrev pub Lessens : Lane → Lane → Option InletAnswer → Type 0
Lessens old new None = ⊤
Lessens old new (Some a) = LessensBy old new a

-- how an input broke
abbrev pub fault_of : Reading → LaneFault
fault_of reading.Open = fault.Nothing
fault_of reading.Ended = fault.Nothing
fault_of reading.Failed = fault.Source
fault_of reading.Wanting = fault.NoMemory

-- no more events came than are taken
abbrev pub IsWithin : Settings → List Scripted → Type 0
IsWithin settings taken = (settings.stop_after ≡ 0) ⊎ (length (events_of taken) ≤ settings.stop_after)

-- so far, when the last event may have reached the limit
pub record IsTaken (settings : Settings) (input : ℕ) (taken : List Scripted) (out : List (Arrival (List ℕ))) (x : Lane) : Type 0 where
  pub keeps : Keeps settings input (standing_after settings input taken) x.state
  pub whole : out ++ meant x.state.hand.items ≡ arrivals_in (run_of settings input taken).marks
  pub counts : Counted (run_of settings input taken).marks no_counts x.state.tally
  pub within : IsWithin settings taken

-- as many events were taken as may be
abbrev pub IsFull : Settings → List Scripted → Type 0
IsFull settings taken = (0 < settings.stop_after) × (length (events_of taken) ≡ settings.stop_after)

-- how reading stands behind an event: it goes on, or it has ended since as many were taken as may be, or memory was wanted
abbrev pub StandsBehind : Reading → Settings → List Scripted → Type 0
StandsBehind reading.Open settings taken = ⊤
StandsBehind reading.Ended settings taken = IsFull settings taken
StandsBehind reading.Failed settings taken = ⊥
StandsBehind reading.Wanting settings taken = ⊤

abbrev pub Ends : Lane → Lane → InletAnswer → Type 0
Ends old new a = (settings : Settings) (input : ℕ) (taken : List Scripted) (out : List (Arrival (List ℕ))) → IsTaken settings input taken out old → Answers settings input taken out new a

abbrev pub Took : Scripted → Lane → Lane → InletAnswer → Type 0
Took e old new a = (settings : Settings) (input : ℕ) (taken : List Scripted) (out : List (Arrival (List ℕ))) → IsReading settings input taken out old → Answers settings input (taken ++ e ∷ []) out new a

-- reading that ends with an event ends since as many were taken as may be, whatever came before
abbrev pub StopsBy : Scripted → Lane → Lane → Type 0
StopsBy e old new = (settings : Settings) (input : ℕ) (taken : List Scripted) (out : List (Arrival (List ℕ))) → IsReading settings input taken out old → StandsBehind new.reading settings (taken ++ e ∷ [])

-- what became of the source in a call
pub data Asked : Type 0 where
  NotAsked : Asked
  Gave : Scripted → Asked
  AtEnd : Asked
  Failing : Asked
  Wanted : Asked

-- the source was asked
abbrev pub IsQuestion : Asked → Type 0
IsQuestion NotAsked = ⊥
IsQuestion (Gave e) = ⊤
IsQuestion AtEnd = ⊤
IsQuestion Failing = ⊤
IsQuestion Wanted = ⊤

abbrev pub and_given : Asked → List Scripted → List Scripted
and_given NotAsked taken = taken
and_given (Gave e) taken = taken ++ e ∷ []
and_given AtEnd taken = taken
and_given Failing taken = taken
and_given Wanted taken = taken

module _ {S : Type 0} (left : S → Option (List Scripted)) (faults : S → ℕ) where
  abbrev pub Asks : Asked → S → S → Type 0
  Asks NotAsked old new = new ≡ old
  Asks (Gave e) old new = TakesFirst (left old) (left new) (Some e) × (faults new ≡ faults old)
  Asks AtEnd old new = TakesFirst (left old) (left new) None × (faults new ≡ faults old)
  Asks Failing old new = (left new ≡ left old) × ((faults old ≤ faults new) × Rose (faults old) (faults new))
  Asks Wanted old new = (left new ≡ left old) × (faults new ≡ faults old)

-- which answers a question allows, and how reading goes on
abbrev pub Causes : Asked → Reading → Reading → InletAnswer → Type 0
Causes NotAsked old new a = StillBy old new a
Causes (Gave e) old new a = (old ≡ reading.Open) × GaveBy e a
Causes AtEnd old new a = (old ≡ reading.Open) × EndsAs reading.Ended new a
Causes Failing old new a = (old ≡ reading.Open) × EndsAs reading.Failed new a
Causes Wanted old new a = (old ≡ reading.Open) × (a ≡ answer.NoMemory)

-- reading that an event ends has taken as many as may be
abbrev pub Stops : Asked → Lane → Lane → Type 0
Stops NotAsked old new = ⊤
Stops (Gave e) old new = (settings : Settings) (input : ℕ) (taken : List Scripted) (out : List (Arrival (List ℕ))) → Stands settings input taken out old → StandsBehind new.reading settings (taken ++ e ∷ [])
Stops AtEnd old new = ⊤
Stops Failing old new = ⊤
Stops Wanted old new = ⊤
