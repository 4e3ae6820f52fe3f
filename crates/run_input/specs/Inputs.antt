-- What an input of a run stands for, with its source.
use Rattle.std.specs.Prelude.{ℕ, ◌≡◌, ◌⊎◌, ⊤, true, List, [], ◌∷◌, ◌++◌, Option, Some, None, IsSome}
use Rattle.arrival_spec.specs.declared.event.Scripted.{Scripted}
use Rattle.arrival_spec.specs.declared.event.Scripted.TheVariants.{NotYet}
use Rattle.arrival_spec.specs.Settings.{Settings}
use Rattle.arrival_spec.specs.Events.{is_event}
use Rattle.arrival_spec.specs.Mark.{arrivals_in}
use Rattle.arrival_spec.specs.Run.{marks_of, run_of}
use Rattle.run_spec.specs.Read.{ReadArrival, AreReadAs}
use Rattle.run_spec.specs.Work.{work_of, works_of, item_of as item_given}
use Rattle.count_spec.specs.Counts.{counts}
use Rattle.call_spec.specs.Counts.{MovesBy}
use Rattle.call_spec.specs.declared.end.InputEnd.{InputEnd}
use Rattle.call_spec.specs.Ends.{TakenFrom, IsNothingLeft, IsFull, IsWithin, HasRoom}
use Rattle.pipeline_message.specs.declared.run_counts.RunCounts.{RunCounts}
use Rattle.pipeline_message.specs.Items.{item_of, IsSoundMessage}
use Rattle.pipeline_message.specs.Shown.{shown_counts}
use Rattle.input_lane.specs.declared.state.Reading.{Reading}
use Rattle.input_lane.specs.declared.state.Reading.TheVariants as reading
use Rattle.input_lane.specs.Inlets.{Asked, Asks, and_given}
use Rattle.input_lane.specs.Inlets.Asked.{NotAsked, Gave, AtEnd, Failing, Wanted}
use Rattle.parser_lane.specs.Parsers.{inputs}
use Rattle.run_input.specs.declared.input.Input.{Input}
use Rattle.run_input.specs.declared.input.InputAnswer.{InputAnswer}
use Rattle.run_input.specs.declared.input.InputAnswer.TheVariants as answer
use Rattle.run_input.specs.Standing.{IsDone, StandsBy}

-- How reading stands by what is left of the source, and by how many events may be taken: it goes on while there is room; it
-- has ended where nothing is left, or as many were taken as may be; and it failed before that.
abbrev pub ReadsBy : ℕ → Option (List Scripted) → Option (List Scripted) → List Scripted → Reading → Type 0
ReadsBy limit left now_left given reading.Open = HasRoom limit given
ReadsBy limit left now_left given reading.Ended = (IsNothingLeft left now_left × IsWithin limit given) ⊎ IsFull limit given
ReadsBy limit left now_left given reading.Failed = HasRoom limit given
ReadsBy limit left now_left given reading.Wanting = IsWithin limit given

-- the count of the source's faults rose exactly where reading failed; nothing is said where memory was wanted
abbrev pub FailsBy : Reading → ℕ → ℕ → Type 0
FailsBy reading.Open before now = now ≡ before
FailsBy reading.Ended before now = now ≡ before
FailsBy reading.Failed before now = MovesBy true before now
FailsBy reading.Wanting before now = ⊤

-- a message has records at its places
abbrev pub IsSoundAnswer : InputAnswer → Type 0
IsSoundAnswer (answer.Message msg) = IsSoundMessage msg
IsSoundAnswer answer.Nothing = ⊤
IsSoundAnswer answer.NotYet = ⊤
IsSoundAnswer answer.Ended = ⊤

-- what a source gave that was asked: an event, or that it had nothing ready where that is answered
abbrev pub IsGiven : Scripted → InputAnswer → Type 0
IsGiven e (answer.Message msg) = is_event e ≡ true
IsGiven e answer.Nothing = is_event e ≡ true
IsGiven e answer.NotYet = e ≡ NotYet
IsGiven e answer.Ended = is_event e ≡ true

-- an answer that needs no event: a message may have waited, or the input has ended
abbrev pub NeedsNone : InputAnswer → Type 0
NeedsNone (answer.Message msg) = ⊤
NeedsNone answer.Nothing = ⊥
NeedsNone answer.NotYet = ⊥
NeedsNone answer.Ended = ⊤

-- which answers a question to the source allows
abbrev pub IsCause : Asked → InputAnswer → Type 0
IsCause NotAsked a = NeedsNone a
IsCause (Gave e) a = IsGiven e a
IsCause AtEnd a = NeedsNone a
IsCause Failing a = NeedsNone a
IsCause Wanted a = a ≡ answer.Ended

-- only an input that hasn't ended asks its source
abbrev pub MayAsk : Asked → Option InputEnd → Type 0
MayAsk NotAsked end = ⊤
MayAsk (Gave e) end = end ≡ None
MayAsk AtEnd end = end ≡ None
MayAsk Failing end = end ≡ None
MayAsk Wanted end = end ≡ None

-- the messages of all arrivals of these events were handed on, but for what comes with the end
abbrev pub AreAllRead : Settings → ℕ → List Scripted → List ReadArrival → Type 0
AreAllRead settings number given read = AreReadAs (arrivals_in (run_of settings number given).marks) read

-- the counts of an input that has ended are those that a run has of its events
abbrev pub CountsAll : {S : Type 0} → Input S → RunCounts → Type 0
CountsAll x c = (settings : Settings) (number : ℕ) (given : List Scripted) (read : List ReadArrival) → IsDone settings number given read x.inlet.lane x.parser
    → c ≡ shown_counts (counts (inputs settings) (marks_of settings number given) (works_of (inputs settings) read))

module _ {S : Type 0} (left : S → Option (List Scripted)) (faults : S → ℕ) where
  -- a source that had not failed since the first had given these events
  abbrev pub GaveUnfailed : S → List Scripted → Type 0
  GaveUnfailed first given = (source : S) × (faults source ≡ faults first) × TakenFrom (left first) (left source) given

  -- since the first the source gave these events, and the messages of these arrivals were handed on
  pub record HasGiven (first : S) (settings : Settings) (number : ℕ) (given : List Scripted) (read : List ReadArrival) (x : Input S) : Type 0 where
    pub numbered : x.number ≡ number
    pub taken : TakenFrom (left first) (left x.inlet.source) given
    pub unfailed : GaveUnfailed first given
    pub reads : ReadsBy settings.stop_after (left first) (left x.inlet.source) given x.inlet.lane.reading
    pub fails : FailsBy x.inlet.lane.reading (faults first) (faults x.inlet.source)
    pub stands : StandsBy x.end settings number given read x.inlet.lane x.parser

  -- it stands for something
  pub record IsRight (x : Input S) : Type 0 where
    pub first : S
    pub settings : Settings
    pub number : ℕ
    pub given : List Scripted
    pub read : List ReadArrival
    pub has : HasGiven first settings number given read x

  -- what is answered where the source gave these events, and the messages of these arrivals had been handed on
  abbrev pub Answers : S → Settings → ℕ → List Scripted → List ReadArrival → Input S → InputAnswer → Type 0
  Answers first settings number given read x (answer.Message msg) =
      (r : ReadArrival) × (item_of msg ≡ Some (item_given (inputs settings) (work_of (inputs settings) read r))) × HasGiven first settings number given (read ++ r ∷ []) x × (x.end ≡ None)
  Answers first settings number given read x answer.Nothing = HasGiven first settings number given read x × (x.end ≡ None) × AreAllRead settings number given read
  Answers first settings number given read x answer.NotYet = HasGiven first settings number given read x × (x.end ≡ None) × AreAllRead settings number given read
  Answers first settings number given read x answer.Ended = HasGiven first settings number given read x × IsSome x.end

  -- what became of the source in a question, and what is answered for that
  pub record Asking (asked : Asked) (old new : Input S) (a : InputAnswer) : Type 0 where
    pub asks : Asks left faults asked old.inlet.source new.inlet.source
    pub cause : IsCause asked a
    pub may : MayAsk asked old.end

  -- whatever an input stood for, its source was asked once at most, and it stands for that with what came
  abbrev pub Brings : Input S → Input S → InputAnswer → Type 0
  Brings old new a = (asked : Asked) × Asking asked old new a
      × ((first : S) (settings : Settings) (number : ℕ) (given : List Scripted) (read : List ReadArrival) → HasGiven first settings number given read old → Answers first settings number (and_given asked given) read new a)
