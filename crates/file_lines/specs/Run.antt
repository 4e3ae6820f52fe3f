-- What a run over a source and a sink promises.
use Rattle.std.specs.Prelude.{ℕ, ◌≡◌, ◌<◌, ◌^◌, ◌||◌, List, [], ◌∷◌, ◌++◌, Option, Some, None, length, is_some}
use Rattle.arrival_spec.specs.declared.event.Scripted.{Scripted}
use Rattle.arrival_spec.specs.Arrival.{Arrival}
use Rattle.run_spec.specs.Read.{ReadArrival, AreReadAs}
use Rattle.site_io.specs.declared.outside.OutsideFault.{OutsideFault}
use Rattle.call_spec.specs.declared.end.InputEnd.{InputEnd}
use Rattle.call_spec.specs.declared.end.InputEnd.TheVariants as end
use Rattle.call_spec.specs.Files.{IsFileText, file_settings}
use Rattle.call_spec.specs.Counts.{MovesBy}
use Rattle.call_spec.specs.Ends.{TakenFrom, EndsReading, GrowsAs, source_failed, has_failed, wants_memory}
use Rattle.input_lane.specs.declared.inlet.Inlet.{Inlet}
use Rattle.input_lane.specs.declared.state.Lane.{Lane}
use Rattle.input_lane.specs.declared.state.Reading.TheVariants as reading
use Rattle.input_lane.specs.Inlets.{IsIdle, IsReading, Stands}
use Rattle.file_lines.specs.declared.open_sessions.OpenSessions.{OpenSessions}
use Rattle.file_lines.specs.declared.texts.Texts.{Texts}
use Rattle.file_lines.specs.Sessions.{StandsFor}
use Rattle.file_lines.specs.Work.{IsDecoded, HasWritten}

-- nothing was asked yet
abbrev pub IsReady : Lane → Type 0
IsReady lane = IsIdle lane × Stands file_settings 0 [] [] lane

-- nothing was worked off and written yet
abbrev pub IsFresh : OpenSessions → Texts → Type 0
IsFresh sessions texts = StandsFor sessions [] × (texts.fault ≡ None)

module _ {K : Type 0} (held : K → Option (List ℕ)) (sink_faults : K → ℕ) where
  -- reading goes on behind these events, and all arrivals that the input gave on were worked off
  pub record Working (given : List Scripted) (first : Option (List ℕ)) (count : ℕ) (lane : Lane) (sessions : OpenSessions) (texts : Texts) (sink : K) : Type 0 where
    pub reads_on : lane.reading ≡ reading.Open
    pub out : List (Arrival (List ℕ))
    pub stands : IsReading file_settings 0 given out lane
    pub read : List ReadArrival
    pub are_read : AreReadAs out read
    pub text : List ℕ
    pub decoded : IsDecoded read sessions text
    pub has : HasWritten held sink_faults first count texts sink text

  -- a front of the text of these events was written
  pub record IsFront (given : List Scripted) (first : Option (List ℕ)) (count : ℕ) (texts : Texts) (sink : K) : Type 0 where
    pub text : List ℕ
    pub more : List ℕ
    pub is : IsFileText given (text ++ more)
    pub has : HasWritten held sink_faults first count texts sink text

  -- an answer was worked off, or all that waited: the input may go on; or memory was wanted
  abbrev pub WorkedTo : List Scripted → Option (List ℕ) → ℕ → Lane → OpenSessions → Texts → K → Option InputEnd → Type 0
  WorkedTo given first count lane sessions texts sink None = Working given first count lane sessions texts sink
  WorkedTo given first count lane sessions texts sink (Some end.End) = ⊥
  WorkedTo given first count lane sessions texts sink (Some end.Failed) = ⊥
  WorkedTo given first count lane sessions texts sink (Some end.Limit) = ⊥
  WorkedTo given first count lane sessions texts sink (Some end.Memory) = IsFront given first count texts sink

  abbrev pub WorksWaiting : Lane → Lane → OpenSessions → OpenSessions → Texts → Texts → K → K → Option InputEnd → Type 0
  WorksWaiting old new sessions now_sessions texts now_texts sink now_sink result =
      (given : List Scripted) (first : Option (List ℕ)) (count : ℕ) → Working given first count old sessions texts sink → WorkedTo given first count new now_sessions now_texts now_sink result

module _ {S K : Type 0} (left : S → Option (List Scripted)) (faults : S → ℕ) (held : K → Option (List ℕ)) (sink_faults : K → ℕ) where
  -- a run has read these events, and written their text
  pub record SoFar (given : List Scripted) (first_source : S) (inlet : Inlet S) (first_sink sink : K) (sessions : OpenSessions) (texts : Texts) : Type 0 where
    pub taken : TakenFrom (left first_source) (left inlet.source) given
    pub unfailed : faults inlet.source ≡ faults first_source
    pub idle : IsIdle inlet.lane
    pub working : Working held sink_faults given (held first_sink) (sink_faults first_sink) inlet.lane sessions texts sink

  -- A run gave these events, and wrote their text: the whole of it, or a front where the output ended, or memory was wanted
  -- to read it. The source gave all of them before it failed, if it did.
  pub record Ran (source now_source : S) (sink now_sink : K) (end : InputEnd) (fault : Option OutsideFault) : Type 0 where
    pub given : List Scripted
    pub taken : TakenFrom (left source) (left now_source) given
    pub unfailed : (mid : S) × (faults mid ≡ faults source) × TakenFrom (left source) (left mid) given
    pub counts : MovesBy (source_failed end) (faults source) (faults now_source)
    pub ends : EndsReading (left source) (left now_source) given end
    pub text : List ℕ
    pub is : IsFileText given text
    pub octets : GrowsAs (is_some fault || wants_memory end) (held sink) (held now_sink) text
    pub sink_counts : MovesBy (has_failed fault) (sink_faults sink) (sink_faults now_sink)

  -- the source was asked once: an event more was read, or the run ended
  abbrev pub StepsTo : List Scripted → S → Inlet S → K → K → OpenSessions → Texts → Option InputEnd → Type 0
  StepsTo given first_source inlet first_sink sink sessions texts None = (e : Scripted) × SoFar (given ++ e ∷ []) first_source inlet first_sink sink sessions texts
  StepsTo given first_source inlet first_sink sink sessions texts (Some e) = Ran first_source inlet.source first_sink sink e texts.fault

  abbrev pub Steps : Inlet S → Inlet S → OpenSessions → OpenSessions → Texts → Texts → K → K → Option InputEnd → Type 0
  Steps inlet now_inlet sessions now_sessions texts now_texts sink now_sink result =
      (given : List Scripted) (first_source : S) (first_sink : K) → length given < 2 ^ 48 → SoFar given first_source inlet first_sink sink sessions texts
      → StepsTo given first_source now_inlet first_sink now_sink now_sessions now_texts result
