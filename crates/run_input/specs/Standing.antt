-- What an input stands for but for its source: all that its source gave, and the arrivals whose messages it handed on.
use Rattle.std.specs.Prelude.{ℕ, ◌≡◌, ⊤, false, List, [], ◌∷◌, ◌++◌, Option, Some, None}
use Rattle.arrival_spec.specs.declared.event.Scripted.{Scripted}
use Rattle.arrival_spec.specs.Arrival.{Arrival}
use Rattle.arrival_spec.specs.Settings.{Settings}
use Rattle.arrival_spec.specs.Run.{arrivals_of, marks_of}
use Rattle.run_spec.specs.Read.{ReadArrival, AreReadAs, IsReadAs}
use Rattle.run_spec.specs.Work.{work_of, works_of, item_of as item_given}
use Rattle.count_spec.specs.Counts.{counts}
use Rattle.call_spec.specs.declared.end.InputEnd.{InputEnd}
use Rattle.call_spec.specs.declared.end.InputEnd.TheVariants as end
use Rattle.pipeline_message.specs.declared.lane_fault.LaneFault.{LaneFault}
use Rattle.pipeline_message.specs.declared.lane_fault.LaneFault.TheVariants as fault
use Rattle.pipeline_message.specs.Items.{item_of, IsSoundMessage}
use Rattle.pipeline_message.specs.Shown.{shown_counts}
use Rattle.input_lane.specs.declared.state.Lane.{Lane}
use Rattle.input_lane.specs.declared.state.Reading.TheVariants as reading
use Rattle.input_lane.specs.Inlets.{GoesOn}
use Rattle.input_lane.specs.Tallies.{CountsMarks}
use Rattle.parser_lane.specs.declared.parser.Parser.{Parser}
use Rattle.parser_lane.specs.Parsers.{CanCome, inputs, Stands as ParserStands}
use Rattle.run_input.specs.declared.work.Worked.{Worked}
use Rattle.run_input.specs.declared.work.Worked.TheVariants as worked

-- how an input ended whose lane broke so, or didn't
abbrev pub end_by : LaneFault → InputEnd
end_by fault.Nothing = end.End
end_by fault.Source = end.Failed
end_by fault.Sink = end.End
end_by (fault.Limit n) = end.End
end_by fault.NoMemory = end.Memory

-- an arrival was worked off, unless it was the end
abbrev pub WorksOff : Option (Arrival (List ℕ)) → Parser → Parser → Worked → Type 0
WorksOff None old new (worked.Message msg) = ⊥
WorksOff None old new worked.Last = new ≡ old
WorksOff None old new worked.Wanted = ⊥
WorksOff (Some a) old new (worked.Message msg) = (new.wanting ≡ false) × ((r : ReadArrival) × IsReadAs a r
    × ((settings : Settings) (read : List ReadArrival) → ParserStands settings read old.sessions → CanCome read (Some a)
    → (item_of msg ≡ Some (item_given (inputs settings) (work_of (inputs settings) read r))) × ParserStands settings (read ++ r ∷ []) new.sessions))
WorksOff (Some a) old new worked.Last = ⊥
WorksOff (Some a) old new worked.Wanted = ⊤

abbrev pub IsSoundWork : Worked → Type 0
IsSoundWork (worked.Message msg) = IsSoundMessage msg
IsSoundWork worked.Last = ⊤
IsSoundWork worked.Wanted = ⊤

-- these arrivals were worked off, and more may come
pub record IsOpen (settings : Settings) (number : ℕ) (given : List Scripted) (read : List ReadArrival) (lane : Lane) (p : Parser) : Type 0 where
  pub out : List (Arrival (List ℕ))
  pub goes_on : GoesOn settings number given out lane
  pub are_read : AreReadAs out read
  pub working : p.wanting ≡ false
  pub stands : ParserStands settings read p.sessions

-- all arrivals were worked off
pub record IsDone (settings : Settings) (number : ℕ) (given : List Scripted) (read : List ReadArrival) (lane : Lane) (p : Parser) : Type 0 where
  pub are_read : AreReadAs (arrivals_of settings number given) read
  pub marks : CountsMarks (marks_of settings number given) lane.state.tally
  pub works : p.sessions.counts ≡ shown_counts (counts (inputs settings) [] (works_of (inputs settings) read))

-- some first arrivals were worked off
pub record IsFront (settings : Settings) (number : ℕ) (given : List Scripted) (read : List ReadArrival) : Type 0 where
  pub out : List (Arrival (List ℕ))
  pub rest : List (Arrival (List ℕ))
  pub whole : arrivals_of settings number given ≡ out ++ rest
  pub are_read : AreReadAs out read

-- all of them where the input has ended, unless memory was wanted
abbrev pub StandsBy : Option InputEnd → Settings → ℕ → List Scripted → List ReadArrival → Lane → Parser → Type 0
StandsBy None settings number given read lane p = IsOpen settings number given read lane p
StandsBy (Some end.End) settings number given read lane p = IsDone settings number given read lane p × (lane.reading ≡ reading.Ended)
StandsBy (Some end.Failed) settings number given read lane p = IsDone settings number given read lane p × (lane.reading ≡ reading.Failed)
StandsBy (Some end.Limit) settings number given read lane p = ⊥
StandsBy (Some end.Memory) settings number given read lane p = IsFront settings number given read
