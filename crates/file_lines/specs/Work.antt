-- What comes of what an input answers.
use Rattle.std.specs.Prelude.{ℕ, ◌≡◌, true, List, [], ◌∷◌, ◌++◌, Option, Some, None}
use Rattle.arrival_spec.specs.Arrival.{Arrival}
use Rattle.text_spec.specs.Builtin.{builtin_rows}
use Rattle.run_spec.specs.Read.{ReadArrival, IsReadAs}
use Rattle.run_spec.specs.Work.{items_of}
use Rattle.run_spec.specs.Result.{json_text}
use Rattle.call_spec.specs.declared.end.InputEnd.{InputEnd}
use Rattle.call_spec.specs.declared.end.InputEnd.TheVariants as end
use Rattle.input_lane.specs.declared.came.InletAnswer.{InletAnswer}
use Rattle.input_lane.specs.declared.came.InletAnswer.TheVariants as answer
use Rattle.parser_lane.specs.Parsers.{CanCome, arrival_of}
use Rattle.file_lines.specs.declared.open_sessions.OpenSessions.{OpenSessions}
use Rattle.file_lines.specs.declared.texts.Texts.{Texts}
use Rattle.file_lines.specs.Texts.{Wrote}
use Rattle.file_lines.specs.Session.{files}
use Rattle.file_lines.specs.Sessions.{StandsFor}

-- arrivals have this text, and these sessions stand for them
pub record IsDecoded (read : List ReadArrival) (sessions : OpenSessions) (text : List ℕ) : Type 0 where
  pub stands : StandsFor sessions read
  pub is : text ≡ json_text true builtin_rows (items_of files read)

-- nothing came of an answer
abbrev pub IsAsBefore : {K : Type 0} → OpenSessions → OpenSessions → Texts → Texts → K → K → Type 0
IsAsBefore old new before after sink now_sink = (new ≡ old) × (after ≡ before) × (now_sink ≡ sink)

module _ {K : Type 0} (held : K → Option (List ℕ)) (faults : K → ℕ) where
  -- since a sink held this, and had failed so often, this text was written to it
  abbrev pub HasWritten : Option (List ℕ) → ℕ → Texts → K → List ℕ → Type 0
  HasWritten first count texts sink text = Wrote first (held sink) count (faults sink) text texts.fault

  -- one arrival more, and what was written then
  pub record WritesBehind (past : List ReadArrival) (a : Arrival (List ℕ)) (first : Option (List ℕ)) (count : ℕ) (new : OpenSessions) (after : Texts) (now_sink : K) : Type 0 where
    pub read : ReadArrival
    pub is : IsReadAs a read
    pub text : List ℕ
    pub decoded : IsDecoded (past ++ read ∷ []) new text
    pub has : HasWritten first count after now_sink text

  -- an arrival was worked off and its lines were written, whichever came before
  abbrev pub Writes : Arrival (List ℕ) → OpenSessions → OpenSessions → Texts → Texts → K → K → Type 0
  Writes a old new before after sink now_sink =
      (past : List ReadArrival) (text : List ℕ) (first : Option (List ℕ)) (count : ℕ) → IsDecoded past old text → CanCome past (Some a) → HasWritten first count before sink text
      → WritesBehind past a first count new after now_sink

  -- what was written stays
  abbrev pub KeepsWritten : Texts → Texts → K → K → Type 0
  KeepsWritten before after sink now_sink = (text : List ℕ) (first : Option (List ℕ)) (count : ℕ) → HasWritten first count before sink text → HasWritten first count after now_sink text

  -- an arrival was worked off; the end is none
  abbrev pub WorksOff : Option (Arrival (List ℕ)) → OpenSessions → OpenSessions → Texts → Texts → K → K → Option InputEnd → Type 0
  WorksOff None old new before after sink now_sink result = result ≡ Some end.End
  WorksOff (Some a) old new before after sink now_sink None = Writes a old new before after sink now_sink
  WorksOff (Some a) old new before after sink now_sink (Some e) = (e ≡ end.Memory) × KeepsWritten before after sink now_sink

  -- an answer was worked off
  abbrev pub TakesAnswer : InletAnswer → OpenSessions → OpenSessions → Texts → Texts → K → K → Option InputEnd → Type 0
  TakesAnswer (answer.Got arrival) old new before after sink now_sink result = WorksOff (arrival_of arrival) old new before after sink now_sink result
  TakesAnswer answer.Nothing old new before after sink now_sink result = (result ≡ None) × IsAsBefore old new before after sink now_sink
  TakesAnswer answer.NotYet old new before after sink now_sink result = (result ≡ None) × IsAsBefore old new before after sink now_sink
  TakesAnswer answer.NoMemory old new before after sink now_sink result = (result ≡ Some end.Memory) × IsAsBefore old new before after sink now_sink
