-- What may come of a call.
use Rattle.std.specs.Prelude.{ℕ, Bool, List, Option}
use Rattle.arrival_spec.specs.declared.event.Scripted.{Scripted}
use Rattle.config_spec.specs.declared.fault.ConfFault.{ConfFault}
use Rattle.count_spec.specs.Counts.{Counts}
use Rattle.element_spec.specs.declared.fault.TableFault.{TableFault}
use Rattle.site_io.specs.declared.outside.OutsideFault.{OutsideFault}
use Rattle.call_spec.specs.declared.end.InputEnd.{InputEnd}
use Rattle.call_spec.specs.declared.end.OutputFault.{OutputFault}

-- an input or an output: its name in lines, and its place or its sink's name
pub record Party : Type 0 where
  pub name : List ℕ
  pub at : List ℕ

-- the inputs, the sink name of the order log, if there is one, the names of the intermediates, and the outputs; all but
-- the intermediates are opened in this order
pub record Parties : Type 0 where
  pub inputs : List Party
  pub log : Option (List ℕ)
  pub stages : List (List ℕ)
  pub outputs : List Party

-- why a call is refused before its run: the text of this name failed; the description, or the element table of this name,
-- has this fault; the source of this input, the log's sink or the sink of this output could not be opened; memory was
-- wanted
pub data Refusal : Type 0 where
  NoText : List ℕ → Refusal
  BadDescription : ConfFault → Refusal
  BadElements : List ℕ → TableFault → Refusal
  NoSource : ℕ → Refusal
  NoLog : Refusal
  NoOutput : ℕ → Refusal
  NoMemory : Refusal

-- the events that an input gave, how it ended, and whether its source failed: it may have wanted memory as well
pub record InputCame : Type 0 where
  pub given : List Scripted
  pub end : InputEnd
  pub failed : Bool

-- a run: what each input gave; the input of each arrival that was worked off, in order; why the log ended, if it did;
-- whether each intermediate wanted memory; why each output ended, if it did; and what was counted
pub record RunCame : Type 0 where
  pub inputs : List InputCame
  pub order : List ℕ
  pub log : Option OutsideFault
  pub stages : List Bool
  pub outputs : List (Option OutputFault)
  pub counts : Counts

pub data Came : Type 0 where
  -- the words were refused
  BadWords : Came
  -- there was no fault to tell, and nothing to run
  Fine : Came
  -- the call was refused before its run, after so many places and sinks were tried
  Refused : Refusal → (places sinks : ℕ) → Came
  Ran : RunCame → Came
  -- generated load ran, into sinks that keep the number of octets alone: what each output's sink tells
  Loaded : RunCame → (lengths : List ℕ) → Came
