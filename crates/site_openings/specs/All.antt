-- All sources and sinks of a run: out, or refused.
use Rattle.std.specs.Prelude.{ℕ, zero, suc, ◌≡◌, List, Option, Some, None}
use Rattle.arrival_spec.specs.declared.event.Scripted.{Scripted}
use Rattle.config_spec.specs.declared.conf.Conf.{Conf}
use Rattle.text_spec.specs.declared.element.Element.{Element}
use Rattle.site_io.specs.Seen.{Seen}
use Rattle.call_spec.specs.Came.{Refusal}
use Rattle.call_spec.specs.Came.Refusal.{NoSource, NoLog, NoOutput, NoMemory}
use Rattle.call_spec.specs.Came.Came.{Refused}
use Rattle.call_spec.specs.Plan.{described_parties}
use Rattle.call_spec.specs.Plan.Plan.{Described}
use Rattle.call_spec.specs.Leaves.{Comes, sink_names}
use Rattle.site_openings.specs.Places.{places_of, SourcesOut}
use Rattle.site_openings.specs.Sinks.{SinksOut}
use Rattle.site_openings.specs.declared.stopped.Stopped.{Stopped}
use Rattle.site_openings.specs.declared.stopped.Stopped.TheVariants.{At, Memory}
use Rattle.site_openings.specs.declared.all.Unopened.{Unopened}
use Rattle.site_openings.specs.declared.all.Unopened.TheVariants as unopened

abbrev pub refusal_of : Unopened → Refusal
refusal_of (unopened.Source i) = NoSource i
refusal_of unopened.Log = NoLog
refusal_of (unopened.Output j) = NoOutput j
refusal_of unopened.Memory = NoMemory

-- the sink of this index could not be opened: the log's is the first, if there is a log
abbrev pub sink_refusal : Option (List ℕ) → ℕ → Refusal
sink_refusal None j = NoOutput j
sink_refusal (Some path) zero = NoLog
sink_refusal (Some path) (suc j) = NoOutput j

-- a source, or a sink, could not be opened, or memory was wanted for it
abbrev pub source_stopped : Stopped → Refusal
source_stopped (At i) = NoSource i
source_stopped Memory = NoMemory

abbrev pub sink_stopped : Option (List ℕ) → Stopped → Refusal
sink_stopped log (At i) = sink_refusal log i
sink_stopped log Memory = NoMemory

module _ {S K : Type 0} (left : S → Option (List Scripted)) (faults : S → ℕ) (held : K → Option (List ℕ)) (sink_faults : K → ℕ) where
  -- the sources of a description went out, and then its sinks
  abbrev pub AreOut : Conf → List S → List K → Seen → Seen → Type 0
  AreOut conf sources sinks old new = (mid : Seen) × SourcesOut left faults (places_of conf.inputs) sources old mid × SinksOut held sink_faults (sink_names (described_parties conf)) sinks mid new

module _ {S : Type 0} (left : S → Option (List Scripted)) (faults : S → ℕ) where
  -- what comes of a call whose run was refused so, whatever its elements are, before anything is said
  abbrev pub IsRefused : Conf → Refusal → Seen → Seen → Type 0
  IsRefused conf refusal old new = (n : ℕ) × (m : ℕ) × ((rows : List Element) → Comes left faults (Described conf rows) (Refused refusal n m) old new) × (new.say ≡ old.say)
