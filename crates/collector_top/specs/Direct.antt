-- What came of opening and running `direct`, before its lines are said.
use Rattle.std.specs.Prelude.{ℕ, ◌≡◌, List, [], ◌∷◌, Option, Some, None}
use Rattle.arrival_spec.specs.declared.event.Scripted.{Scripted}
use Rattle.site_io.specs.declared.outside.OutsideFault.{OutsideFault}
use Rattle.site_io.specs.declared.outside.OutsideFault.TheVariants as fault
use Rattle.site_io.specs.Seen.{Seen}
use Rattle.call_spec.specs.declared.end.InputEnd.TheVariants as end
use Rattle.call_spec.specs.declared.end.OutputFault.{OutputFault}
use Rattle.call_spec.specs.declared.end.OutputFault.TheVariants as output
use Rattle.call_spec.specs.Came.{Refusal, RunCame}
use Rattle.call_spec.specs.Came.Refusal.{NoSource, NoOutput, NoMemory}
use Rattle.call_spec.specs.Came.Came.{Refused, Ran}
use Rattle.call_spec.specs.Leaves.{Comes}
use Rattle.call_spec.specs.Ends.{source_failed}
use Rattle.call_spec.specs.Lines.{input_line, sink_line, memory_text}
use Rattle.call_spec.specs.Plan.{in_name, out_name}
use Rattle.call_spec.specs.Plan.Plan.{OneFile}
use Rattle.count_spec.specs.Examples.{nothing_counted}
use Rattle.file_lines.specs.declared.run.Ended.{Ended}
use Rattle.collector_top.specs.declared.direct.Unopened.{Unopened}
use Rattle.collector_top.specs.declared.direct.Unopened.TheVariants as unopened

abbrev pub refusal_of : Unopened → Refusal
refusal_of unopened.NoSource = NoSource 0
refusal_of unopened.NoSink = NoOutput 0
refusal_of unopened.Memory = NoMemory

abbrev pub unopened_line : Unopened → List ℕ
unopened_line unopened.NoSource = input_line in_name end.Failed
unopened_line unopened.NoSink = sink_line out_name (Some fault.Failed)
unopened_line unopened.Memory = memory_text

abbrev pub unopened_code : Unopened → ℕ
unopened_code unopened.NoSource = 3
unopened_code unopened.NoSink = 4
unopened_code unopened.Memory = 6

-- why the output ended, which meets no limit
abbrev pub output_of : Option OutsideFault → Option OutputFault
output_of None = None
output_of (Some fault.Failed) = Some output.Failed
output_of (Some fault.NoMemory) = Some output.NoMemory

-- a run in which the one input gave these events, and the one output ended so; no order is told, and nothing is counted
abbrev pub one_run : List Scripted → Ended → RunCame
one_run given ended = record {
  inputs = record { given = given; end = ended.input; failed = source_failed ended.input } ∷ [];
  order = [];
  log = None;
  stages = [];
  outputs = output_of ended.output ∷ [];
  counts = nothing_counted;
}

module _ {S : Type 0} (left : S → Option (List Scripted)) (faults : S → ℕ) where
  -- a run came to this end
  abbrev pub CameToRun : List ℕ → List ℕ → Seen → Seen → Ended → Type 0
  CameToRun place out old new ended = (given : List Scripted) × Comes left faults (OneFile place out) (Ran (one_run given ended)) old new × (new.say ≡ old.say)

  -- a refusal came
  abbrev pub CameToRefusal : List ℕ → List ℕ → Seen → Seen → Unopened → Type 0
  CameToRefusal place out old new refusal = (n : ℕ) × (m : ℕ) × Comes left faults (OneFile place out) (Refused (refusal_of refusal) n m) old new × (new.say ≡ old.say)
