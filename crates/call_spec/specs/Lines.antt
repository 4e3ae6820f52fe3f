-- The lines that a call says.
use Rattle.std.specs.Prelude.{ℕ, ◌≡◌, List, [], ◌∷◌, ◌++◌, Option, Some, None, Result, Ok, Err, Bool, true, false, codes, decimal, map, take, drop, flat_map}
use Rattle.config_spec.specs.First.{fault_text}
use Rattle.element_spec.specs.Faults as elements
use Rattle.site_io.specs.declared.outside.OutsideFault.{OutsideFault}
use Rattle.site_io.specs.declared.outside.OutsideFault.TheVariants as fault
use Rattle.site_io.specs.Seen.{SaidSeen}
use Rattle.site_io.specs.Writes.{Grows}
use Rattle.call_spec.specs.declared.end.InputEnd.{InputEnd}
use Rattle.call_spec.specs.declared.end.InputEnd.TheVariants as end
use Rattle.call_spec.specs.declared.end.OutputFault.{OutputFault}
use Rattle.call_spec.specs.declared.end.OutputFault.TheVariants as output
use Rattle.call_spec.specs.Came.{Party, Parties, Refusal, InputCame, RunCame, Came}
use Rattle.call_spec.specs.Came.Refusal.{NoText, BadDescription, BadElements, NoSource, NoLog, NoOutput, NoMemory}
use Rattle.call_spec.specs.Came.Came.{BadWords, Fine, Refused, Ran, Loaded}
use Rattle.call_spec.specs.Counts.{MovesBy}
use Rattle.call_spec.specs.Ends.{GrowsByFront}
use Rattle.call_spec.specs.Plan.{Plan, parties_of}
use Rattle.call_spec.specs.Plan.Plan.{Nothing, OneFile, Described, Generated}
use Rattle.call_spec.specs.Summary.{summary_text}

unfoldable pub usage_text : List ℕ
usage_text = codes "usage: ipfixcol direct IN OUT, check -c FILE, collect -c FILE, generate NUMBER COUNT\n"

unfoldable pub fine_text : List ℕ
fine_text = codes "ok\n"

unfoldable pub memory_text : List ℕ
memory_text = codes "memory\n"

unfoldable pub source_start : List ℕ
source_start = codes "source fault: "

unfoldable pub sink_start : List ℕ
sink_start = codes "sink fault: "

unfoldable pub limit_start : List ℕ
limit_start = codes "limit: "

unfoldable pub memory_start : List ℕ
memory_start = codes "memory: "

unfoldable pub description_start : List ℕ
description_start = codes "description: "

unfoldable pub elements_start : List ℕ
elements_start = codes "elements "

unfoldable pub colon : List ℕ
colon = codes ": "

unfoldable pub log_name : List ℕ
log_name = codes "order-log"

unfoldable pub octets_start : List ℕ
octets_start = codes "octets "

unfoldable pub space : List ℕ
space = codes " "

unfoldable pub line_end : List ℕ
line_end = codes "\n"

abbrev pub named_line : List ℕ → List ℕ → List ℕ
named_line start name = (start ++ name) ++ line_end

-- what stands before the fault of an element table
abbrev pub elements_head : List ℕ → List ℕ
elements_head name = (elements_start ++ name) ++ colon

-- the line of an input, if it has one
abbrev pub input_line : List ℕ → InputEnd → List ℕ
input_line name end.End = []
input_line name end.Failed = named_line source_start name
input_line name end.Limit = named_line limit_start name
input_line name end.Memory = named_line memory_start name

-- the line of the log, if it has one, and of an output
abbrev pub sink_line : List ℕ → Option OutsideFault → List ℕ
sink_line name None = []
sink_line name (Some fault.Failed) = named_line sink_start name
sink_line name (Some fault.NoMemory) = named_line memory_start name

abbrev pub output_line : List ℕ → Option OutputFault → List ℕ
output_line name None = []
output_line name (Some output.Failed) = named_line sink_start name
output_line name (Some output.Limit) = named_line limit_start name
output_line name (Some output.NoMemory) = named_line memory_start name

-- the lines of all of some names, each by what came to it
abbrev pub lines_by : {B : Type 0} → (List ℕ → B → List ℕ) → List (List ℕ) → List B → List ℕ
lines_by line [] came = []
lines_by line (name ∷ names) [] = []
lines_by line (name ∷ names) (b ∷ came) = line name b ++ lines_by line names came

abbrev pub log_line : Option (List ℕ) → Option OutsideFault → List ℕ
log_line None f = []
log_line (Some path) f = sink_line log_name f

-- the line of an intermediate, which can want memory alone
abbrev pub stage_line : List ℕ → Bool → List ℕ
stage_line name false = []
stage_line name true = named_line memory_start name

-- the line of how many octets an output has
abbrev pub octets_line : List ℕ → ℕ → List ℕ
octets_line name count = (((octets_start ++ name) ++ space) ++ decimal count) ++ line_end

abbrev pub names_of : List Party → List (List ℕ)
names_of parties = map (λ (p : Party). p.name) parties

abbrev pub refusal_line : Parties → Refusal → List ℕ
refusal_line parties (NoText name) = named_line source_start name
refusal_line parties (BadDescription fault) = named_line description_start (fault_text fault)
refusal_line parties (BadElements name fault) = named_line (elements_head name) (elements.fault_text fault)
refusal_line parties (NoSource i) = flat_map (λ name. input_line name end.Failed) (take 1 (drop i (names_of parties.inputs)))
refusal_line parties NoLog = sink_line log_name (Some fault.Failed)
refusal_line parties (NoOutput j) = flat_map (λ name. output_line name (Some output.Failed)) (take 1 (drop j (names_of parties.outputs)))
refusal_line parties NoMemory = memory_text

abbrev pub ends_of : RunCame → List InputEnd
ends_of run = map (λ (c : InputCame). c.end) run.inputs

-- the lines of a run's faults: those of the inputs, of the log, of the intermediates and of the outputs
abbrev pub fault_lines : Parties → RunCame → List ℕ
fault_lines parties run = lines_by input_line (names_of parties.inputs) (ends_of run)
    ++ (log_line parties.log run.log ++ (lines_by stage_line parties.stages run.stages ++ lines_by output_line (names_of parties.outputs) run.outputs))

-- the summary of a run
abbrev pub summary_of : Plan → RunCame → List ℕ
summary_of Nothing run = []
summary_of (OneFile place out) run = []
summary_of (Described conf rows) run = summary_text run.counts
summary_of (Generated number count) run = summary_text run.counts

-- of a run the lines of its faults, and then its summary
abbrev pub run_lines : Plan → RunCame → List ℕ
run_lines plan run = fault_lines (parties_of plan) run ++ summary_of plan run

-- the lines of what came of a call: behind those of generated load, of how many octets each output has
abbrev pub lines_of : Plan → Came → List ℕ
lines_of plan BadWords = usage_text
lines_of plan Fine = fine_text
lines_of plan (Refused refusal n m) = refusal_line (parties_of plan) refusal
lines_of plan (Ran run) = run_lines plan run
lines_of plan (Loaded run lengths) = run_lines plan run ++ lines_by octets_line (names_of (parties_of plan).outputs) lengths

-- a text was said whole, or a front of it where saying failed, which is counted, or memory was wanted
abbrev pub Said : Result (Unit {0}) OutsideFault → SaidSeen → SaidSeen → List ℕ → Type 0
Said (Ok done) old new text = Grows old.said new.said text × (new.faults ≡ old.faults)
Said (Err fault.Failed) old new text = GrowsByFront old.said new.said text × MovesBy true old.faults new.faults
Said (Err fault.NoMemory) old new text = GrowsByFront old.said new.said text × (new.faults ≡ old.faults)
