-- The status of a call, from what came of it and of saying its lines.
use Rattle.std.specs.Prelude.{ℕ, cond, Bool, List, Option, Some, None, Result, Ok, Err, map, fold, max}
use Rattle.site_io.specs.declared.outside.OutsideFault.{OutsideFault}
use Rattle.site_io.specs.declared.outside.OutsideFault.TheVariants as fault
use Rattle.call_spec.specs.declared.end.InputEnd.{InputEnd}
use Rattle.call_spec.specs.declared.end.InputEnd.TheVariants as end
use Rattle.call_spec.specs.declared.end.OutputFault.{OutputFault}
use Rattle.call_spec.specs.declared.end.OutputFault.TheVariants as output
use Rattle.call_spec.specs.Came.{Refusal, InputCame, RunCame, Came}
use Rattle.call_spec.specs.Came.Refusal.{NoText, BadDescription, BadElements, NoSource, NoLog, NoOutput, NoMemory}
use Rattle.call_spec.specs.Came.Came.{BadWords, Fine, Refused, Ran, Loaded}

abbrev pub end_code : InputEnd → ℕ
end_code end.End = 0
end_code end.Failed = 3
end_code end.Limit = 5
end_code end.Memory = 6

abbrev pub fault_code : Option OutsideFault → ℕ
fault_code None = 0
fault_code (Some fault.Failed) = 4
fault_code (Some fault.NoMemory) = 6

abbrev pub output_code : Option OutputFault → ℕ
output_code None = 0
output_code (Some output.Failed) = 4
output_code (Some output.Limit) = 5
output_code (Some output.NoMemory) = 6

abbrev pub said_code : Result (Unit {0}) OutsideFault → ℕ
said_code (Ok done) = 0
said_code (Err fault.Failed) = 4
said_code (Err fault.NoMemory) = 6

-- a line that can't be said changes no status that was set before a run; want of memory does
abbrev pub wanted_code : Result (Unit {0}) OutsideFault → ℕ
wanted_code (Ok done) = 0
wanted_code (Err fault.Failed) = 0
wanted_code (Err fault.NoMemory) = 6

abbrev pub refusal_code : Refusal → ℕ
refusal_code (NoText name) = 3
refusal_code (BadDescription fault) = 2
refusal_code (BadElements name fault) = 2
refusal_code (NoSource i) = 3
refusal_code NoLog = 4
refusal_code (NoOutput j) = 4
refusal_code NoMemory = 6

abbrev pub worst : List ℕ → ℕ
worst codes = fold max 0 codes

abbrev pub stage_code : Bool → ℕ
stage_code wants = cond wants 6 0

-- of a run the greatest that came to an input, the log, an intermediate or an output
abbrev pub run_code : RunCame → ℕ
run_code run = max (worst (map (λ (c : InputCame). end_code c.end) run.inputs)) (max (fault_code run.log) (max (worst (map stage_code run.stages)) (worst (map output_code run.outputs))))

abbrev pub status_of : Came → Result (Unit {0}) OutsideFault → ℕ
status_of BadWords said = 1
status_of Fine said = said_code said
status_of (Refused refusal n m) said = max (refusal_code refusal) (wanted_code said)
status_of (Ran run) said = max (run_code run) (said_code said)
status_of (Loaded run lengths) said = max (run_code run) (said_code said)
