-- How a call is told that was refused before its run.
use Rattle.std.specs.Prelude.{ℕ, ◌≡◌, Result, max}
use Rattle.site_io.specs.declared.outside.OutsideFault.{OutsideFault}
use Rattle.site_io.specs.Seen.{Seen}
use Rattle.call_spec.specs.Came.{Parties, Refusal}
use Rattle.call_spec.specs.Lines.{refusal_line}
use Rattle.call_spec.specs.Status.{refusal_code, wanted_code}
use Rattle.run_lines.specs.Says.{Says}

-- the line of a refusal was said, as far as it could be, and this is its status
abbrev pub ReportsRefusal : Parties → Refusal → Seen → Seen → ℕ → Type 0
ReportsRefusal parties refusal old new status =
    (said : Result (Unit {0}) OutsideFault) × Says old new (refusal_line parties refusal) said × (status ≡ max (refusal_code refusal) (wanted_code said))
