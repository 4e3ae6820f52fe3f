-- The counts of a run, as they are kept: each stands still at 2 ^ 64 - 1.
use Rattle.std.specs.Prelude.{ℕ, ◌+◌, ◌-◌, ◌^◌, min, max}
use Rattle.count_spec.specs.Counts.{Counts}
use Rattle.count_spec.specs.Shown.{shown_number}
use Rattle.pipeline_message.specs.declared.run_counts.RunCounts.{RunCounts}

abbrev pub shown_counts : Counts → RunCounts
shown_counts c = record {
  sessions = shown_number c.sessions;
  messages = shown_number c.messages;
  records = shown_number c.records;
  malformed = shown_number c.malformed;
  late = shown_number c.late;
  skipped = shown_number c.skipped;
  ignored = shown_number c.ignored;
  redefined = shown_number c.redefined;
  lost = shown_number c.lost;
  disordered = shown_number c.disordered;
  torn = shown_number c.torn;
  broken = shown_number c.broken;
  refused = shown_number c.refused;
  crowded = shown_number c.crowded;
  stray = shown_number c.stray;
}

-- a count that rises, and stands at its end
abbrev pub adds : ℕ → ℕ → ℕ
adds n more = max n (min (n + more) (2 ^ 64 - 1))
