-- The counts of an input, and what marks add to them.
use Rattle.std.specs.Prelude.{ℕ, ◌≡◌, ◌+◌, ◌-◌, ◌^◌, min, max, Bool, true, false, List, count_by}
use Rattle.arrival_spec.specs.Arrival.{Arrival}
use Rattle.arrival_spec.specs.Arrival.Arrival.{SessionOpen, Raw, SessionClose, Periodic}
use Rattle.arrival_spec.specs.Mark.{Mark, is_stray, is_refused, is_torn, is_broken}
use Rattle.arrival_spec.specs.Mark.Mark.{Arrives, Stray, Refused, Torn, Broken}
use Rattle.count_spec.specs.Counts as counted
use Rattle.count_spec.specs.Shown.{shown_number}
use Rattle.pipeline_message.specs.declared.run_counts.RunCounts.{RunCounts}
use Rattle.input_lane.specs.declared.tally.Tally.{Tally}

abbrev pub no_counts : Tally
no_counts = record { sessions = 0; torn = 0; broken = 0; refused = 0; stray = 0 }

-- among the counts of a run
abbrev pub counts_of : Tally → RunCounts
counts_of t = record {
  sessions = t.sessions;
  messages = 0;
  records = 0;
  malformed = 0;
  late = 0;
  skipped = 0;
  ignored = 0;
  redefined = 0;
  lost = 0;
  disordered = 0;
  torn = t.torn;
  broken = t.broken;
  refused = t.refused;
  crowded = 0;
  stray = t.stray;
}

-- a count that rises, and stands at its end
abbrev pub adds : ℕ → ℕ → ℕ
adds n more = max n (min (n + more) (2 ^ 64 - 1))

abbrev pub opens_in : Arrival (List ℕ) → Bool
opens_in (SessionOpen key transport) = true
opens_in (Raw key octets) = false
opens_in (SessionClose key) = false
opens_in (Periodic input seconds) = false

abbrev pub is_opening : Mark → Bool
is_opening (Arrives a) = opens_in a
is_opening Stray = false
is_opening Refused = false
is_opening Torn = false
is_opening Broken = false

-- the counts rose by the marks
pub record Counted (marks : List Mark) (old new : Tally) : Type 0 where
  pub sessions : new.sessions ≡ adds old.sessions (count_by is_opening marks)
  pub torn : new.torn ≡ adds old.torn (count_by is_torn marks)
  pub broken : new.broken ≡ adds old.broken (count_by is_broken marks)
  pub refused : new.refused ≡ adds old.refused (count_by is_refused marks)
  pub stray : new.stray ≡ adds old.stray (count_by is_stray marks)

-- the counts are those that a run has of some marks
pub record CountsMarks (marks : List Mark) (t : Tally) : Type 0 where
  pub sessions : t.sessions ≡ shown_number (counted.sessions marks)
  pub torn : t.torn ≡ shown_number (counted.torn marks)
  pub broken : t.broken ≡ shown_number (counted.broken marks)
  pub refused : t.refused ≡ shown_number (counted.refused marks)
  pub stray : t.stray ≡ shown_number (counted.stray marks)
