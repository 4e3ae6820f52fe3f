-- The sequence number that is due (RFC 7011, section 3.1), set by set.
use Rattle.std.specs.Prelude.{ℕ, ◌+◌, ◌%◌, ◌^◌, List, Option, None, option_map, fold, length}
use Rattle.run_spec.specs.Outcome.{Outcome}
use Rattle.run_spec.specs.Outcome.Outcome.{Touched, Skipped, Empty, Decoded}

-- so many records more
abbrev pub due_by : Option ℕ → ℕ → Option ℕ
due_by due records = option_map (λ n. (n + records) % 2 ^ 32) due

-- behind a set: none where it was skipped
abbrev pub due_behind : Option ℕ → Outcome → Option ℕ
due_behind due Touched = due
due_behind due (Skipped reason) = None
due_behind due Empty = due
due_behind due (Decoded set) = due_by due (length set.records)

abbrev pub due_after : Option ℕ → List Outcome → Option ℕ
due_after due outcomes = fold due_behind due outcomes
