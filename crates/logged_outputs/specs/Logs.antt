-- Entries in the order log, if there is one.
use Rattle.std.specs.Prelude.{ℕ, ◌≡◌, ⊤, Bool, true, List, [], ◌∷◌, ◌++◌, Option, Some, None, MatchOption, IsSome, is_none}
use Rattle.order_log.specs.declared.order_log.OrderLog.{OrderLog}
use Rattle.order_log.specs.Entries.{Enters, Stands}
use Rattle.logged_outputs.specs.Entries.{Entry, order_of}

-- whether texts are written still
abbrev pub goes_on : {K : Type 0} → Option (OrderLog K) → Bool
goes_on None = true
goes_on (Some log) = is_none log.fault

-- the input of the first of some entries
abbrev pub next_of : List Entry → Option ℕ
next_of [] = None
next_of (x ∷ entries) = Some x.input

module _ {K : Type 0} (held : K → Option (List ℕ)) (faults : K → ℕ) where
  -- a log that has not ended takes an entry, or ends at it
  abbrev pub EntersLog : ℕ → Option (OrderLog K) → Option (OrderLog K) → Type 0
  EntersLog input None None = ⊤
  EntersLog input None (Some new) = ⊥
  EntersLog input (Some old) None = ⊥
  EntersLog input (Some old) (Some new) = Enters held faults input old new × (IsSome old.fault → new ≡ old)

  -- since it was so the log has taken the first of some entries; it ended at the first of the rest, and else there is none
  abbrev pub LogTook : List Entry → List Entry → Option (OrderLog K) → Option (OrderLog K) → Type 0
  LogTook front rest None None = rest ≡ []
  LogTook front rest None (Some now) = ⊥
  LogTook front rest (Some first) None = ⊥
  LogTook front rest (Some first) (Some now) = Stands held faults first.sink (order_of front) (next_of rest) now
