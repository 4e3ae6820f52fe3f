-- The order log: an entry for each arrival, written before its text.
use Rattle.std.specs.Prelude.{ℕ, ◌≡◌, ◌≤◌, ◌/◌, ◌%◌, List, [], ◌∷◌, ◌++◌, Option, Some, None, flat_map, take}
use Rattle.site_io.specs.declared.outside.OutsideFault.{OutsideFault}
use Rattle.run_spec.specs.Merge.{IsPartial}
use Rattle.call_spec.specs.Ends.{Holds}

-- an entry: the number of an input in two octets, the high one first
abbrev pub entry_octets : ℕ → List ℕ
entry_octets number = number / 256 ∷ number % 256 ∷ []

abbrev pub log_text : List ℕ → List ℕ
log_text order = flat_map entry_octets order

-- The log shows the entries of all arrivals that were worked off. Where it ended, a front of the entry of one arrival more
-- may follow: that one has no text, and nor has any later one.
abbrev pub HoldsLog : {X : Type 0} → Option OutsideFault → List (List X) → Option (List ℕ) → Option (List ℕ) → List ℕ → Type 0
HoldsLog None lists old now order = Holds old now (log_text order)
HoldsLog (Some fault) lists old now order =
    (k : ℕ) × (n : ℕ) × (n ≤ 2) × IsPartial (order ++ k ∷ []) lists × Holds old now (log_text order ++ take n (entry_octets k))
