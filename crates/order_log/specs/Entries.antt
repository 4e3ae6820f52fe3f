-- The entries of an order log.
use Rattle.std.specs.Prelude.{ℕ, ◌≡◌, ◌≤◌, Bool, true, List, [], ◌∷◌, ◌++◌, Option, Some, None, MatchOption, is_some, take}
use Rattle.site_io.specs.Writes.{Grows}
use Rattle.site_io.specs.declared.outside.OutsideFault.{OutsideFault}
use Rattle.site_io.specs.declared.outside.OutsideFault.TheVariants.{Failed, NoMemory}
use Rattle.call_spec.specs.Counts.{MovesBy}
use Rattle.call_spec.specs.Ends.{has_failed}
use Rattle.call_spec.specs.Log.{entry_octets, log_text}
use Rattle.order_log.specs.declared.order_log.OrderLog.{OrderLog}

-- the entries of an order were taken; and of the next entry a front, where the log ended at it
abbrev pub HasEntries : Option ℕ → Option (List ℕ) → Option (List ℕ) → List ℕ → Type 0
HasEntries None first now order = Grows first now (log_text order)
HasEntries (Some next) first now order = (n : ℕ) × (n ≤ 2) × Grows first now (log_text order ++ take n (entry_octets next))

module _ {K : Type 0} (held : K → Option (List ℕ)) (faults : K → ℕ) where
  -- an entry was written whole, or a front of it where the sink failed
  abbrev pub WritesEntry : ℕ → K → K → Option OutsideFault → Type 0
  WritesEntry input sink now_sink None = Grows (held sink) (held now_sink) (entry_octets input) × (faults now_sink ≡ faults sink)
  WritesEntry input sink now_sink (Some Failed) = ((n : ℕ) × (n ≤ 2) × Grows (held sink) (held now_sink) (take n (entry_octets input))) × MovesBy true (faults sink) (faults now_sink)
  WritesEntry input sink now_sink (Some NoMemory) = (held now_sink ≡ held sink) × (faults now_sink ≡ faults sink)

  -- The log stands for this order of entries, which its sink took since the first; where it ended, that was at the next entry.
  pub record Stands (first : K) (order : List ℕ) (next : Option ℕ) (log : OrderLog K) : Type 0 where
    pub entries : HasEntries next (held first) (held log.sink) order
    pub ended : is_some log.fault ≡ is_some next
    pub counts : MovesBy (has_failed log.fault) (faults first) (faults log.sink)

  -- whatever order the log stood for, it has one entry more, or ended at it
  abbrev pub Enters : ℕ → OrderLog K → OrderLog K → Type 0
  Enters input old new = (first : K) (order : List ℕ) → Stands first order None old → MatchOption new.fault (Stands first (order ++ input ∷ []) None new) (λ _. Stands first order (Some input) new)
