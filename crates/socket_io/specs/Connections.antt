-- Which connections are open, and what each answer does to them. A connection has the number of those that were accepted
-- before it.
use Rattle.std.specs.Prelude.{ℕ, ◌+◌, ◌≡◌, ◌≢◌, nat_eq, Option, None, Some, Result, Ok, Err}
use Rattle.indexmap.specs.IndexMap.{IndexMap, ContainsKey, get}
use Rattle.site_io.specs.declared.outside.OutsideFault.{OutsideFault}
use Rattle.site_io.specs.declared.source.SourceEvent.{SourceEvent}
use Rattle.site_io.specs.declared.source.SourceEvent.TheVariants as event

module _ {C S : Type 0} where
  -- the connection of that number is open
  abbrev pub IsOpen : IndexMap ℕ C S → ℕ → Type 0
  IsOpen connections number = ContainsKey nat_eq connections number

  -- the others are open or not as they were
  abbrev pub OthersStay : IndexMap ℕ C S → IndexMap ℕ C S → ℕ → Type 0
  OthersStay old new number = (other : ℕ) → other ≢ number → get nat_eq new other ≡ get nat_eq old other

  -- none opens and none closes
  pub record Stay (old new : IndexMap ℕ C S) (before after : ℕ) : Type 0 where
    pub same : new.entries ≡ old.entries
    pub accepted : after ≡ before

  -- the next connection opens
  pub record Opens (old new : IndexMap ℕ C S) (before after number : ℕ) : Type 0 where
    pub next : number ≡ before
    pub accepted : after ≡ before + 1
    pub opened : IsOpen new number
    pub others : OthersStay old new number

  -- a connection that was open closes
  pub record Closes (old new : IndexMap ℕ C S) (before after number : ℕ) : Type 0 where
    pub was : IsOpen old number
    pub gone : get nat_eq new number ≡ None
    pub others : OthersStay old new number
    pub accepted : after ≡ before

  -- what an event does to the connections that are open and to the number of those that were accepted; octets are of one
  -- that is open, and there are neither datagrams nor an end
  abbrev pub Steps : IndexMap ℕ C S → IndexMap ℕ C S → ℕ → ℕ → SourceEvent → Type 0
  Steps old new before after (event.Opened number) = Opens old new before after number
  Steps old new before after (event.Bytes number n) = IsOpen old number × Stay old new before after
  Steps old new before after (event.Closed number) = Closes old new before after number
  Steps old new before after (event.Tick seconds) = Stay old new before after
  Steps old new before after event.NotYet = Stay old new before after
  Steps old new before after (event.Datagram peer n) = ⊥
  Steps old new before after event.End = ⊥

  -- the same of an answer; a fault leaves all as it was
  abbrev pub Answers : IndexMap ℕ C S → IndexMap ℕ C S → ℕ → ℕ → Result SourceEvent OutsideFault → Type 0
  Answers old new before after (Ok event) = Steps old new before after event
  Answers old new before after (Err fault) = Stay old new before after

  -- the same of what was found, if anything was
  abbrev pub Finds : IndexMap ℕ C S → IndexMap ℕ C S → ℕ → ℕ → Result (Option SourceEvent) OutsideFault → Type 0
  Finds old new before after (Ok (Some event)) = Steps old new before after event
  Finds old new before after (Ok None) = Stay old new before after
  Finds old new before after (Err fault) = Stay old new before after
