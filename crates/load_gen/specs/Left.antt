-- What a generator of load has left.
use Rattle.std.specs.Prelude.{ℕ, zero, suc, ◌+◌, ◌-◌, List, [], ◌∷◌, ◌++◌, map}
use Rattle.arrival_spec.specs.declared.event.Scripted.{Scripted}
use Rattle.arrival_spec.specs.declared.event.Scripted.TheVariants.{Opened, Bytes, Closed}
use Rattle.site_io.specs.declared.read_source.Stage.{Stage}
use Rattle.site_io.specs.declared.read_source.Stage.TheVariants.{Before, Open, Ended}
use Rattle.load_spec.specs.Draws.{state_after}
use Rattle.load_spec.specs.Load.{message_drawn, place_in_domain, records_size_at}
use Rattle.load_gen.specs.declared.source.LoadSource.{LoadSource}

-- so many messages from message i on, the records of the first of which are drawn from a state
abbrev pub messages_from : ℕ → ℕ → ℕ → List (List ℕ)
messages_from zero i x = []
messages_from (suc n) i x = message_drawn x i ∷ messages_from n (i + 1) (state_after (records_size_at (place_in_domain i)) x)

-- the events of these messages, by where their stream stands
abbrev pub events_at : Stage → List (List ℕ) → List Scripted
events_at Before messages = Opened 0 ∷ map (Bytes 0) messages ++ Closed 0 ∷ []
events_at Open messages = map (Bytes 0) messages ++ Closed 0 ∷ []
events_at Ended messages = []

-- the events that are still to come
abbrev pub load_left : LoadSource → List Scripted
load_left s = events_at s.stage (messages_from (s.count - s.next) s.next s.state)

-- it never fails
abbrev pub load_faults : LoadSource → ℕ
load_faults s = 0
