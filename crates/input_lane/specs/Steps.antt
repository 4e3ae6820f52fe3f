-- Steps of what an input keeps.
use Rattle.std.specs.Prelude.{ℕ, ◌≡◌, ◌++◌, not, map, filter, List}
use Rattle.site_io.specs.Outside.{one_more}
use Rattle.arrival_spec.specs.Arrival.{Arrival}
use Rattle.arrival_spec.specs.Arrival.Arrival.{SessionClose}
use Rattle.arrival_spec.specs.Sessions.{key_of}
use Rattle.session_table.specs.Rows.{PeerRow, is_idle_row}
use Rattle.session_table.specs.Table.{Table}
use Rattle.input_lane.specs.declared.came.Came.{Came}
use Rattle.input_lane.specs.declared.state.State.{State}
use Rattle.input_lane.specs.Hands.{meant}

-- one more stray event
abbrev pub Strays : State → State → Type 0
Strays old new = new ≡ record old { tally = record old.tally { stray = one_more old.tally.stray } }

abbrev pub row_closes : ℕ → PeerRow → Arrival (List ℕ)
row_closes input x = SessionClose (key_of input x.session)

-- of what was there at first, the closings that come and the peers that stay are those of what is left now
pub record Idles (now : ℕ) (first old : Table) (before after : List Came) : Type 0 where
  pub hand : meant after ++ map (row_closes first.input) (filter (is_idle_row first.idle now) old.peers) ≡ meant before ++ map (row_closes first.input) (filter (is_idle_row first.idle now) first.peers)
  pub rows : filter (λ (x : PeerRow). not (is_idle_row first.idle now x)) old.peers ≡ filter (λ (x : PeerRow). not (is_idle_row first.idle now x)) first.peers
  pub same : old ≡ record first { peers = old.peers }
