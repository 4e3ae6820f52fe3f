-- What an input keeps of a standing of the definition: the past isn't kept, and of the octets of a connection the rest alone.
use Rattle.std.specs.Prelude.{ℕ, ◌≡◌, ◌++◌, List, [], map, Option, Some, None}
use Rattle.std.specs.List.{filter_map}
use Rattle.arrival_spec.specs.Cutting.{cutting}
use Rattle.arrival_spec.specs.Mark.{arrivals_in}
use Rattle.arrival_spec.specs.Settings.{Settings}
use Rattle.arrival_spec.specs.Sessions.{Connection, Peer, Standing, Given}
use Rattle.config_spec.specs.declared.conf.InputConf.{InputConf}
use Rattle.session_table.specs.Rows.{Conn, PeerRow}
use Rattle.session_table.specs.Table.{Table}
use Rattle.input_lane.specs.declared.state.State.{State}
use Rattle.input_lane.specs.Links.{Link}
use Rattle.input_lane.specs.Hands.{meant}
use Rattle.input_lane.specs.Tallies.{Counted}

-- what a description sets for an input
abbrev pub settings_of : InputConf → Settings
settings_of conf = record { transport = conf.spec.transport; life = conf.life; idle = conf.idle; stop_after = conf.stop_after }

abbrev pub rest_by : Option ℕ → List ℕ → List ℕ
rest_by None octets = []
rest_by (Some session) octets = (cutting octets).rest

abbrev pub link_of : Connection → Link
link_of x = record { conn = x.number; session = x.session; rest = rest_by x.session x.octets }

abbrev pub conn_by : ℕ → Option ℕ → Option Conn
conn_by c None = None
conn_by c (Some session) = Some (record { conn = c; session = session })

abbrev pub conn_of : Connection → Option Conn
conn_of x = conn_by x.number x.session

abbrev pub row_of : Peer → PeerRow
row_of x = record { key = x.key; session = x.session; last = x.last }

-- the open sessions of a standing
abbrev pub sessions_of : Settings → ℕ → Standing → Table
sessions_of settings input s = record { input = input; idle = settings.idle; opened = s.opened; conns = filter_map conn_of s.connections; peers = map row_of s.peers }

-- what stands is kept
pub record Keeps (settings : Settings) (input : ℕ) (s : Standing) (t : State) : Type 0 where
  pub input_is : input ≡ t.input
  pub transport : settings.transport ≡ t.transport
  pub sessions : t.sessions ≡ sessions_of settings input s
  pub links : t.links ≡ map link_of s.connections
  pub seconds : t.seconds ≡ s.seconds

-- an event was taken: what it gives waits behind what waited, and what then stands is kept
pub record Taken (settings : Settings) (input : ℕ) (g : Given) (old new : State) : Type 0 where
  pub keeps : Keeps settings input g.next new
  pub hand : meant new.hand.items ≡ meant old.hand.items ++ arrivals_in g.marks
  pub counts : Counted g.marks old.tally new.tally
