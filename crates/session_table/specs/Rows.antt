-- The rows of a table of open sessions: a connection or a peer, and its session.
use Rattle.std.specs.Prelude.{ℕ, ◌+◌, ◌≡◌, ◌==◌, nat_le, min, not, Bool, false, List, [], ◌∷◌, filter, find, fold, Some, if◌then◌else◌}
use Rattle.std.specs.List.{AllByRecursion}
use Rattle.arrival_spec.specs.declared.event.PeerKey.{PeerKey}
use Rattle.arrival_spec.specs.Sessions.{same_peer}
use Rattle.session_table.specs.declared.peers.Heard.{Heard}

-- a connection and its session
pub record Conn : Type 0 where
  pub conn : ℕ
  pub session : ℕ

abbrev pub conn_row : ℕ × ℕ → Conn
conn_row entry = record { conn = entry.0; session = entry.1 }

abbrev pub conn_is : ℕ → Conn → Bool
conn_is c x = x.conn == c

abbrev pub session_of_conn : Conn → ℕ
session_of_conn x = x.session

-- the first goes
abbrev pub FirstConn : List Conn → List Conn → ℕ → Type 0
FirstConn old new session = (x : Conn) × (old ≡ x ∷ new) × (session ≡ x.session)

-- the session of a connection that is there
abbrev pub HasConn : ℕ → List Conn → ℕ → Type 0
HasConn c rows session = (x : Conn) × (find (conn_is c) rows ≡ Some x) × (session ≡ x.session)

-- a peer, its session, and the time of its last datagram
pub record PeerRow : Type 0 where
  pub key : PeerKey
  pub session : ℕ
  pub last : ℕ

abbrev pub peer_row : PeerKey × Heard → PeerRow
peer_row entry = record { key = entry.0; session = entry.1.session; last = entry.1.last }

abbrev pub peer_is : PeerKey → PeerRow → Bool
peer_is key x = same_peer x.key key

abbrev pub session_of_peer : PeerRow → ℕ
session_of_peer x = x.session

-- the row of a peer that was heard at a time
abbrev pub heard_row : PeerKey → ℕ → PeerRow → PeerRow
heard_row key now x = if same_peer x.key key then record x { last = now } else x

-- a peer that sent nothing for so many seconds
abbrev pub is_idle_row : ℕ → ℕ → PeerRow → Bool
is_idle_row idle now x = nat_le (x.last + idle) now

-- a peer that sent something at this time or later
abbrev pub is_later : ℕ → PeerRow → Bool
is_later time x = nat_le time x.last

-- the session of a peer that is there
abbrev pub HasPeer : PeerKey → List PeerRow → ℕ → Type 0
HasPeer key rows session = (x : PeerRow) × (find (peer_is key) rows ≡ Some x) × (session ≡ x.session)

-- no two rows are of one peer
abbrev pub AreApart : List PeerRow → Type 0
AreApart [] = Unit {0}
AreApart (x ∷ rows) = AllByRecursion (λ y. peer_is x.key y ≡ false) rows × AreApart rows

-- the first goes
abbrev pub FirstPeer : List PeerRow → List PeerRow → ℕ → Type 0
FirstPeer old new session = (x : PeerRow) × (old ≡ x ∷ new) × (session ≡ x.session)

-- the first idle peer goes: the other idle ones and all that aren't stay as they are
abbrev pub IdleGoes : ℕ → ℕ → List PeerRow → List PeerRow → ℕ → Type 0
IdleGoes idle now old new session =
    ((x : PeerRow) × (session ≡ x.session) × (filter (is_idle_row idle now) old ≡ x ∷ filter (is_idle_row idle now) new))
    × (filter (λ x. not (is_idle_row idle now x)) new ≡ filter (λ x. not (is_idle_row idle now x)) old)

-- nobody is idle, and all stays
abbrev pub NoneIsIdle : ℕ → ℕ → List PeerRow → List PeerRow → Type 0
NoneIsIdle idle now old new = (filter (is_idle_row idle now) old ≡ []) × (new ≡ old)

abbrev pub is_idle_entry : ℕ → ℕ → Heard → Bool
is_idle_entry idle now x = nat_le (x.last + idle) now

-- the least of a time and those of the last datagrams
abbrev pub oldest_in : ℕ → List Heard → ℕ
oldest_in oldest heard = fold (λ o x. min o x.last) oldest heard
