-- The table of open sessions, and what its calls do to it.
use Rattle.std.specs.Prelude.{ℕ, ◌+◌, ◌≡◌, ◌^◌, ◌||◌, not, nat_le, Bool, true, false, List, [], ◌∷◌, ◌++◌, length, filter, find, map, Option, Some, None, MatchOption}
use Rattle.col_base.specs.declared.base.SessionKey.{SessionKey}
use Rattle.arrival_spec.specs.declared.event.PeerKey.{PeerKey}
use Rattle.arrival_spec.specs.Sessions.{key_of}
use Rattle.session_table.specs.declared.place.Where.{Where}
use Rattle.session_table.specs.declared.place.Where.TheVariants.{Known, New, Refused}
use Rattle.session_table.specs.Rows.{Conn, PeerRow, conn_is, peer_is, heard_row, is_idle_row, HasConn, HasPeer}

-- the number of the input, after how many silent seconds a peer closes, how many sessions were opened, and those that are
-- open: connections and peers, in order of opening
pub record Table : Type 0 where
  pub input : ℕ
  pub idle : ℕ
  pub opened : ℕ
  pub conns : List Conn
  pub peers : List PeerRow

-- no further session can open: 4,096 are open, or all numbers were given
abbrev pub is_full_table : Table → Bool
is_full_table t = nat_le 4096 (length t.conns + length t.peers) || nat_le (2 ^ 32) t.opened

-- a session more was opened, and these are open now
abbrev pub one_opened : List Conn → List PeerRow → Table → Table
one_opened conns peers t = record t { opened = t.opened + 1; conns = conns; peers = peers }

-- a connection that comes: it is there already, or opens under the next number, or is refused
abbrev pub Connects : ℕ → Table → Table → Where → Type 0
Connects c old new (Known key) = ((session : ℕ) × HasConn c old.conns session × (key ≡ key_of old.input session)) × (new ≡ old)
Connects c old new (New key) = (find (conn_is c) old.conns ≡ None) × (is_full_table old ≡ false) × (key ≡ key_of old.input old.opened)
    × (new ≡ one_opened (old.conns ++ record { conn = c; session = old.opened } ∷ []) old.peers old)
Connects c old new Refused = (find (conn_is c) old.conns ≡ None) × (is_full_table old ≡ true) × (new ≡ old)

-- a datagram's peer at a time: it is there already, and was heard now; or it opens under the next number, or is refused
abbrev pub Hears : PeerKey → ℕ → Table → Table → Where → Type 0
Hears p now old new (Known key) = ((session : ℕ) × HasPeer p old.peers session × (key ≡ key_of old.input session))
    × (new ≡ record old { peers = map (heard_row p now) old.peers })
Hears p now old new (New key) = (find (peer_is p) old.peers ≡ None) × (is_full_table old ≡ false) × (key ≡ key_of old.input old.opened)
    × (new ≡ one_opened old.conns (old.peers ++ record { key = p; session = old.opened; last = now } ∷ []) old)
Hears p now old new Refused = (find (peer_is p) old.peers ≡ None) × (is_full_table old ≡ true) × (new ≡ old)

-- the session of a connection closes, if it has one
pub record Disconnects (c : ℕ) (old new : Table) (result : Option SessionKey) : Type 0 where
  pub gone : new ≡ record old { conns = filter (λ x. not (conn_is c x)) old.conns }
  pub found : MatchOption result (find (conn_is c) old.conns ≡ None) (λ key. (session : ℕ) × HasConn c old.conns session × (key ≡ key_of old.input session))

-- the first idle peer goes: the other idle ones and all that aren't stay as they are
abbrev pub Ticks : ℕ → Table → Table → Option SessionKey → Type 0
Ticks now old new None = (filter (is_idle_row old.idle now) old.peers ≡ []) × (new ≡ old)
Ticks now old new (Some key) =
    ((x : PeerRow) × (key ≡ key_of old.input x.session) × (filter (is_idle_row old.idle now) old.peers ≡ x ∷ filter (is_idle_row old.idle now) new.peers))
    × (filter (λ x. not (is_idle_row old.idle now x)) new.peers ≡ filter (λ x. not (is_idle_row old.idle now x)) old.peers)
    × (new ≡ record old { peers = new.peers })

-- the keys of the open sessions, in order of opening
abbrev pub open_keys : Table → List SessionKey
open_keys t = map (λ x. key_of t.input x.session) t.conns ++ map (λ x. key_of t.input x.session) t.peers

-- the oldest session closes: an input has connections or peers
abbrev pub ClosesNext : Table → Table → Option SessionKey → Type 0
ClosesNext old new None = (open_keys old ≡ []) × (new ≡ old)
ClosesNext old new (Some key) = (open_keys old ≡ key ∷ open_keys new) × (new ≡ record old { conns = new.conns; peers = new.peers })
