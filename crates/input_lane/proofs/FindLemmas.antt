-- What the rows find, against what the definition finds.
use Rattle.std.proofs.Common.{◌≡◌, ℕ, suc, ◌+◌, ◌^◌, Bool, true, false, cond, not, ◌||◌, List, [], ◌∷◌, Some, None, refl, ap, sym, ◌∙◌, map, length, length-append}
use Rattle.std.specs.Prelude.{Option, ◌==◌, find, filter, nat_le}
use Rattle.std.specs.List.{AllByRecursion, cons_option, filter_map}
use Rattle.std.specs.Option.{option_map}
use Rattle.std.proofs.lemmas.List.{length-map}
use Rattle.std.proofs.lemmas.Bool.{eqb-true}
use Rattle.arrival_spec.specs.declared.event.PeerKey.{PeerKey}
use Rattle.arrival_spec.specs.Settings.{Settings}
use Rattle.arrival_spec.specs.Sessions.{Connection, Peer, Standing, connection_of, heard_at, is_full, open_sessions, peer_of, same_peer}
use Rattle.session_table.specs.Rows.{Conn, PeerRow, conn_is, heard_row, peer_is}
use Rattle.session_table.specs.Table.{is_full_table}
use Rattle.input_lane.specs.Links.{AreApart, Link, link_is}
use Rattle.input_lane.specs.Kept.{conn_by, conn_of, link_of, row_of, sessions_of}

abbrev Is : ℕ → Connection → Bool
Is c x = x.number == c

pub find_link : (c : ℕ) (xs : List Connection) → find (link_is c) (map link_of xs) ≡ option_map link_of (find (Is c) xs)
find_link c [] = refl
find_link c (x ∷ xs) = by_test (x.number == c) (find_link c xs)
  where
    by_test : (b : Bool) → find (link_is c) (map link_of xs) ≡ option_map link_of (find (Is c) xs)
        → cond b (Some (link_of x)) (find (link_is c) (map link_of xs)) ≡ option_map link_of (cond b (Some x) (find (Is c) xs))
    by_test true e = refl
    by_test false e = e

none_under : (o : Option Connection) → option_map link_of o ≡ None → o ≡ None
none_under None e = refl
none_under (Some x) e = absurd cc

some_under : (o : Option Connection) (l : Link) → option_map link_of o ≡ Some l → (x : Connection) × (o ≡ Some x) × (link_of x ≡ l)
some_under None l e = absurd cc
some_under (Some x) l e = (x, refl, cc)

-- no row is of the connection, and the definition has none
pub absent : (c : ℕ) (s : Standing) (links : List Link) → links ≡ map link_of s.connections → find (link_is c) links ≡ None → connection_of c s ≡ None
absent c s links k e = none_under (connection_of c s) (sym (find_link c s.connections) ∙ (ap (find (link_is c)) (sym k) ∙ e))

pub present : (c : ℕ) (s : Standing) (links : List Link) (l : Link) → links ≡ map link_of s.connections → find (link_is c) links ≡ Some l → (x : Connection) × (connection_of c s ≡ Some x) × (link_of x ≡ l)
present c s links l k e = some_under (connection_of c s) l (sym (find_link c s.connections) ∙ (ap (find (link_is c)) (sym k) ∙ e))

length_live : (xs : List Connection) → length (filter_map conn_of xs) ≡ length (filter_map (λ (x : Connection). x.session) xs)
length_live [] = refl
length_live (x ∷ xs) = by_session x.session (length_live xs)
  where
    by_session : (o : Option ℕ) → length (filter_map conn_of xs) ≡ length (filter_map (λ (x : Connection). x.session) xs)
        → length (filter_map conn_of (record { number = x.number; session = o; octets = x.octets } ∷ xs)) ≡ length (filter_map (λ (x : Connection). x.session) (record { number = x.number; session = o; octets = x.octets } ∷ xs))
    by_session None e = e
    by_session (Some n) e = ap (λ n. suc n) e

-- the table is full where the definition is
pub full_same : (settings : Settings) (input : ℕ) (s : Standing) → is_full_table (sessions_of settings input s) ≡ is_full s
full_same settings input s =
    let conns : length (filter_map conn_of s.connections) ≡ length (filter_map (λ (x : Connection). x.session) s.connections) = length_live s.connections in
    let peers : length (map row_of s.peers) ≡ length (map (λ (x : Peer). x.session) s.peers) = length-map s.peers row_of ∙ sym (length-map s.peers (λ (x : Peer). x.session)) in
    let all : length (filter_map conn_of s.connections) + length (map row_of s.peers) ≡ length (open_sessions s)
    = ap (λ n. n + length (map row_of s.peers)) conns ∙ (ap (λ n. length (filter_map (λ (x : Connection). x.session) s.connections) + n) peers
    ∙ sym (length-append (filter_map (λ (x : Connection). x.session) s.connections) (map (λ (x : Peer). x.session) s.peers))) in
    ap (λ n. nat_le 4096 n || nat_le (2 ^ 32) s.opened) all

conn_none : (c : ℕ) (xs : List Connection) → find (Is c) xs ≡ None → find (conn_is c) (filter_map conn_of xs) ≡ None
conn_none c [] e = refl
conn_none c (x ∷ xs) e = by_test (x.number == c) refl (λ (f : find (Is c) xs ≡ None). conn_none c xs f) e
  where
    by_session : (o : Option ℕ) → (x.number == c) ≡ false → find (conn_is c) (filter_map conn_of xs) ≡ None → find (conn_is c) (cons_option (conn_by x.number o) (filter_map conn_of xs)) ≡ None
    by_session None is f = f
    by_session (Some n) is f = ap (λ b. cond b (Some (record { conn = x.number; session = n })) (find (conn_is c) (filter_map conn_of xs))) is ∙ f

    by_test : (b : Bool) → (x.number == c) ≡ b → (find (Is c) xs ≡ None → find (conn_is c) (filter_map conn_of xs) ≡ None) → cond b (Some x) (find (Is c) xs) ≡ None
        → find (conn_is c) (cons_option (conn_by x.number x.session) (filter_map conn_of xs)) ≡ None
    by_test true is further f = absurd cc
    by_test false is further f = by_session x.session is (further f)

-- where no row is of the connection, no session of it is open
pub not_known : (c : ℕ) (s : Standing) (links : List Link) (x : Conn) → links ≡ map link_of s.connections → find (link_is c) links ≡ None → find (conn_is c) (filter_map conn_of s.connections) ≡ Some x → ⊥
not_known c s links x k e f = let no = conn_none c s.connections (absent c s links k e) in cc

-- numbers of connections differ
abbrev pub AreDifferent : List Connection → Type 0
AreDifferent xs = AreApart (map link_of xs)

others_none : (c : ℕ) (k : ℕ) (xs : List Connection) → k ≡ c → AllByRecursion (λ y. link_is k y ≡ false) (map link_of xs) → find (Is c) xs ≡ None
others_none c k [] e all = refl
others_none c k (x ∷ xs) e all = ap (λ b. cond b (Some x) (find (Is c) xs)) (ap (λ n. x.number == n) (sym e) ∙ all.0) ∙ others_none c k xs e all.1

-- the session of a connection is found where it has one
pub conn_found : (c : ℕ) (xs : List Connection) (x : Connection) → AreDifferent xs → find (Is c) xs ≡ Some x → find (conn_is c) (filter_map conn_of xs) ≡ conn_by x.number x.session
conn_found c [] x apart e = absurd cc
conn_found c (y ∷ xs) x apart e = by_test (y.number == c) refl (λ (f : find (Is c) xs ≡ Some x). conn_found c xs x apart.1 f) e
  where
    stays : (o : Option ℕ) → (y.number == c) ≡ false → find (conn_is c) (cons_option (conn_by y.number o) (filter_map conn_of xs)) ≡ find (conn_is c) (filter_map conn_of xs)
    stays None is = refl
    stays (Some n) is = ap (λ b. cond b (Some (record { conn = y.number; session = n })) (find (conn_is c) (filter_map conn_of xs))) is

    here : (o : Option ℕ) → (y.number == c) ≡ true → find (conn_is c) (cons_option (conn_by y.number o) (filter_map conn_of xs)) ≡ conn_by y.number o
    here None is = conn_none c xs (others_none c y.number xs (eqb-true y.number c is) apart.0)
    here (Some n) is = ap (λ b. cond b (Some (record { conn = y.number; session = n })) (find (conn_is c) (filter_map conn_of xs))) is

    by_test : (b : Bool) → (y.number == c) ≡ b → (find (Is c) xs ≡ Some x → find (conn_is c) (filter_map conn_of xs) ≡ conn_by x.number x.session) → cond b (Some y) (find (Is c) xs) ≡ Some x
        → find (conn_is c) (cons_option (conn_by y.number y.session) (filter_map conn_of xs)) ≡ conn_by x.number x.session
    by_test true is further f = let same : y ≡ x = cc in here y.session is ∙ ap (λ (z : Connection). conn_by z.number z.session) same
    by_test false is further f = stays y.session is ∙ further f

pub filter_links : (c : ℕ) (xs : List Connection) → filter (λ (y : Link). not (link_is c y)) (map link_of xs) ≡ map link_of (filter (λ (y : Connection). not (y.number == c)) xs)
filter_links c [] = refl
filter_links c (x ∷ xs) = by_test (x.number == c) (filter_links c xs)
  where
    by_test : (b : Bool) → filter (λ (y : Link). not (link_is c y)) (map link_of xs) ≡ map link_of (filter (λ (y : Connection). not (y.number == c)) xs)
        → cond (not b) (link_of x ∷ filter (λ (y : Link). not (link_is c y)) (map link_of xs)) (filter (λ (y : Link). not (link_is c y)) (map link_of xs))
        ≡ map link_of (cond (not b) (x ∷ filter (λ (y : Connection). not (y.number == c)) xs) (filter (λ (y : Connection). not (y.number == c)) xs))
    by_test true e = e
    by_test false e = ap (λ l. link_of x ∷ l) e

-- where no row is found, all stay
pub none_goes : (c : ℕ) (links : List Link) → find (link_is c) links ≡ None → filter (λ (y : Link). not (link_is c y)) links ≡ links
none_goes c [] e = refl
none_goes c (x ∷ links) e = by_test (link_is c x) (λ (f : find (link_is c) links ≡ None). none_goes c links f) e
  where
    by_test : (b : Bool) → (find (link_is c) links ≡ None → filter (λ (y : Link). not (link_is c y)) links ≡ links) → cond b (Some x) (find (link_is c) links) ≡ None
        → cond (not b) (x ∷ filter (λ (y : Link). not (link_is c y)) links) (filter (λ (y : Link). not (link_is c y)) links) ≡ x ∷ links
    by_test true further f = absurd cc
    by_test false further f = ap (λ l. x ∷ l) (further f)

pub filter_conns : (c : ℕ) (xs : List Connection) → filter (λ (y : Conn). not (conn_is c y)) (filter_map conn_of xs) ≡ filter_map conn_of (filter (λ (y : Connection). not (y.number == c)) xs)
filter_conns c [] = refl
filter_conns c (x ∷ xs) = by_test (x.number == c) refl (filter_conns c xs)
  where
    gone : (o : Option ℕ) → (x.number == c) ≡ true → filter (λ (y : Conn). not (conn_is c y)) (cons_option (conn_by x.number o) (filter_map conn_of xs)) ≡ filter (λ (y : Conn). not (conn_is c y)) (filter_map conn_of xs)
    gone None is = refl
    gone (Some n) is = ap (λ b. cond (not b) (record { conn = x.number; session = n } ∷ filter (λ (y : Conn). not (conn_is c y)) (filter_map conn_of xs)) (filter (λ (y : Conn). not (conn_is c y)) (filter_map conn_of xs))) is

    stays : (o : Option ℕ) → (x.number == c) ≡ false → filter (λ (y : Conn). not (conn_is c y)) (cons_option (conn_by x.number o) (filter_map conn_of xs)) ≡ cons_option (conn_by x.number o) (filter (λ (y : Conn). not (conn_is c y)) (filter_map conn_of xs))
    stays None is = refl
    stays (Some n) is = ap (λ b. cond (not b) (record { conn = x.number; session = n } ∷ filter (λ (y : Conn). not (conn_is c y)) (filter_map conn_of xs)) (filter (λ (y : Conn). not (conn_is c y)) (filter_map conn_of xs))) is

    by_test : (b : Bool) → (x.number == c) ≡ b → filter (λ (y : Conn). not (conn_is c y)) (filter_map conn_of xs) ≡ filter_map conn_of (filter (λ (y : Connection). not (y.number == c)) xs)
        → filter (λ (y : Conn). not (conn_is c y)) (cons_option (conn_by x.number x.session) (filter_map conn_of xs)) ≡ filter_map conn_of (cond (not b) (x ∷ filter (λ (y : Connection). not (y.number == c)) xs) (filter (λ (y : Connection). not (y.number == c)) xs))
    by_test true is e = gone x.session is ∙ e
    by_test false is e = stays x.session is ∙ ap (cons_option (conn_by x.number x.session)) e

abbrev IsPeer : PeerKey → Peer → Bool
IsPeer key x = same_peer x.key key

find_row : (key : PeerKey) (xs : List Peer) → find (peer_is key) (map row_of xs) ≡ option_map row_of (find (IsPeer key) xs)
find_row key [] = refl
find_row key (x ∷ xs) = by_test (same_peer x.key key) (find_row key xs)
  where
    by_test : (b : Bool) → find (peer_is key) (map row_of xs) ≡ option_map row_of (find (IsPeer key) xs)
        → cond b (Some (row_of x)) (find (peer_is key) (map row_of xs)) ≡ option_map row_of (cond b (Some x) (find (IsPeer key) xs))
    by_test true e = refl
    by_test false e = e

no_row : (o : Option Peer) → option_map row_of o ≡ None → o ≡ None
no_row None e = refl
no_row (Some x) e = absurd cc

a_row : (o : Option Peer) (r : PeerRow) → option_map row_of o ≡ Some r → (x : Peer) × (o ≡ Some x) × (row_of x ≡ r)
a_row None r e = absurd cc
a_row (Some x) r e = (x, refl, cc)

pub peer_absent : (key : PeerKey) (s : Standing) → find (peer_is key) (map row_of s.peers) ≡ None → peer_of key s ≡ None
peer_absent key s e = no_row (peer_of key s) (sym (find_row key s.peers) ∙ e)

pub peer_present : (key : PeerKey) (s : Standing) (r : PeerRow) → find (peer_is key) (map row_of s.peers) ≡ Some r → (x : Peer) × (peer_of key s ≡ Some x) × (row_of x ≡ r)
peer_present key s r e = a_row (peer_of key s) r (sym (find_row key s.peers) ∙ e)

pub heard_rows : (key : PeerKey) (now : ℕ) (xs : List Peer) → map (heard_row key now) (map row_of xs) ≡ map row_of (map (heard_at key now) xs)
heard_rows key now [] = refl
heard_rows key now (x ∷ xs) = by_test (same_peer x.key key) (heard_rows key now xs)
  where
    by_test : (b : Bool) → map (heard_row key now) (map row_of xs) ≡ map row_of (map (heard_at key now) xs)
        → cond b (record { key = x.key; session = x.session; last = now }) (row_of x) ∷ map (heard_row key now) (map row_of xs) ≡ row_of (cond b (record { key = x.key; session = x.session; last = now }) x) ∷ map row_of (map (heard_at key now) xs)
    by_test true e = ap (λ l. record { key = x.key; session = x.session; last = now } ∷ l) e
    by_test false e = ap (λ l. row_of x ∷ l) e

pub filter_rows : (p : PeerRow → Bool) (xs : List Peer) → filter p (map row_of xs) ≡ map row_of (filter (λ (x : Peer). p (row_of x)) xs)
filter_rows p [] = refl
filter_rows p (x ∷ xs) = by_test (p (row_of x)) (filter_rows p xs)
  where
    by_test : (b : Bool) → filter p (map row_of xs) ≡ map row_of (filter (λ (x : Peer). p (row_of x)) xs)
        → cond b (row_of x ∷ filter p (map row_of xs)) (filter p (map row_of xs)) ≡ map row_of (cond b (x ∷ filter (λ (x : Peer). p (row_of x)) xs) (filter (λ (x : Peer). p (row_of x)) xs))
    by_test true e = ap (λ l. row_of x ∷ l) e
    by_test false e = e

pub none_left : (p : PeerRow → Bool) (xs : List PeerRow) → filter p xs ≡ [] → filter (λ (x : PeerRow). not (p x)) xs ≡ xs
none_left p [] e = refl
none_left p (x ∷ xs) e = by_test (p x) (λ (f : filter p xs ≡ []). none_left p xs f) e
  where
    by_test : (b : Bool) → (filter p xs ≡ [] → filter (λ (x : PeerRow). not (p x)) xs ≡ xs) → cond b (x ∷ filter p xs) (filter p xs) ≡ []
        → cond (not b) (x ∷ filter (λ (x : PeerRow). not (p x)) xs) (filter (λ (x : PeerRow). not (p x)) xs) ≡ x ∷ xs
    by_test true further f = absurd cc
    by_test false further f = ap (λ l. x ∷ l) (further f)
