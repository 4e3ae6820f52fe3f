-- Each event's step.
use Rattle.std.proofs.Common.{◌≡◌, ℕ, ◌+◌, true, false, cond, not, List, [], ◌∷◌, ◌++◌, Some, None, refl, ap, sym, subst, ◌∙◌, map, append_assoc, append-nil}
use Rattle.std.specs.Prelude.{Option, find, filter, flat_map, fold}
use Rattle.std.specs.List.{cons_option, filter_map}
use Rattle.std.proofs.lemmas.Grind.{flat_map-append}
use Rattle.std.proofs.lemmas.List.{map-append}
use Rattle.std.proofs.lemmas.List.Elements.{filter_map-append}
use Rattle.col_base.specs.declared.base.SessionKey.{SessionKey}
use Rattle.arrival_spec.specs.declared.event.Scripted.{Scripted}
use Rattle.arrival_spec.specs.declared.event.Scripted.TheVariants as event
use Rattle.arrival_spec.specs.declared.event.PeerKey.{PeerKey}
use Rattle.arrival_spec.specs.Settings.{Settings}
use Rattle.arrival_spec.specs.Arrival.{Arrival}
use Rattle.arrival_spec.specs.Arrival.Arrival.{SessionOpen, Raw, SessionClose, Periodic}
use Rattle.arrival_spec.specs.Mark.{arrival_in, arrivals_in}
use Rattle.arrival_spec.specs.Mark.Mark.{Arrives, Refused, Stray}
use Rattle.arrival_spec.specs.Cutting.{cutting}
use Rattle.arrival_spec.specs.Sessions.{Connection, Peer, Standing, Given, came as came_by, is_idle, peer_of, connection_of, gives, stray, opened, is_datagrams, closed, closing, closings, peer_closes, key_of, torn_if}
use Rattle.arrival_spec.proofs.LimitLemmas.{connection_refused, connection_opens, datagram_refused, datagram_opens}
use Rattle.session_table.specs.Rows.{Conn, PeerRow, conn_is, is_idle_row}
use Rattle.session_table.specs.Table.{Table, Connects, Disconnects, Hears}
use Rattle.session_table.specs.declared.place.Where.TheVariants as place
use Rattle.input_lane.specs.declared.came.Came.{Came}
use Rattle.input_lane.specs.declared.came.Came.TheVariants as came
use Rattle.input_lane.specs.declared.state.State.{State}
use Rattle.input_lane.specs.declared.tally.Tally.{Tally}
use Rattle.input_lane.specs.Hands.{closes_of, left_by, meant, meant_by}
use Rattle.input_lane.specs.Inlets.{Finished, Takes}
use Rattle.input_lane.specs.Kept.{Keeps, Taken, conn_by, conn_of, link_of, row_of, sessions_of}
use Rattle.input_lane.specs.Links.{AreApart, Link, link_is, torn_by}
use Rattle.input_lane.specs.Steps.{Idles, row_closes}
use Rattle.input_lane.specs.Tallies.{Counted, adds}
use Rattle.input_lane.proofs.CountLemmas.{none_more, counted_then, closing_counted, closings_counted, peers_counted}
use Rattle.input_lane.proofs.FindLemmas.{absent, conn_found, filter_conns, filter_links, filter_rows, full_same, heard_rows, none_left, peer_absent, peer_present, present}

-- a stray event
pub stray_taken : (settings : Settings) (input : ℕ) (s : Standing) (g : Given) (t u : State) → g ≡ stray s → Keeps settings input s t → u.input ≡ t.input → u.transport ≡ t.transport → u.sessions ≡ t.sessions → u.links ≡ t.links
    → u.seconds ≡ t.seconds → u.hand.items ≡ t.hand.items → u.tally ≡ record t.tally { stray = adds t.tally.stray 1 } → Taken settings input g t u
stray_taken settings input s g t u e k inp tr sessions links se hand tally =
    subst (λ (g : Given). Taken settings input g t u) (sym e) (record {
      keeps = record { input_is = k.input_is ∙ sym inp; transport = k.transport ∙ sym tr; sessions = sessions ∙ k.sessions; links = links ∙ k.links; seconds = se ∙ k.seconds };
      hand = ap meant hand ∙ sym (append-nil (meant t.hand.items));
      counts = subst (λ (n : Tally). Counted (Stray ∷ []) t.tally n) (sym tally) (record { sessions = none_more t.tally.sessions; torn = none_more t.tally.torn; broken = none_more t.tally.broken; refused = none_more t.tally.refused; stray = refl });
    })

pub strayed : (settings : Settings) (input : ℕ) (s : Standing) (g : Given) (t u : State) (l : List Link) → g ≡ stray s → Keeps settings input s t → l ≡ t.links
    → u ≡ record t { links = l; tally = record t.tally { stray = adds t.tally.stray 1 } } → Taken settings input g t u
strayed settings input s g t u l e k links same = subst (λ (v : State). Taken settings input g t v) (sym same)
    (stray_taken settings input s g t (record t { links = l; tally = record t.tally { stray = adds t.tally.stray 1 } }) e k refl refl refl links refl refl refl)

pub opened_again : (settings : Settings) (input c : ℕ) (s : Standing) (x : Connection) → is_datagrams settings.transport ≡ false → connection_of c s ≡ Some x → gives settings input s (event.Opened c) ≡ stray s
opened_again settings input c s x stream found = ap (λ b. cond b (stray s) (opened settings input c s (connection_of c s))) stream ∙ ap (opened settings input c s) found

pub datagram_stray : (settings : Settings) (input : ℕ) (p : PeerKey) (octets : List ℕ) (s : Standing) → is_datagrams settings.transport ≡ false → gives settings input s (event.Datagram p octets) ≡ stray s
datagram_stray settings input p octets s stream = ap (λ b. cond b (came_by settings input p octets s (peer_of p s)) (stray s)) stream

pub opened_stray : (settings : Settings) (input c : ℕ) (s : Standing) → is_datagrams settings.transport ≡ true → gives settings input s (event.Opened c) ≡ stray s
opened_stray settings input c s udp = ap (λ b. cond b (stray s) (opened settings input c s (connection_of c s))) udp

pub closed_stray : (settings : Settings) (input c : ℕ) (s : Standing) → is_datagrams settings.transport ≡ true → gives settings input s (event.Closed c) ≡ stray s
closed_stray settings input c s udp = ap (λ b. cond b (stray s) (closed input c s (connection_of c s))) udp

pub closed_none : (settings : Settings) (input c : ℕ) (s : Standing) → is_datagrams settings.transport ≡ false → connection_of c s ≡ None → gives settings input s (event.Closed c) ≡ stray s
closed_none settings input c s stream none = ap (λ b. cond b (stray s) (closed input c s (connection_of c s))) stream ∙ ap (closed input c s) none

joined_links : (s : Standing) (c : ℕ) (o : Option ℕ) (links : List Link) → links ≡ map link_of s.connections
    → links ++ record { conn = c; session = o; rest = [] } ∷ [] ≡ map link_of (s.connections ++ record { number = c; session = o; octets = [] } ∷ [])
joined_links s c None links k = ap (λ l. l ++ record { conn = c; session = None; rest = [] } ∷ []) k ∙ sym (map-append link_of s.connections (record { number = c; session = None; octets = [] } ∷ []))
joined_links s c (Some n) links k = ap (λ l. l ++ record { conn = c; session = Some n; rest = [] } ∷ []) k ∙ sym (map-append link_of s.connections (record { number = c; session = Some n; octets = [] } ∷ []))

-- a connection that opens
pub opens_taken : (settings : Settings) (input c : ℕ) (s : Standing) (t u : State) (key : SessionKey) → Keeps settings input s t → is_datagrams settings.transport ≡ false → find (link_is c) t.links ≡ None
    → Connects c t.sessions u.sessions (place.New key) → u.input ≡ t.input → u.transport ≡ t.transport → u.seconds ≡ t.seconds → u.links ≡ t.links ++ record { conn = c; session = Some key.number; rest = [] } ∷ []
    → u.hand.items ≡ t.hand.items ++ came.SessionOpen key t.transport ∷ [] → u.tally ≡ record t.tally { sessions = adds t.tally.sessions 1 }
    → Taken settings input (gives settings input s (event.Opened c)) t u
opens_taken settings input c s t u key k stream none w inp tr se links hand tally =
    let d = subst (λ (o : Table). Connects c o u.sessions (place.New key)) k.sessions w in
    let g = connection_opens settings input c s stream (absent c s t.links k.links none) (sym (full_same settings input s) ∙ d.1) in
    subst (λ (g : Given). Taken settings input g t u) (sym g) (record {
      keeps = record {
        input_is = k.input_is ∙ sym inp;
        transport = k.transport ∙ sym tr;
        sessions = d.3 ∙ (λ j. record (sessions_of settings input s) { opened = s.opened + 1; conns = sym (filter_map-append conn_of s.connections (record { number = c; session = Some s.opened; octets = [] } ∷ [])) j });
        links = links ∙ (ap (λ (x : SessionKey). t.links ++ record { conn = c; session = Some x.number; rest = [] } ∷ []) d.2 ∙ joined_links s c (Some s.opened) t.links k.links);
        seconds = se ∙ k.seconds;
      };
      hand = ap meant hand ∙ (map-append meant_by t.hand.items (came.SessionOpen key t.transport ∷ [])
          ∙ (ap (λ n. meant t.hand.items ++ SessionOpen n t.transport ∷ []) d.2 ∙ ap (λ n. meant t.hand.items ++ SessionOpen (key_of input s.opened) n ∷ []) (sym k.transport)));
      counts = subst (λ (n : Tally). Counted (Arrives (SessionOpen (key_of input s.opened) settings.transport) ∷ []) t.tally n) (sym tally)
          (record { sessions = refl; torn = none_more t.tally.torn; broken = none_more t.tally.broken; refused = none_more t.tally.refused; stray = none_more t.tally.stray });
    })

-- a connection that is refused
pub refused_taken : (settings : Settings) (input c : ℕ) (s : Standing) (t u : State) → Keeps settings input s t → is_datagrams settings.transport ≡ false → find (link_is c) t.links ≡ None
    → Connects c t.sessions u.sessions place.Refused → u.input ≡ t.input → u.transport ≡ t.transport → u.seconds ≡ t.seconds → u.links ≡ t.links ++ record { conn = c; session = None; rest = [] } ∷ []
    → u.hand.items ≡ t.hand.items → u.tally ≡ record t.tally { refused = adds t.tally.refused 1 }
    → Taken settings input (gives settings input s (event.Opened c)) t u
refused_taken settings input c s t u k stream none w inp tr se links hand tally =
    let d = subst (λ (o : Table). Connects c o u.sessions place.Refused) k.sessions w in
    let g = connection_refused settings input c s stream (absent c s t.links k.links none) (sym (full_same settings input s) ∙ d.1) in
    let conns : filter_map conn_of s.connections ≡ filter_map conn_of (s.connections ++ record { number = c; session = None; octets = [] } ∷ [])
    = sym (append-nil (filter_map conn_of s.connections)) ∙ sym (filter_map-append conn_of s.connections (record { number = c; session = None; octets = [] } ∷ [])) in
    subst (λ (g : Given). Taken settings input g t u) (sym g) (record {
      keeps = record {
        input_is = k.input_is ∙ sym inp;
        transport = k.transport ∙ sym tr;
        sessions = d.2 ∙ (λ j. record (sessions_of settings input s) { conns = conns j });
        links = links ∙ joined_links s c None t.links k.links;
        seconds = se ∙ k.seconds;
      };
      hand = ap meant hand ∙ sym (append-nil (meant t.hand.items));
      counts = subst (λ (n : Tally). Counted (Refused ∷ []) t.tally n) (sym tally)
          (record { sessions = none_more t.tally.sessions; torn = none_more t.tally.torn; broken = none_more t.tally.broken; refused = refl; stray = none_more t.tally.stray });
    })

-- closings

torn_arrives : (rest : List ℕ) (a : Arrival (List ℕ)) → arrivals_in (torn_if rest ++ Arrives a ∷ []) ≡ a ∷ []
torn_arrives [] a = refl
torn_arrives (o ∷ rest) a = refl

closing_arrives : (input : ℕ) (octets : List ℕ) (o : Option ℕ) (n : ℕ) → o ≡ Some n → arrivals_in (closing input octets o) ≡ SessionClose (key_of input n) ∷ []
closing_arrives input octets o n e = ap (λ p. arrivals_in (closing input octets p)) e ∙ torn_arrives (cutting octets).rest (SessionClose (key_of input n))

has_session : (c : ℕ) (o : Option ℕ) (y : Conn) → conn_by c o ≡ Some y → o ≡ Some y.session
has_session c None y e = absurd cc
has_session c (Some n) y e = let same : record { conn = c; session = n } ≡ y = cc in ap (λ (x : Conn). Some x.session) same

no_session : (c : ℕ) (o : Option ℕ) → conn_by c o ≡ None → o ≡ None
no_session c None e = refl
no_session c (Some n) e = absurd cc

-- a connection closes
module _ (settings : Settings) (input c : ℕ) (s : Standing) (t u : State) (l : Link) (k : Keeps settings input s t) (stream : is_datagrams settings.transport ≡ false)
    (apart : AreApart t.links) (found : find (link_is c) t.links ≡ Some l) (inp : u.input ≡ t.input) (tr : u.transport ≡ t.transport) (se : u.seconds ≡ t.seconds)
    (links : u.links ≡ filter (λ (y : Link). not (link_is c y)) t.links) (tally : u.tally ≡ record t.tally { torn = torn_by t.tally.torn l }) where
  gone_by : (x : Connection) → connection_of c s ≡ Some x → link_of x ≡ l → u.sessions ≡ record t.sessions { conns = filter (λ (y : Conn). not (conn_is c y)) t.sessions.conns }
      → meant u.hand.items ≡ meant t.hand.items ++ arrivals_in (closing input x.octets x.session) → Taken settings input (gives settings input s (event.Closed c)) t u
  gone_by x at is sessions hand =
      let g : gives settings input s (event.Closed c) ≡ closed input c s (Some x) = ap (λ b. cond b (stray s) (closed input c s (connection_of c s))) stream ∙ ap (closed input c s) at in
      subst (λ (g : Given). Taken settings input g t u) (sym g) (record {
        keeps = record {
          input_is = k.input_is ∙ sym inp;
          transport = k.transport ∙ sym tr;
          sessions = sessions ∙ (ap (λ (o : Table). record o { conns = filter (λ (y : Conn). not (conn_is c y)) o.conns }) k.sessions
              ∙ (λ j. record (sessions_of settings input s) { conns = filter_conns c s.connections j }));
          links = links ∙ (ap (filter (λ (y : Link). not (link_is c y))) k.links ∙ filter_links c s.connections);
          seconds = se ∙ k.seconds;
        };
        hand = hand;
        counts = subst (λ (n : Tally). Counted (closing input x.octets x.session) t.tally n)
            (sym (tally ∙ ap (λ (y : Link). record t.tally { torn = torn_by t.tally.torn y }) (sym is)))
            (closing_counted input x.octets x.session t.tally);
      })

  there : (x : Connection) → connection_of c s ≡ Some x → find (conn_is c) (sessions_of settings input s).conns ≡ conn_by x.number x.session
  there x at = conn_found c s.connections x (subst AreApart k.links apart) at

  -- with its session
  pub closed_taken : (key : SessionKey) → Disconnects c t.sessions u.sessions (Some key) → u.hand.items ≡ t.hand.items ++ came.SessionClose key ∷ [] → Taken settings input (gives settings input s (event.Closed c)) t u
  closed_taken key w hand =
      let d = subst (λ (o : Table). Disconnects c o u.sessions (Some key)) k.sessions w in
      let p = present c s t.links l k.links found in
      let session = has_session p.0.number p.0.session d.found.1.0 (sym (there p.0 p.1) ∙ d.found.1.1) in
      let same : key ≡ key_of input d.found.1.0.session = d.found.2 ∙ ap (key_of input) d.found.1.2 in
      gone_by p.0 p.1 p.2 w.gone (ap meant hand ∙ (map-append meant_by t.hand.items (came.SessionClose key ∷ [])
      ∙ (ap (λ n. meant t.hand.items ++ SessionClose n ∷ []) same ∙ ap (λ m. meant t.hand.items ++ m) (sym (closing_arrives input p.0.octets p.0.session d.found.1.0.session session)))))

  -- with none
  pub dead_taken : Disconnects c t.sessions u.sessions None → u.hand.items ≡ t.hand.items → Taken settings input (gives settings input s (event.Closed c)) t u
  dead_taken w hand =
      let d = subst (λ (o : Table). Disconnects c o u.sessions None) k.sessions w in
      let p = present c s t.links l k.links found in
      let session = no_session p.0.number p.0.session (sym (there p.0 p.1) ∙ d.found) in
      gone_by p.0 p.1 p.2 w.gone (ap meant hand ∙ (sym (append-nil (meant t.hand.items)) ∙ ap (λ o. meant t.hand.items ++ arrivals_in (closing input p.0.octets o)) (sym session)))

-- a datagram of a peer that is known
pub heard_taken : (settings : Settings) (input : ℕ) (p : PeerKey) (octets : List ℕ) (s : Standing) (t u : State) (key : SessionKey) → Keeps settings input s t → is_datagrams settings.transport ≡ true
    → Hears p t.seconds t.sessions u.sessions (place.Known key) → u.input ≡ t.input → u.transport ≡ t.transport → u.seconds ≡ t.seconds → u.links ≡ t.links
    → meant u.hand.items ≡ meant t.hand.items ++ Raw key octets ∷ [] → u.tally ≡ t.tally → Taken settings input (gives settings input s (event.Datagram p octets)) t u
heard_taken settings input p octets s t u key k udp w inp tr se links hand tally =
    let d = subst (λ (n : ℕ). Hears p n (sessions_of settings input s) u.sessions (place.Known key)) k.seconds (subst (λ (o : Table). Hears p t.seconds o u.sessions (place.Known key)) k.sessions w) in
    let x = peer_present p s d.0.1.0 d.0.1.1 in
    let g : gives settings input s (event.Datagram p octets) ≡ came_by settings input p octets s (Some x.0) = ap (λ b. cond b (came_by settings input p octets s (peer_of p s)) (stray s)) udp ∙ ap (came_by settings input p octets s) x.1 in
    let same : key ≡ key_of input x.0.session = d.0.2 ∙ (ap (key_of input) d.0.1.2 ∙ ap (λ (n : PeerRow). key_of input n.session) (sym x.2)) in
    subst (λ (g : Given). Taken settings input g t u) (sym g) (record {
      keeps = record {
        input_is = k.input_is ∙ sym inp;
        transport = k.transport ∙ sym tr;
        sessions = d.1 ∙ (λ j. record (sessions_of settings input s) { peers = heard_rows p s.seconds s.peers j });
        links = links ∙ k.links;
        seconds = se ∙ k.seconds;
      };
      hand = hand ∙ ap (λ n. meant t.hand.items ++ Raw n octets ∷ []) same;
      counts = subst (λ (n : Tally). Counted (Arrives (Raw (key_of input x.0.session) octets) ∷ []) t.tally n) (sym tally)
          (record { sessions = none_more t.tally.sessions; torn = none_more t.tally.torn; broken = none_more t.tally.broken; refused = none_more t.tally.refused; stray = none_more t.tally.stray });
    })

-- a datagram of a new peer
pub comes_taken : (settings : Settings) (input : ℕ) (p : PeerKey) (octets : List ℕ) (s : Standing) (t u : State) (h : List Came) (key : SessionKey) → Keeps settings input s t → is_datagrams settings.transport ≡ true
    → Hears p t.seconds t.sessions u.sessions (place.New key) → u.input ≡ t.input → u.transport ≡ t.transport → u.seconds ≡ t.seconds → u.links ≡ t.links
    → h ≡ t.hand.items ++ came.SessionOpen key t.transport ∷ [] → meant u.hand.items ≡ meant h ++ Raw key octets ∷ []
    → u.tally ≡ record t.tally { sessions = adds t.tally.sessions 1 } → Taken settings input (gives settings input s (event.Datagram p octets)) t u
comes_taken settings input p octets s t u h key k udp w inp tr se links began hand tally =
    let d = subst (λ (n : ℕ). Hears p n (sessions_of settings input s) u.sessions (place.New key)) k.seconds (subst (λ (o : Table). Hears p t.seconds o u.sessions (place.New key)) k.sessions w) in
    let g = datagram_opens settings input p octets s udp (peer_absent p s d.0) (sym (full_same settings input s) ∙ d.1) in
    let two : meant u.hand.items ≡ meant t.hand.items ++ SessionOpen key t.transport ∷ Raw key octets ∷ []
    = hand ∙ (ap (λ l. meant l ++ Raw key octets ∷ []) began ∙ (ap (λ l. l ++ Raw key octets ∷ []) (map-append meant_by t.hand.items (came.SessionOpen key t.transport ∷ []))
    ∙ append_assoc (meant t.hand.items) (SessionOpen key t.transport ∷ []) (Raw key octets ∷ []))) in
    subst (λ (g : Given). Taken settings input g t u) (sym g) (record {
      keeps = record {
        input_is = k.input_is ∙ sym inp;
        transport = k.transport ∙ sym tr;
        sessions = d.3 ∙ (λ j. record (sessions_of settings input s) { opened = s.opened + 1; peers = sym (map-append row_of s.peers (record { key = p; session = s.opened; last = s.seconds } ∷ [])) j });
        links = links ∙ k.links;
        seconds = se ∙ k.seconds;
      };
      hand = two ∙ (ap (λ n. meant t.hand.items ++ SessionOpen n t.transport ∷ Raw n octets ∷ []) d.2
          ∙ ap (λ n. meant t.hand.items ++ SessionOpen (key_of input s.opened) n ∷ Raw (key_of input s.opened) octets ∷ []) (sym k.transport));
      counts = subst (λ (n : Tally). Counted (Arrives (SessionOpen (key_of input s.opened) settings.transport) ∷ Arrives (Raw (key_of input s.opened) octets) ∷ []) t.tally n) (sym tally)
          (record { sessions = refl; torn = none_more t.tally.torn; broken = none_more t.tally.broken; refused = none_more t.tally.refused; stray = none_more t.tally.stray });
    })

-- a datagram that is dropped
pub dropped_taken : (settings : Settings) (input : ℕ) (p : PeerKey) (octets : List ℕ) (s : Standing) (t u : State) → Keeps settings input s t → is_datagrams settings.transport ≡ true
    → Hears p t.seconds t.sessions u.sessions place.Refused → u.input ≡ t.input → u.transport ≡ t.transport → u.seconds ≡ t.seconds → u.links ≡ t.links → u.hand.items ≡ t.hand.items
    → u.tally ≡ record t.tally { refused = adds t.tally.refused 1 } → Taken settings input (gives settings input s (event.Datagram p octets)) t u
dropped_taken settings input p octets s t u k udp w inp tr se links hand tally =
    let d = subst (λ (o : Table). Hears p t.seconds o u.sessions place.Refused) k.sessions w in
    let g = datagram_refused settings input p octets s udp (peer_absent p s d.0) (sym (full_same settings input s) ∙ d.1) in
    subst (λ (g : Given). Taken settings input g t u) (sym g) (record {
      keeps = record { input_is = k.input_is ∙ sym inp; transport = k.transport ∙ sym tr; sessions = d.2; links = links ∙ k.links; seconds = se ∙ k.seconds };
      hand = ap meant hand ∙ sym (append-nil (meant t.hand.items));
      counts = subst (λ (n : Tally). Counted (Refused ∷ []) t.tally n) (sym tally)
          (record { sessions = none_more t.tally.sessions; torn = none_more t.tally.torn; broken = none_more t.tally.broken; refused = refl; stray = none_more t.tally.stray });
    })

peers_close : (input : ℕ) (xs : List Peer) → arrivals_in (map (peer_closes input) xs) ≡ map (row_closes input) (map row_of xs)
peers_close input [] = refl
peers_close input (x ∷ xs) = ap (λ l. SessionClose (key_of input x.session) ∷ l) (peers_close input xs)

-- seconds passed
pub ticked_taken : (settings : Settings) (input seconds : ℕ) (s : Standing) (t u : State) (i : List Came) → Keeps settings input s t → Idles seconds t.sessions u.sessions t.hand.items i
    → filter (is_idle_row t.sessions.idle seconds) u.sessions.peers ≡ [] → u.hand.items ≡ i ++ came.Periodic t.input seconds ∷ [] → u.input ≡ t.input → u.transport ≡ t.transport → u.links ≡ t.links → u.seconds ≡ seconds → u.tally ≡ t.tally
    → Taken settings input (gives settings input s (event.Tick seconds)) t u
ticked_taken settings input seconds s t u i k w nobody hand inp tr links se tally =
    let d = subst (λ (o : Table). Idles seconds o u.sessions t.hand.items i) k.sessions w in
    let none = ap (λ (o : Table). filter (is_idle_row o.idle seconds) u.sessions.peers) (sym k.sessions) ∙ nobody in
    let idle = is_idle_row settings.idle seconds in
    let rows = filter (is_idle settings seconds) s.peers in
    let gone : filter idle (map row_of s.peers) ≡ map row_of rows = filter_rows idle s.peers in
    let left : filter (λ (x : PeerRow). not (idle x)) (map row_of s.peers) ≡ map row_of (filter (λ (x : Peer). not (is_idle settings seconds x)) s.peers) = filter_rows (λ (x : PeerRow). not (idle x)) s.peers in
    let closes : meant i ≡ meant t.hand.items ++ arrivals_in (map (peer_closes input) rows)
    = sym (append-nil (meant i)) ∙ (ap (λ l. meant i ++ map (row_closes input) l) (sym none) ∙ (d.hand
    ∙ (ap (λ l. meant t.hand.items ++ map (row_closes input) l) gone ∙ ap (λ l. meant t.hand.items ++ l) (sym (peers_close input rows))))) in
    record {
      keeps = record {
        input_is = k.input_is ∙ sym inp;
        transport = k.transport ∙ sym tr;
        sessions = d.same ∙ (λ j. record (sessions_of settings input s) { peers = (sym (none_left idle u.sessions.peers none) ∙ (d.rows ∙ left)) j });
        links = links ∙ k.links;
        seconds = se;
      };
      hand = ap meant hand ∙ (map-append meant_by i (came.Periodic t.input seconds ∷ []) ∙ (ap (λ n. meant i ++ Periodic n seconds ∷ []) (sym k.input_is)
          ∙ (ap (λ l. l ++ Periodic input seconds ∷ []) closes ∙ (append_assoc (meant t.hand.items) (arrivals_in (map (peer_closes input) rows)) (Periodic input seconds ∷ [])
          ∙ ap (λ l. meant t.hand.items ++ l) (sym (flat_map-append arrival_in (map (peer_closes input) rows) (Arrives (Periodic input seconds) ∷ [])))))));
      counts = subst (λ (n : Tally). Counted (map (peer_closes input) rows ++ Arrives (Periodic input seconds) ∷ []) t.tally n) (sym tally)
          (counted_then (map (peer_closes input) rows) (Arrives (Periodic input seconds) ∷ []) t.tally t.tally t.tally (peers_counted input rows t.tally)
          (record { sessions = none_more t.tally.sessions; torn = none_more t.tally.torn; broken = none_more t.tally.broken; refused = none_more t.tally.refused; stray = none_more t.tally.stray }));
    }

-- the end

links_close : (input : ℕ) (xs : List Connection) → arrivals_in (flat_map (λ (x : Connection). closing input x.octets x.session) xs) ≡ map SessionClose (map (λ (x : Conn). key_of input x.session) (filter_map conn_of xs))
links_close input [] = refl
links_close input (x ∷ xs) = flat_map-append arrival_in (closing input x.octets x.session) (flat_map (λ (x : Connection). closing input x.octets x.session) xs) ∙ by_session x.session (links_close input xs)
  where
    by_session : (o : Option ℕ) → arrivals_in (flat_map (λ (x : Connection). closing input x.octets x.session) xs) ≡ map SessionClose (map (λ (x : Conn). key_of input x.session) (filter_map conn_of xs))
        → arrivals_in (closing input x.octets o) ++ arrivals_in (flat_map (λ (x : Connection). closing input x.octets x.session) xs) ≡ map SessionClose (map (λ (x : Conn). key_of input x.session) (cons_option (conn_by x.number o) (filter_map conn_of xs)))
    by_session None e = e
    by_session (Some n) e = ap (λ l. l ++ arrivals_in (flat_map (λ (x : Connection). closing input x.octets x.session) xs)) (closing_arrives input x.octets (Some n) n refl) ∙ ap (λ l. SessionClose (key_of input n) ∷ l) e

rows_close : (input : ℕ) (xs : List Peer) → arrivals_in (map (peer_closes input) xs) ≡ map SessionClose (map (λ (x : PeerRow). key_of input x.session) (map row_of xs))
rows_close input [] = refl
rows_close input (x ∷ xs) = ap (λ l. SessionClose (key_of input x.session) ∷ l) (rows_close input xs)

all_close : (settings : Settings) (input : ℕ) (s : Standing) → arrivals_in (closings input s) ≡ closes_of (sessions_of settings input s)
all_close settings input s =
    flat_map-append arrival_in (flat_map (λ (x : Connection). closing input x.octets x.session) s.connections) (map (peer_closes input) s.peers)
    ∙ (ap (λ l. l ++ arrivals_in (map (peer_closes input) s.peers)) (links_close input s.connections)
    ∙ (ap (λ l. map SessionClose (map (λ (x : Conn). key_of input x.session) (filter_map conn_of s.connections)) ++ l) (rows_close input s.peers)
    ∙ sym (map-append SessionClose (map (λ (x : Conn). key_of input x.session) (filter_map conn_of s.connections)) (map (λ (x : PeerRow). key_of input x.session) (map row_of s.peers)))))

pub finished_by : (settings : Settings) (input : ℕ) (s : Standing) (t u : State) → Keeps settings input s t → u.hand.items ≡ t.hand.items → u.sessions ≡ t.sessions → u.tally ≡ record t.tally { torn = fold torn_by t.tally.torn t.links } → Finished input s t u
finished_by settings input s t u k hand sessions tally = record {
  hand = (λ j. left_by (hand j) (sessions j)) ∙ (ap (λ (o : Table). meant t.hand.items ++ closes_of o) k.sessions ∙ ap (λ l. meant t.hand.items ++ l) (sym (all_close settings input s)));
  counts = subst (λ (n : Tally). Counted (closings input s) t.tally n) (sym (tally ∙ ap (λ l. record t.tally { torn = fold torn_by t.tally.torn l }) k.links)) (closings_counted input s t.tally);
}

-- an event of an answer
pub as_given : (e f : Scripted) (old new : State) → Some e ≡ Some f → Takes e old new → Takes f old new
as_given e f old new same t = let is : e ≡ f = cc in subst (λ (g : Scripted). Takes g old new) is t
