-- What holds of each arrival of an input, where it holds of the openings, closings and seconds of its sessions, and of
-- each message whose octets meet what all given octets meet.
use Rattle.std.proofs.Common.{◌≡◌, ℕ, zero, suc, ◌+◌, ◌<◌, not, Bool, true, false, ◌||◌, cond, List, [], ◌∷◌, ◌++◌, Some, None, refl, length, map, filter, drop, take}
use Rattle.std.specs.Prelude.{Option, ◌==◌, find, fold, flat_map}
use Rattle.std.specs.List.{AllByRecursion}
use Rattle.wire_spec.specs.Stream.{is_bad, is_short, message_size}
use Rattle.arrival_spec.specs.declared.event.PeerKey.{PeerKey}
use Rattle.arrival_spec.specs.declared.event.Scripted.{Scripted}
use Rattle.arrival_spec.specs.declared.event.Scripted.TheVariants as event
use Rattle.arrival_spec.specs.Arrival.{Arrival, OpensOver, input_of}
use Rattle.arrival_spec.specs.Arrival.Arrival.{SessionOpen, Raw, SessionClose, Periodic}
use Rattle.arrival_spec.specs.Settings.{Settings}
use Rattle.arrival_spec.specs.Cutting.{Cut, behind_first, cut_within, cutting, new_messages}
use Rattle.arrival_spec.specs.Events.{events_of, first_events, is_event}
use Rattle.arrival_spec.specs.Mark.{Mark, arrivals_in}
use Rattle.arrival_spec.specs.Mark.Mark.{Arrives, Stray, Refused, Torn, Broken}
use Rattle.arrival_spec.specs.Octets.{ArrivesInOctets, GivesOctets}
use Rattle.arrival_spec.specs.Sessions.{Connection, Given, Peer, Standing, brought, brought_in, came, closed, closing, closings, connection_of, gives, gone_on, is_datagrams, is_full, is_idle, joined_by, key_of, opened, peer_closes, peer_of, stray, torn_if}
use Rattle.arrival_spec.specs.Run.{Run, arrivals_of, before_all, run_of, with_event}

joined : {X : Type 0} (P : X → Type 0) (xs ys : List X) → AllByRecursion P xs → AllByRecursion P ys → AllByRecursion P (xs ++ ys)
joined P [] ys p q = q
joined P (x ∷ xs) ys p q = (p.0, joined P xs ys p.1 q)

taken : {X : Type 0} (P : X → Type 0) (n : ℕ) (list : List X) → AllByRecursion P list → AllByRecursion P (take n list)
taken P zero list p = tt
taken P (suc n) [] p = tt
taken P (suc n) (x ∷ list) p = (p.0, taken P n list p.1)

dropped : {X : Type 0} (P : X → Type 0) (n : ℕ) (list : List X) → AllByRecursion P list → AllByRecursion P (drop n list)
dropped P zero list p = p
dropped P (suc n) [] p = tt
dropped P (suc n) (x ∷ list) p = dropped P n list p.1

filtered : {X : Type 0} (P : X → Type 0) (test : X → Bool) (list : List X) → AllByRecursion P list → AllByRecursion P (filter test list)
filtered P test [] p = tt
filtered P test (x ∷ list) p = by_test (test x) (filtered P test list p.1)
  where
    by_test : (b : Bool) → AllByRecursion P (filter test list) → AllByRecursion P (cond b (x ∷ filter test list) (filter test list))
    by_test true q = (p.0, q)
    by_test false q = q

each : {X Y : Type 0} (P : X → Type 0) (Q : Y → Type 0) (f : X → Y) → ((x : X) → P x → Q (f x)) → (xs : List X) → AllByRecursion P xs → AllByRecursion Q (map f xs)
each P Q f holds [] p = tt
each P Q f holds (x ∷ xs) p = (holds x p.0, each P Q f holds xs p.1)

-- it holds of what was found, if anything was
abbrev Holds : {X : Type 0} → (X → Type 0) → Option X → Type 0
Holds P None = Unit {0}
Holds P (Some x) = P x

found : {X : Type 0} (P : X → Type 0) (test : X → Bool) (list : List X) → AllByRecursion P list → Holds P (find test list)
found P test [] p = tt
found P test (x ∷ list) p = by_test (test x) (found P test list p.1)
  where
    by_test : (b : Bool) → Holds P (find test list) → Holds P (cond b (Some x) (find test list))
    by_test true q = p.0
    by_test false q = q

any : {X : Type 0} (list : List X) → AllByRecursion (λ x. Unit {0}) list
any [] = tt
any (x ∷ list) = (tt, any list)

-- given octets meet Q
abbrev GivesBy : (ℕ → Type 0) → Scripted → Type 0
GivesBy Q (event.Bytes c octets) = AllByRecursion Q octets
GivesBy Q (event.Datagram key octets) = AllByRecursion Q octets
GivesBy Q (event.Opened c) = Unit {0}
GivesBy Q (event.Closed c) = Unit {0}
GivesBy Q (event.Tick seconds) = Unit {0}
GivesBy Q event.NotYet = Unit {0}

module _ (settings : Settings) (input : ℕ) (Q : ℕ → Type 0) (P : Arrival (List ℕ) → Type 0) where
  abbrev AreQ : List ℕ → Type 0
  AreQ octets = AllByRecursion Q octets

  record Holding : Type 0 where
    opens : (n : ℕ) → P (SessionOpen (key_of input n) settings.transport)
    raws : (n : ℕ) (message : List ℕ) → AreQ message → P (Raw (key_of input n) message)
    closes : (n : ℕ) → P (SessionClose (key_of input n))
    ticks : (seconds : ℕ) → P (Periodic input seconds)

  -- the messages of a stream
  cut_are : (n : ℕ) (stream : List ℕ) → AreQ stream → AllByRecursion AreQ (cut_within n stream).messages
  cut_are zero stream p = tt
  cut_are (suc n) stream p = by_test (is_bad stream || is_short stream) (cut_are n (drop (message_size stream) stream) (dropped Q (message_size stream) stream p))
    where
      by_test : (b : Bool) → AllByRecursion AreQ (cut_within n (drop (message_size stream) stream)).messages
          → AllByRecursion AreQ (cond {A = Cut} b (record { messages = []; rest = stream }) (behind_first (take (message_size stream) stream) (cut_within n (drop (message_size stream) stream)))).messages
      by_test true q = tt
      by_test false q = (taken Q (message_size stream) stream p, q)

  new_are : (before octets : List ℕ) → AreQ before → AreQ octets → AllByRecursion AreQ (new_messages before octets)
  new_are before octets p q = dropped AreQ (length (cutting before).messages) (cutting (before ++ octets)).messages (cut_are (length (before ++ octets)) (before ++ octets) (joined Q before octets p q))

  abbrev Marked : Mark → Type 0
  Marked (Arrives a) = P a
  Marked Stray = Unit {0}
  Marked Refused = Unit {0}
  Marked Torn = Unit {0}
  Marked Broken = Unit {0}

  abbrev Held : Connection → Type 0
  Held x = AreQ x.octets

  abbrev Standing_ : Standing → Type 0
  Standing_ s = AllByRecursion Held s.connections

  -- what an event gives, and what stands after it
  record Right (g : Given) : Type 0 where
    marks : AllByRecursion Marked g.marks
    next : Standing_ g.next

  module _ (h : Holding) where
    stray_right : (s : Standing) → Standing_ s → Right (stray s)
    stray_right s p = record { marks = (tt, tt); next = p }

    either_right : (b : Bool) (x y : Given) → Right x → Right y → Right (cond b x y)
    either_right true x y p q = p
    either_right false x y p q = q

    opened_right : (c : ℕ) (s : Standing) (x : Option Connection) → Standing_ s → Right (opened settings input c s x)
    opened_right c s (Some x) p = stray_right s p
    opened_right c s None p =
        either_right (is_full s) (record { marks = Refused ∷ []; next = joined_by c None s })
        (record { marks = Arrives (SessionOpen (key_of input s.opened) settings.transport) ∷ []; next = record (joined_by c (Some s.opened) s) { opened = s.opened + 1 } })
        (record { marks = (tt, tt); next = joined Held s.connections (record { number = c; session = None; octets = [] } ∷ []) p (tt, tt) })
        (record { marks = (h.opens s.opened, tt); next = joined Held s.connections (record { number = c; session = Some s.opened; octets = [] } ∷ []) p (tt, tt) })

    updated_right : (x : Connection) (list : List Connection) → Held x → AllByRecursion Held list → AllByRecursion Held (map (λ y. cond (y.number == x.number) x y) list)
    updated_right x list q p = each Held Held (λ y. cond (y.number == x.number) x y) (λ y. by_test y (y.number == x.number)) list p
      where
        by_test : (y : Connection) (b : Bool) → Held y → Held (cond b x y)
        by_test y true r = q
        by_test y false r = r

    gone_right : (c n : ℕ) (octets : List ℕ) → AreQ octets → Held (gone_on c n octets)
    gone_right c n octets p = by_bad (is_bad (cutting octets).rest)
      where
        by_bad : (b : Bool) → Held (cond b (record { number = c; session = None; octets = [] }) (record { number = c; session = Some n; octets = octets }))
        by_bad true = tt
        by_bad false = p

    brought_in_right : (octets : List ℕ) (s : Standing) (x : Connection) (session : Option ℕ) → AreQ octets → Held x → Standing_ s → Right (brought_in input octets s x session)
    brought_in_right octets s x None o q p = record { marks = tt; next = p }
    brought_in_right octets s x (Some n) o q p = record {
      marks = joined Marked (map (λ m. Arrives (Raw (key_of input n) m)) (new_messages x.octets octets)) (cond (is_bad (cutting (x.octets ++ octets)).rest) (Broken ∷ Arrives (SessionClose (key_of input n)) ∷ []) [])
          (each AreQ Marked (λ m. Arrives (Raw (key_of input n) m)) (h.raws n) (new_messages x.octets octets) (new_are x.octets octets q o)) (by_bad (is_bad (cutting (x.octets ++ octets)).rest));
      next = updated_right (gone_on x.number n (x.octets ++ octets)) s.connections (gone_right x.number n (x.octets ++ octets) (joined Q x.octets octets q o)) p;
    }
      where
        by_bad : (b : Bool) → AllByRecursion Marked (cond b (Broken ∷ Arrives (SessionClose (key_of input n)) ∷ []) [])
        by_bad true = (tt, (h.closes n, tt))
        by_bad false = tt

    brought_right : (octets : List ℕ) (s : Standing) (x : Option Connection) → AreQ octets → Holds Held x → Standing_ s → Right (brought input octets s x)
    brought_right octets s None o q p = stray_right s p
    brought_right octets s (Some x) o q p = brought_in_right octets s x x.session o q p

    torn_right : (rest : List ℕ) → AllByRecursion Marked (torn_if rest)
    torn_right [] = tt
    torn_right (o ∷ rest) = (tt, tt)

    closing_right : (octets : List ℕ) (session : Option ℕ) → AllByRecursion Marked (closing input octets session)
    closing_right octets None = tt
    closing_right octets (Some n) = joined Marked (torn_if (cutting octets).rest) (Arrives (SessionClose (key_of input n)) ∷ []) (torn_right (cutting octets).rest) (h.closes n, tt)

    closed_right : (c : ℕ) (s : Standing) (x : Option Connection) → Standing_ s → Right (closed input c s x)
    closed_right c s None p = stray_right s p
    closed_right c s (Some x) p = record { marks = closing_right x.octets x.session; next = filtered Held (λ y. not (y.number == c)) s.connections p }

    came_right : (key : PeerKey) (octets : List ℕ) (s : Standing) (x : Option Peer) → AreQ octets → Standing_ s → Right (came settings input key octets s x)
    came_right key octets s (Some x) o p = record { marks = (h.raws x.session octets o, tt); next = p }
    came_right key octets s None o p =
        either_right (is_full s) (record { marks = Refused ∷ []; next = s })
        (record {
          marks = Arrives (SessionOpen (key_of input s.opened) settings.transport) ∷ Arrives (Raw (key_of input s.opened) octets) ∷ [];
          next = record s { peers = s.peers ++ record { key = key; session = s.opened; last = s.seconds } ∷ []; opened = s.opened + 1 };
        })
        (record { marks = (tt, tt); next = p }) (record { marks = (h.opens s.opened, (h.raws s.opened octets o, tt)); next = p })

    peers_right : (xs : List Peer) → AllByRecursion Marked (map (peer_closes input) xs)
    peers_right xs = each (λ x. Unit {0}) Marked (peer_closes input) (λ x p. h.closes x.session) xs (any xs)

    gives_right : (s : Standing) (e : Scripted) → Standing_ s → GivesBy Q e → Right (gives settings input s e)
    gives_right s (event.Opened c) p o = either_right (is_datagrams settings.transport) (stray s) (opened settings input c s (connection_of c s)) (stray_right s p) (opened_right c s (connection_of c s) p)
    gives_right s (event.Bytes c octets) p o =
        either_right (is_datagrams settings.transport) (stray s) (brought input octets s (connection_of c s)) (stray_right s p)
        (brought_right octets s (connection_of c s) o (found Held (λ (x : Connection). x.number == c) s.connections p) p)
    gives_right s (event.Closed c) p o = either_right (is_datagrams settings.transport) (stray s) (closed input c s (connection_of c s)) (stray_right s p) (closed_right c s (connection_of c s) p)
    gives_right s (event.Datagram key octets) p o =
        either_right (is_datagrams settings.transport) (came settings input key octets s (peer_of key s)) (stray s) (came_right key octets s (peer_of key s) o p) (stray_right s p)
    gives_right s (event.Tick seconds) p o = record {
      marks = joined Marked (map (peer_closes input) (filter (is_idle settings seconds) s.peers)) (Arrives (Periodic input seconds) ∷ []) (peers_right (filter (is_idle settings seconds) s.peers)) (h.ticks seconds, tt);
      next = p;
    }
    gives_right s event.NotYet p o = record { marks = tt; next = p }

    record RunRight (r : Run) : Type 0 where
      marks : AllByRecursion Marked r.marks
      standing : Standing_ r.standing

    run_right : (events : List Scripted) (r : Run) → RunRight r → AllByRecursion (GivesBy Q) events → RunRight (fold (with_event settings input) r events)
    run_right [] r p o = p
    run_right (e ∷ events) r p o =
        let g = gives_right r.standing e p.standing o.0 in
        run_right events (with_event settings input r e) (record { marks = joined Marked r.marks (gives settings input r.standing e).marks p.marks g.marks; standing = g.next }) o.1

    connections_close : (list : List Connection) → AllByRecursion Marked (flat_map (λ x. closing input x.octets x.session) list)
    connections_close [] = tt
    connections_close (x ∷ list) =
        joined Marked (closing input x.octets x.session) (flat_map (λ (y : Connection). closing input y.octets y.session) list) (closing_right x.octets x.session) (connections_close list)

    in_arrivals : (marks : List Mark) → AllByRecursion Marked marks → AllByRecursion P (arrivals_in marks)
    in_arrivals [] p = tt
    in_arrivals (Arrives a ∷ marks) p = (p.0, in_arrivals marks p.1)
    in_arrivals (Stray ∷ marks) p = in_arrivals marks p.1
    in_arrivals (Refused ∷ marks) p = in_arrivals marks p.1
    in_arrivals (Torn ∷ marks) p = in_arrivals marks p.1
    in_arrivals (Broken ∷ marks) p = in_arrivals marks p.1

    first_are : (given : List Scripted) → AllByRecursion (GivesBy Q) given → AllByRecursion (GivesBy Q) (first_events settings.stop_after given)
    first_are given p = by_test (settings.stop_after == 0) (filtered (GivesBy Q) is_event given p)
      where
        by_test : (b : Bool) → AllByRecursion (GivesBy Q) (events_of given) → AllByRecursion (GivesBy Q) (cond b (events_of given) (take settings.stop_after (events_of given)))
        by_test true q = q
        by_test false q = taken (GivesBy Q) settings.stop_after (events_of given) q

    all_hold : (given : List Scripted) → AllByRecursion (GivesBy Q) given → AllByRecursion P (arrivals_of settings input given)
    all_hold given p =
        let events = first_events settings.stop_after given in
        let r = run_of settings input events in
        let right = run_right events before_all (record { marks = tt; standing = tt }) (first_are given p) in
        in_arrivals (r.marks ++ closings input r.standing)
        (joined Marked r.marks (closings input r.standing) right.marks
        (joined Marked (flat_map (λ (x : Connection). closing input x.octets x.session) r.standing.connections) (map (peer_closes input) r.standing.peers) (connections_close r.standing.connections) (peers_right r.standing.peers)))

-- where any octets do
any_octets : (given : List Scripted) → AllByRecursion (GivesBy (λ o. Unit {0})) given
any_octets [] = tt
any_octets (event.Bytes c octets ∷ given) = (any octets, any_octets given)
any_octets (event.Datagram key octets ∷ given) = (any octets, any_octets given)
any_octets (event.Opened c ∷ given) = (tt, any_octets given)
any_octets (event.Closed c ∷ given) = (tt, any_octets given)
any_octets (event.Tick seconds ∷ given) = (tt, any_octets given)
any_octets (event.NotYet ∷ given) = (tt, any_octets given)

-- All arrivals are of their input.
pub all_own : (settings : Settings) (input : ℕ) (given : List Scripted) → AllByRecursion (λ (a : Arrival (List ℕ)). input_of a ≡ input) (arrivals_of settings input given)
all_own settings input given =
    all_hold settings input (λ o. Unit {0}) (λ a. input_of a ≡ input) (record { opens = λ n. refl; raws = λ n m p. refl; closes = λ n. refl; ticks = λ s. refl }) given (any_octets given)

-- All sessions open over the transport of their input.
pub all_over : (settings : Settings) (input : ℕ) (given : List Scripted) → AllByRecursion (OpensOver settings.transport) (arrivals_of settings input given)
all_over settings input given =
    all_hold settings input (λ o. Unit {0}) (OpensOver settings.transport) (record { opens = λ n. refl; raws = λ n m p. tt; closes = λ n. tt; ticks = λ s. tt }) given (any_octets given)

-- What arrives of octets is of octets.
pub all_octets : (settings : Settings) (input : ℕ) (given : List Scripted) → AllByRecursion GivesOctets given → AllByRecursion ArrivesInOctets (arrivals_of settings input given)
all_octets settings input given p =
    all_hold settings input (λ o. o < 256) ArrivesInOctets (record { opens = λ n. tt; raws = λ n m q. q; closes = λ n. tt; ticks = λ s. tt }) given (as_given given p)
  where
    one : (e : Scripted) → GivesOctets e → GivesBy (λ o. o < 256) e
    one (event.Bytes c octets) q = q
    one (event.Datagram key octets) q = q
    one (event.Opened c) q = tt
    one (event.Closed c) q = tt
    one (event.Tick seconds) q = tt
    one event.NotYet q = tt

    as_given : (list : List Scripted) → AllByRecursion GivesOctets list → AllByRecursion (GivesBy (λ o. o < 256)) list
    as_given [] q = tt
    as_given (e ∷ list) q = (one e q.0, as_given list q.1)
