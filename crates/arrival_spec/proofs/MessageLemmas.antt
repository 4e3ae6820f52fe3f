-- What arrived in the session of a connection is the messages of its octets.
use Rattle.std.proofs.Common.{◌≡◌, ◌⊎◌, inl, inr, ℕ, ◌+◌, ◌≤◌, Bool, true, false, cond, List, [], ◌∷◌, ◌++◌, Some, None, length, drop, refl, ap, sym, subst, ◌∙◌, arith, append-nil, map}
use Rattle.std.specs.Prelude.{Option, ◌==◌, find, filter, fold}
use Rattle.std.proofs.lemmas.Bool.{both_ways, cases_Bool, eq-eqb, eqb-true, ne_eqb}
use Rattle.std.proofs.lemmas.Grind.{flat_map-append}
use Rattle.std.proofs.Math.Seq.{drop-append_seam}
use Rattle.wire_spec.specs.Stream.{IsCut, is_bad}
use Rattle.wire_spec.proofs.StreamLemmas.{pieces_cut}
use Rattle.arrival_spec.specs.declared.event.Scripted.{Scripted}
use Rattle.arrival_spec.specs.declared.event.Scripted.TheVariants as event
use Rattle.arrival_spec.specs.Messages.{message_in, messages_in}
use Rattle.arrival_spec.specs.Arrival.Arrival.{Raw, SessionClose, SessionOpen, Periodic}
use Rattle.arrival_spec.specs.Mark.{Mark, arrival_in, arrivals_in}
use Rattle.arrival_spec.specs.Mark.Mark.{Arrives, Broken, Refused}
use Rattle.arrival_spec.specs.Settings.{Settings}
use Rattle.arrival_spec.specs.Cutting.{cutting, new_messages}
use Rattle.arrival_spec.specs.Sessions.{Connection, Given, Peer, Standing, brought, brought_in, came, closed, closing, connection_of, gives, gone_on, is_datagrams, is_full, is_idle, joined_by, key_of, open_sessions, opened, peer_closes, peer_of, stray, updated, without}
use Rattle.arrival_spec.specs.Run.{Run, before_all, run_of, standing_after, with_event}
use Rattle.arrival_spec.proofs.CutLemmas.{cutting_is}
use Rattle.arrival_spec.proofs.FindLemmas.{find_added, find_changed, find_changed_other, find_closed, find_left, find_new, found_passes}
use Rattle.arrival_spec.proofs.LeadLemmas.{same_number}
use Rattle.arrival_spec.proofs.OrderLemmas.{IsRight, IsStream, goes_on, run_right}
use Rattle.arrival_spec.proofs.PastLemmas.{gone_number}
use Rattle.arrival_spec.proofs.RiseLemmas.{Rises, below}
use Rattle.arrival_spec.proofs.RowLemmas.{one_connection, sessions_of, stands_among}
use Rattle.arrival_spec.proofs.OpenLemmas.{torn_marks}

-- the messages of octets with more octets
pub with_new : (o a : List ℕ) → (cutting (o ++ a)).messages ≡ (cutting o).messages ++ new_messages o a
with_new o a =
    let p = pieces_cut o a (cutting o).messages (cutting (o ++ a)).messages (cutting o).rest (cutting (o ++ a)).rest (cutting_is o) (cutting_is (o ++ a)) in
    p.1 ∙ ap (λ l. (cutting o).messages ++ l) (sym (ap (drop (length (cutting o).messages)) p.1 ∙ drop-append_seam (cutting o).messages p.0))

module _ (input : ℕ) where
  -- the messages that marks bring in session n
  abbrev pub got : ℕ → List Mark → List (List ℕ)
  got n marks = messages_in (key_of input n) (arrivals_in marks)

  pub got-append : (n : ℕ) (xs ys : List Mark) → got n (xs ++ ys) ≡ got n xs ++ got n ys
  got-append n xs ys = ap (messages_in (key_of input n)) (flat_map-append arrival_in xs ys) ∙ flat_map-append (message_in (key_of input n)) (arrivals_in xs) (arrivals_in ys)

  abbrev raws : ℕ → List (List ℕ) → List Mark
  raws n messages = map (λ m. Arrives (Raw (key_of input n) m)) messages

  pub got_own : (n : ℕ) (messages : List (List ℕ)) → got n (raws n messages) ≡ messages
  got_own n [] = refl
  got_own n (m ∷ messages) = ap (λ b. cond b (m ∷ []) [] ++ got n (raws n messages)) (same_number input n n ∙ eq-eqb n n refl) ∙ ap (λ l. m ∷ l) (got_own n messages)

  pub got_other : (n k : ℕ) (messages : List (List ℕ)) → (k == n) ≡ false → got n (raws k messages) ≡ []
  got_other n k [] other = refl
  got_other n k (m ∷ messages) other = ap (λ b. cond b (m ∷ []) [] ++ got n (raws k messages)) (same_number input k n ∙ other) ∙ got_other n k messages other

  abbrev ending : ℕ → Bool → List Mark
  ending n bad = cond bad (Broken ∷ Arrives (SessionClose (key_of input n)) ∷ []) []

  got_ending : (n k : ℕ) (bad : Bool) → got n (ending k bad) ≡ []
  got_ending n k true = refl
  got_ending n k false = refl

  -- a piece brings its new messages in its own session
  pub got_piece : (n : ℕ) (messages : List (List ℕ)) (bad : Bool) → got n (raws n messages ++ ending n bad) ≡ messages
  got_piece n messages bad = got-append n (raws n messages) (ending n bad) ∙ (ap (λ l. got n (raws n messages) ++ l) (got_ending n n bad) ∙ (append-nil (got n (raws n messages)) ∙ got_own n messages))

  pub got_beside : (n k : ℕ) (messages : List (List ℕ)) (bad : Bool) → (k == n) ≡ false → got n (raws k messages ++ ending k bad) ≡ []
  got_beside n k messages bad other = got-append n (raws k messages) (ending k bad) ∙ (ap (λ l. l ++ got n (ending k bad)) (got_other n k messages other) ∙ got_ending n k bad)

  -- what arrived in the session of each connection is the messages of its octets, and nothing did in those to come
  pub record IsTold (marks : List Mark) (s : Standing) : Type 0 where
    pub told : (c n : ℕ) (x : Connection) → connection_of c s ≡ Some x → x.session ≡ Some n → got n marks ≡ (cutting x.octets).messages
    pub fresh : (n : ℕ) → s.opened ≤ n → got n marks ≡ []

  -- an event that brings no message, and leaves the connections that have a session as they were
  silent_told : (marks new : List Mark) (s next : Standing) → ((n : ℕ) → got n new ≡ []) → s.opened ≤ next.opened
      → ((c n : ℕ) (x : Connection) → connection_of c next ≡ Some x → x.session ≡ Some n → connection_of c s ≡ Some x) → IsTold marks s → IsTold (marks ++ new) next
  silent_told marks new s next none more back p = record {
    told = λ c n x e is. same n ∙ p.told c n x (back c n x e is) is;
    fresh = λ n le. same n ∙ p.fresh n (omega arith);
  }
    where
      same : (n : ℕ) → got n (marks ++ new) ≡ got n marks
      same n = got-append n marks new ∙ (ap (λ l. got n marks ++ l) (none n) ∙ append-nil (got n marks))

  stray_told : (marks : List Mark) (s : Standing) → IsTold marks s → IsTold (marks ++ (stray s).marks) s
  stray_told marks s p = silent_told marks (stray s).marks s s (λ n. refl) (omega arith) (λ c n x e is. e) p

  module _ (settings : Settings) (marks : List Mark) (s : Standing) (p : IsTold marks s) where
    -- a connection that is added: it, or another
    added : (k : ℕ) (y : Connection) → y.number ≡ k → connection_of k s ≡ None → (c : ℕ) (x : Connection) → find (λ z. z.number == c) (s.connections ++ y ∷ []) ≡ Some x → ((y ≡ x) × (k ≡ c)) ⊎ (connection_of c s ≡ Some x)
    added k y number none c x e =
        elim (cases_Bool (y.number == c)) [
          | inl is ↦
              (let same : k ≡ c = sym number ∙ eqb-true y.number c is in
              let absent : connection_of c s ≡ None = ap (λ n. connection_of n s) (sym same) ∙ none in
              let here : Some y ≡ Some x = sym (find_new (λ (z : Connection). z.number == c) s.connections y absent is) ∙ e in
              let own : y ≡ x = cc in
              inl (own, same))
          | inr is ↦ inr (sym (find_added (λ (z : Connection). z.number == c) s.connections y is) ∙ e)
        ]

    opened_told : (k : ℕ) (o : Option Connection) → connection_of k s ≡ o → IsTold (marks ++ (opened settings input k s o).marks) (opened settings input k s o).next
    opened_told k (Some x) found = stray_told marks s p
    opened_told k None found = by_full (is_full s)
      where
        by_full : (b : Bool)
            → IsTold (marks ++ (cond {A = Given} b (record { marks = Refused ∷ []; next = joined_by k None s })
            (record { marks = Arrives (SessionOpen (key_of input s.opened) settings.transport) ∷ []; next = record (joined_by k (Some s.opened) s) { opened = s.opened + 1 } })).marks)
            (cond {A = Given} b (record { marks = Refused ∷ []; next = joined_by k None s })
            (record { marks = Arrives (SessionOpen (key_of input s.opened) settings.transport) ∷ []; next = record (joined_by k (Some s.opened) s) { opened = s.opened + 1 } })).next
        by_full true =
            silent_told marks (Refused ∷ []) s (joined_by k None s) (λ n. refl) (omega arith)
            (λ c n x e is. elim (added k (record { number = k; session = None; octets = [] }) refl found c x e) [
              | inl q ↦ absurd (let no : None ≡ Some n = ap (λ (z : Connection). z.session) q.0 ∙ is in cc)
              | inr q ↦ q
            ]) p
        by_full false =
            let new : List Mark = Arrives (SessionOpen (key_of input s.opened) settings.transport) ∷ [] in
            let same : (n : ℕ) → got n (marks ++ new) ≡ got n marks = λ n. got-append n marks new ∙ append-nil (got n marks) in
            record {
              told = λ c n x e is. same n ∙ elim (added k (record { number = k; session = Some s.opened; octets = [] }) refl found c x e) [
                | inl q ↦
                    (let session : Some s.opened ≡ Some n = ap (λ (z : Connection). z.session) q.0 ∙ is in
                    let number : s.opened ≡ n = cc in
                    p.fresh n (omega arith) ∙ ap (λ (z : Connection). (cutting z.octets).messages) q.0)
                | inr q ↦ p.told c n x q is
              ];
              fresh = λ n le. same n ∙ p.fresh n (omega arith);
            }

    closed_told : (k : ℕ) (o : Option Connection) → connection_of k s ≡ o → IsTold (marks ++ (closed input k s o).marks) (closed input k s o).next
    closed_told k None found = stray_told marks s p
    closed_told k (Some y) found =
        silent_told marks (closing input y.octets y.session) s (without k s) (λ n. by_session n y.session) (omega arith)
        (λ c n x e is. elim (cases_Bool (k == c)) [
          | inl own ↦ absurd (let no : None ≡ Some x = sym (find_closed c k s.connections own) ∙ e in cc)
          | inr other ↦ sym (find_left c k s.connections other) ∙ e
        ]) p
      where
        by_session : (n : ℕ) (o : Option ℕ) → got n (closing input y.octets o) ≡ []
        by_session n None = refl
        by_session n (Some m) = ap (messages_in (key_of input n)) (torn_marks (cutting y.octets).rest (Arrives (SessionClose (key_of input m)) ∷ []))

    ticked_told : (seconds : ℕ) → IsTold (marks ++ (gives settings input s (event.Tick seconds)).marks) (gives settings input s (event.Tick seconds)).next
    ticked_told seconds =
        silent_told marks (map (peer_closes input) (filter (is_idle settings seconds) s.peers) ++ Arrives (Periodic input seconds) ∷ []) s (gives settings input s (event.Tick seconds)).next
        (λ n. got-append n (map (peer_closes input) (filter (is_idle settings seconds) s.peers)) (Arrives (Periodic input seconds) ∷ []) ∙ (append-nil (got n (map (peer_closes input) (filter (is_idle settings seconds) s.peers))) ∙ none n (filter (is_idle settings seconds) s.peers)))
        (omega arith) (λ c n x e is. e) p
      where
        none : (n : ℕ) (xs : List Peer) → got n (map (peer_closes input) xs) ≡ []
        none n [] = refl
        none n (x ∷ xs) = none n xs

    abbrev grown : Connection → ℕ → List ℕ → Connection
    grown x j a = gone_on x.number j (x.octets ++ a)

    -- a connection that goes on with its session has all its octets
    went_on : (b : Bool) (c j n : ℕ) (octets : List ℕ) (z : Connection) → cond b (record { number = c; session = None; octets = [] }) (record { number = c; session = Some j; octets = octets }) ≡ z → z.session ≡ Some n
        → (j ≡ n) × (octets ≡ z.octets)
    went_on true c j n octets z e is = absurd (let no : None ≡ Some n = ap (λ (w : Connection). w.session) e ∙ is in cc)
    went_on false c j n octets z e is = let some : Some j ≡ Some n = ap (λ (w : Connection). w.session) e ∙ is in let same : j ≡ n = cc in (same, ap (λ (w : Connection). w.octets) e)

    module _ (rises : Rises 0 (open_sessions s) s.opened) (stream : IsStream s) (a : List ℕ) (k j : ℕ) (x : Connection) (found : connection_of k s ≡ Some x) (is : x.session ≡ Some j) where
      abbrev piece : List Mark
      piece = raws j (new_messages x.octets a) ++ ending j (is_bad (cutting (x.octets ++ a)).rest)

      own_number : x.number ≡ k
      own_number = eqb-true x.number k (found_passes (λ (z : Connection). z.number == k) s.connections x found)

      number_of : (c : ℕ) (b : Bool) → (k == c) ≡ b → ((grown x j a).number == c) ≡ b
      number_of c b e = ap (λ m. m == c) (gone_number x.number j (x.octets ++ a) ∙ own_number) ∙ e

      -- the session stands among those that are open
      last : j + 1 ≤ s.opened
      last =
          let there = stands_among x j x s.connections (stream.apart x.number) (ap (λ m. connection_of m s) own_number ∙ found) is in
          let whole : open_sessions s ≡ there.front ++ j ∷ there.rest =
          ap (λ l. sessions_of s.connections ++ map (λ (z : Peer). z.session) l) stream.no_peers ∙ (append-nil (sessions_of s.connections) ∙ there.whole) in
          below 0 j s.opened there.front there.rest (subst (λ l. Rises 0 l s.opened) whole rises)

      beside : (n : ℕ) → (j == n) ≡ false → got n (marks ++ piece) ≡ got n marks
      beside n other = got-append n marks piece ∙ (ap (λ l. got n marks ++ l) (got_beside n j (new_messages x.octets a) (is_bad (cutting (x.octets ++ a)).rest) other) ∙ append-nil (got n marks))

      -- another connection has another session
      different : (c n : ℕ) (z : Connection) → (k == c) ≡ false → connection_of c s ≡ Some z → z.session ≡ Some n → (j == n) ≡ false
      different c n z other e js =
          ne_eqb j n (λ (same : j ≡ n).
          (let one : x ≡ z = one_connection (λ w. w.number == k) (λ w. w.number == c) 0 s.opened j s.connections (map (λ (w : Peer). w.session) s.peers) x z rises found e is (js ∙ ap Some (sym same)) in
          let number : z.number ≡ c = eqb-true z.number c (found_passes (λ (w : Connection). w.number == c) s.connections z e) in
          both_ways (k == c) other (eq-eqb k c (sym own_number ∙ (ap (λ (w : Connection). w.number) one ∙ number)))))

      own_told : (n : ℕ) (z : Connection) → grown x j a ≡ z → z.session ≡ Some n → got n (marks ++ piece) ≡ (cutting z.octets).messages
      own_told n z same js =
          let w = went_on (is_bad (cutting (x.octets ++ a)).rest) x.number j n (x.octets ++ a) z same js in
          ap (λ m. got m (marks ++ piece)) (sym w.0)
          ∙ (got-append j marks piece
          ∙ (ap (λ l. got j marks ++ l) (got_piece j (new_messages x.octets a) (is_bad (cutting (x.octets ++ a)).rest))
          ∙ (ap (λ l. l ++ new_messages x.octets a) (p.told k j x found is) ∙ (sym (with_new x.octets a) ∙ ap (λ o. (cutting o).messages) w.1))))

      brought_told : IsTold (marks ++ piece) (updated (grown x j a) s)
      brought_told = record {
        told = λ c n z e js. elim (cases_Bool (k == c)) [
          | inl own ↦
              (let e2 : Some (grown x j a) ≡ Some z = sym (find_changed c (grown x j a) x s.connections (number_of c true own) (ap (λ m. connection_of m s) (sym (eqb-true k c own)) ∙ found)) ∙ e in
              let same : grown x j a ≡ z = cc in
              own_told n z same js)
          | inr other ↦
              (let e2 : connection_of c s ≡ Some z = sym (find_changed_other c (grown x j a) s.connections (number_of c false other)) ∙ e in
              beside n (different c n z other e2 js) ∙ p.told c n z e2 js)
        ];
        fresh = λ n le. (let up = last in beside n (ne_eqb j n (λ (e : j ≡ n). omega arith))) ∙ p.fresh n le;
      }

    brought_any : (rises : Rises 0 (open_sessions s) s.opened) → IsStream s → (a : List ℕ) (k : ℕ) (o : Option Connection) → connection_of k s ≡ o → IsTold (marks ++ (brought input a s o).marks) (brought input a s o).next
    brought_any rises stream a k None found = stray_told marks s p
    brought_any rises stream a k (Some x) found = by_session x.session refl
      where
        by_session : (o : Option ℕ) → x.session ≡ o → IsTold (marks ++ (brought_in input a s x o).marks) (brought_in input a s x o).next
        by_session None is = silent_told marks [] s s (λ n. refl) (omega arith) (λ c n y e js. e) p
        by_session (Some j) is = brought_told rises stream a k j x found is

    gives_told : is_datagrams settings.transport ≡ false → Rises 0 (open_sessions s) s.opened → IsStream s → (e : Scripted) → IsTold (marks ++ (gives settings input s e).marks) (gives settings input s e).next
    gives_told is rises stream (event.Opened c) =
        subst (λ (g : Given). IsTold (marks ++ g.marks) g.next) (sym (ap (λ b. cond b (stray s) (opened settings input c s (connection_of c s))) is)) (opened_told c (connection_of c s) refl)
    gives_told is rises stream (event.Bytes c octets) =
        subst (λ (g : Given). IsTold (marks ++ g.marks) g.next) (sym (ap (λ b. cond b (stray s) (brought input octets s (connection_of c s))) is)) (brought_any rises stream octets c (connection_of c s) refl)
    gives_told is rises stream (event.Closed c) =
        subst (λ (g : Given). IsTold (marks ++ g.marks) g.next) (sym (ap (λ b. cond b (stray s) (closed input c s (connection_of c s))) is)) (closed_told c (connection_of c s) refl)
    gives_told is rises stream (event.Datagram key octets) =
        subst (λ (g : Given). IsTold (marks ++ g.marks) g.next) (sym (ap (λ b. cond b (came settings input key octets s (peer_of key s)) (stray s)) is)) (stray_told marks s p)
    gives_told is rises stream (event.Tick seconds) = ticked_told seconds
    gives_told is rises stream event.NotYet = silent_told marks [] s s (λ n. refl) (omega arith) (λ c n x e js. e) p

module _ (settings : Settings) (input : ℕ) (stream : is_datagrams settings.transport ≡ false) where
  along : (r : Run) (events : List Scripted) → IsRight settings input r → IsTold input r.marks r.standing → IsTold input (fold (with_event settings input) r events).marks (fold (with_event settings input) r events).standing
  along r [] right told = told
  along r (e ∷ events) right told =
      along (with_event settings input r e) events (goes_on settings input r e right) (gives_told input settings r.marks r.standing told stream right.sound.rises (right.stream stream) e)

  -- What arrived in the session of an open connection is the messages of its octets.
  pub session_told : (c n : ℕ) (events : List Scripted) (x : Connection) → connection_of c (standing_after settings input events) ≡ Some x → x.session ≡ Some n
      → IsCut x.octets (messages_in (key_of input n) (arrivals_in (run_of settings input events).marks)) (cutting x.octets).rest
  session_told c n events x e is =
      let told = along before_all events (run_right settings input []) (record { told = λ c n x e is. absurd cc; fresh = λ n le. refl }) in
      subst (λ m. IsCut x.octets m (cutting x.octets).rest) (sym (told.told c n x e is)) (cutting_is x.octets)
