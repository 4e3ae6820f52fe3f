-- Octets of a connection.
use Rattle.std.proofs.Common.{◌≡◌, ℕ, Bool, true, false, cond, not, List, [], ◌∷◌, ◌++◌, Some, None, refl, ap, sym, subst, ◌∙◌, map, append_assoc, append-nil}
use Rattle.std.specs.Prelude.{Option, ◌==◌, find, filter}
use Rattle.std.specs.List.{AllByRecursion, cons_option, filter_map}
use Rattle.std.proofs.lemmas.Grind.{flat_map-append}
use Rattle.std.proofs.lemmas.List.{map-append}
use Rattle.std.proofs.lemmas.Bool.{eqb-true}
use Rattle.col_base.specs.declared.base.SessionKey.{SessionKey}
use Rattle.wire_spec.specs.Stream.{is_bad}
use Rattle.arrival_spec.specs.declared.event.Scripted.TheVariants as event
use Rattle.arrival_spec.specs.Settings.{Settings}
use Rattle.arrival_spec.specs.Arrival.Arrival.{Raw, SessionClose}
use Rattle.arrival_spec.specs.Mark.{Mark, arrival_in, arrivals_in}
use Rattle.arrival_spec.specs.Mark.Mark.{Arrives, Broken}
use Rattle.arrival_spec.specs.Cutting.{Cut, cutting}
use Rattle.arrival_spec.specs.Sessions.{Connection, Standing, Given, brought, brought_in, connection_of, gives, is_datagrams, key_of, nothing, stray, updated}
use Rattle.arrival_spec.proofs.FindLemmas.{found_passes}
use Rattle.session_table.specs.Rows.{Conn, conn_is}
use Rattle.session_table.specs.Table.{Table, Disconnects}
use Rattle.input_lane.specs.declared.came.Came.{Came}
use Rattle.input_lane.specs.declared.came.Came.TheVariants as came
use Rattle.input_lane.specs.declared.state.State.{State}
use Rattle.input_lane.specs.declared.tally.Tally.{Tally}
use Rattle.input_lane.specs.Brings.{LinkGrows, changed_row}
use Rattle.input_lane.specs.Hands.{meant, meant_by}
use Rattle.input_lane.specs.Kept.{Keeps, Taken, conn_by, conn_of, link_of, rest_by, sessions_of}
use Rattle.input_lane.specs.Links.{AreApart, Link, link_is}
use Rattle.input_lane.specs.Tallies.{Counted, adds}
use Rattle.input_lane.proofs.CountLemmas.{none_more, counted_none, counted_then}
use Rattle.input_lane.proofs.CutLemmas.{cut_behind, new_cut}
use Rattle.input_lane.proofs.FindLemmas.{AreDifferent, conn_found, present}

abbrev upd : Connection → Connection → Connection
upd x y = cond (y.number == x.number) x y

changed_links : (c : ℕ) (x : Connection) (xs : List Connection) → x.number ≡ c → map (changed_row c (link_of x)) (map link_of xs) ≡ map link_of (map (upd x) xs)
changed_links c x [] same = refl
changed_links c x (y ∷ xs) same = λ j. (ap (λ n. cond (y.number == n) (link_of x) (link_of y)) (sym same) ∙ by_test (y.number == x.number)) j ∷ changed_links c x xs same j
  where
    by_test : (b : Bool) → cond b (link_of x) (link_of y) ≡ link_of (cond b x y)
    by_test true = refl
    by_test false = refl

none_updated : (k : ℕ) (x : Connection) (xs : List Connection) → k ≡ x.number → AllByRecursion (λ y. link_is k y ≡ false) (map link_of xs) → map (upd x) xs ≡ xs
none_updated k x [] same all = refl
none_updated k x (y ∷ xs) same all = λ j. cond ((ap (λ n. y.number == n) (sym same) ∙ all.0) j) x y ∷ none_updated k x xs same all.1 j

-- where it doesn't change, all stay
same_stays : (c : ℕ) (x : Connection) (xs : List Connection) → AreDifferent xs → find (λ (y : Connection). y.number == c) xs ≡ Some x → x.number ≡ c → map (upd x) xs ≡ xs
same_stays c x [] apart found number = refl
same_stays c x (y ∷ xs) apart found number = by_test (y.number == c) refl (λ (f : find (λ (y : Connection). y.number == c) xs ≡ Some x). same_stays c x xs apart.1 f number) found
  where
    by_test : (b : Bool) → (y.number == c) ≡ b → (find (λ (y : Connection). y.number == c) xs ≡ Some x → map (upd x) xs ≡ xs) → cond b (Some y) (find (λ (y : Connection). y.number == c) xs) ≡ Some x → upd x y ∷ map (upd x) xs ≡ y ∷ xs
    by_test true is further f =
        let same : y ≡ x = cc in
        let mine : y.number ≡ c = eqb-true y.number c is in
        ap (λ b. cond b x y ∷ map (upd x) xs) (ap (λ n. y.number == n) number ∙ is) ∙ (λ j. sym same j ∷ none_updated y.number x xs (mine ∙ sym number) apart.0 j)
    by_test false is further f = ap (λ b. cond b x y ∷ map (upd x) xs) (ap (λ n. y.number == n) number ∙ is) ∙ ap (λ l. y ∷ l) (further f)

-- a connection that goes on keeps its session
conns_stay : (c : ℕ) (x z : Connection) (xs : List Connection) → AreDifferent xs → find (λ (y : Connection). y.number == c) xs ≡ Some x → z.number ≡ c → z.session ≡ x.session → filter_map conn_of (map (upd z) xs) ≡ filter_map conn_of xs
conns_stay c x z [] apart found number session = refl
conns_stay c x z (y ∷ xs) apart found number session = by_test (y.number == c) refl (λ (f : find (λ (y : Connection). y.number == c) xs ≡ Some x). conns_stay c x z xs apart.1 f number session) found
  where
    by_test : (b : Bool) → (y.number == c) ≡ b → (find (λ (y : Connection). y.number == c) xs ≡ Some x → filter_map conn_of (map (upd z) xs) ≡ filter_map conn_of xs)
        → cond b (Some y) (find (λ (y : Connection). y.number == c) xs) ≡ Some x → filter_map conn_of (upd z y ∷ map (upd z) xs) ≡ filter_map conn_of (y ∷ xs)
    by_test true is further f =
        let same : y ≡ x = cc in
        let mine : y.number ≡ c = eqb-true y.number c is in
        let own : conn_of z ≡ conn_of y = (λ j. conn_by ((number ∙ sym mine) j) ((session ∙ ap (λ (w : Connection). w.session) (sym same)) j)) in
        let tail : map (upd z) xs ≡ xs = none_updated y.number z xs (mine ∙ sym number) apart.0 in
        ap (λ b. filter_map conn_of (cond b z y ∷ map (upd z) xs)) (ap (λ n. y.number == n) number ∙ is) ∙ (λ j. cons_option (own j) (filter_map conn_of (tail j)))
    by_test false is further f =
        ap (λ b. filter_map conn_of (cond b z y ∷ map (upd z) xs)) (ap (λ n. y.number == n) number ∙ is) ∙ ap (cons_option (conn_of y)) (further f)

abbrev dead : ℕ → Connection
dead n = record { number = n; session = None; octets = [] }

-- one that breaks has none
conns_go : (c n : ℕ) (xs : List Connection) → n ≡ c → filter (λ (y : Conn). not (conn_is c y)) (filter_map conn_of xs) ≡ filter_map conn_of (map (upd (dead n)) xs)
conns_go c n [] number = refl
conns_go c n (x ∷ xs) number = by_test (x.number == c) refl (conns_go c n xs number)
  where
    gone : (o : Option ℕ) → (x.number == c) ≡ true → filter (λ (y : Conn). not (conn_is c y)) (cons_option (conn_by x.number o) (filter_map conn_of xs)) ≡ filter (λ (y : Conn). not (conn_is c y)) (filter_map conn_of xs)
    gone None is = refl
    gone (Some m) is = ap (λ b. cond (not b) (record { conn = x.number; session = m } ∷ filter (λ (y : Conn). not (conn_is c y)) (filter_map conn_of xs)) (filter (λ (y : Conn). not (conn_is c y)) (filter_map conn_of xs))) is

    stays : (o : Option ℕ) → (x.number == c) ≡ false → filter (λ (y : Conn). not (conn_is c y)) (cons_option (conn_by x.number o) (filter_map conn_of xs)) ≡ cons_option (conn_by x.number o) (filter (λ (y : Conn). not (conn_is c y)) (filter_map conn_of xs))
    stays None is = refl
    stays (Some m) is = ap (λ b. cond (not b) (record { conn = x.number; session = m } ∷ filter (λ (y : Conn). not (conn_is c y)) (filter_map conn_of xs)) (filter (λ (y : Conn). not (conn_is c y)) (filter_map conn_of xs))) is

    by_test : (b : Bool) → (x.number == c) ≡ b → filter (λ (y : Conn). not (conn_is c y)) (filter_map conn_of xs) ≡ filter_map conn_of (map (upd (dead n)) xs)
        → filter (λ (y : Conn). not (conn_is c y)) (cons_option (conn_by x.number x.session) (filter_map conn_of xs)) ≡ filter_map conn_of (upd (dead n) x ∷ map (upd (dead n)) xs)
    by_test true is e = gone x.session is ∙ (e ∙ sym (ap (λ b. filter_map conn_of (cond b (dead n) x ∷ map (upd (dead n)) xs)) (ap (λ m. x.number == m) number ∙ is)))
    by_test false is e = stays x.session is ∙ (ap (cons_option (conn_by x.number x.session)) e ∙ sym (ap (λ b. filter_map conn_of (cond b (dead n) x ∷ map (upd (dead n)) xs)) (ap (λ m. x.number == m) number ∙ is)))

abbrev raws : SessionKey → List (List ℕ) → List Mark
raws key messages = map (λ m. Arrives (Raw key m)) messages

raws_arrive : (key : SessionKey) (messages : List (List ℕ)) → arrivals_in (raws key messages) ≡ map (Raw key) messages
raws_arrive key [] = refl
raws_arrive key (m ∷ messages) = ap (λ l. Raw key m ∷ l) (raws_arrive key messages)

raws_counted : (key : SessionKey) (messages : List (List ℕ)) (t : Tally) → Counted (raws key messages) t t
raws_counted key [] t = counted_none t
raws_counted key (m ∷ messages) t = counted_then (Arrives (Raw key m) ∷ []) (raws key messages) t t t
    (record { sessions = none_more t.sessions; torn = none_more t.torn; broken = none_more t.broken; refused = none_more t.refused; stray = none_more t.stray }) (raws_counted key messages t)

abbrev ending : SessionKey → Bool → List Mark
ending key bad = cond bad (Broken ∷ Arrives (SessionClose key) ∷ []) []

-- what octets give, by the rest that is kept
abbrev grown : ℕ → ℕ → List ℕ → Standing → Connection → Bool → Cut → Given
grown input n octets s x bad cut = record {
  marks = raws (key_of input n) cut.messages ++ ending (key_of input n) bad;
  next = updated (cond bad (dead x.number) (record { number = x.number; session = Some n; octets = x.octets ++ octets })) s;
}

grows : (input n : ℕ) (octets : List ℕ) (s : Standing) (x : Connection) (bad : Bool) → is_bad (cutting ((cutting x.octets).rest ++ octets)).rest ≡ bad → brought_in input octets s x (Some n) ≡ grown input n octets s x bad (cutting ((cutting x.octets).rest ++ octets))
grows input n octets s x bad e =
    let ends : is_bad (cutting (x.octets ++ octets)).rest ≡ bad = ap (λ (c : Cut). is_bad c.rest) (cut_behind x.octets octets) ∙ e in
    λ j. record {
      marks = raws (key_of input n) (new_cut x.octets octets j) ++ ending (key_of input n) (ends j);
      next = updated (cond (ends j) (dead x.number) (record { number = x.number; session = Some n; octets = x.octets ++ octets })) s;
    }

module _ (settings : Settings) (input c : ℕ) (octets : List ℕ) (s : Standing) (t u : State) (k : Keeps settings input s t) (stream : is_datagrams settings.transport ≡ false) where
  given_by : (o : Option Connection) → connection_of c s ≡ o → gives settings input s (event.Bytes c octets) ≡ brought input octets s o
  given_by o at = ap (λ b. cond b (stray s) (brought input octets s (connection_of c s))) stream ∙ ap (brought input octets s) at

  pub bytes_stray : connection_of c s ≡ None → gives settings input s (event.Bytes c octets) ≡ stray s
  bytes_stray none = given_by None none

  -- of a connection without a session
  pub bytes_dead : (l : Link) → AreApart t.links → find (link_is c) t.links ≡ Some l → l.session ≡ None → u.links ≡ map (changed_row c l) t.links → meant u.hand.items ≡ meant t.hand.items
      → u.input ≡ t.input → u.transport ≡ t.transport → u.seconds ≡ t.seconds → u.sessions ≡ t.sessions → u.tally ≡ t.tally → Taken settings input (gives settings input s (event.Bytes c octets)) t u
  bytes_dead l apart found none links hand inp tr se sessions tally =
      let p = present c s t.links l k.links found in
      let x = p.0 in
      let number = eqb-true x.number c (found_passes (λ (y : Connection). y.number == c) s.connections x p.1) in
      let session = ap (λ (y : Link). y.session) p.2 ∙ none in
      let g : gives settings input s (event.Bytes c octets) ≡ nothing s = given_by (Some x) p.1 ∙ ap (brought_in input octets s x) session in
      subst (λ (g : Given). Taken settings input g t u) (sym g) (record {
        keeps = record {
          input_is = k.input_is ∙ sym inp;
          transport = k.transport ∙ sym tr;
          sessions = sessions ∙ k.sessions;
          links = links ∙ ((λ j. map (changed_row c (sym p.2 j)) (k.links j)) ∙ (changed_links c x s.connections number ∙ ap (map link_of) (same_stays c x s.connections (subst AreApart k.links apart) p.1 number)));
          seconds = se ∙ k.seconds;
        };
        hand = hand ∙ sym (append-nil (meant t.hand.items));
        counts = subst (λ (n : Tally). Counted [] t.tally n) (sym tally) (counted_none t.tally);
      })

  module _ (l m : Link) (h : List Came) (bad : Bool) (apart : AreApart t.links) (found : find (link_is c) t.links ≡ Some l) (w : LinkGrows t.input octets l m t.hand.items h bad) where
    abbrev x : Connection
    x = (present c s t.links l k.links found).0

    there : connection_of c s ≡ Some x
    there = (present c s t.links l k.links found).1

    row : link_of x ≡ l
    row = (present c s t.links l k.links found).2

    number : x.number ≡ c
    number = eqb-true x.number c (found_passes (λ (y : Connection). y.number == c) s.connections x there)

    session : x.session ≡ Some w.number
    session = ap (λ (y : Link). y.session) row ∙ w.session

    rest : l.rest ≡ (cutting x.octets).rest
    rest = sym (ap (λ (y : Link). y.rest) row) ∙ ap (λ o. rest_by o x.octets) session

    abbrev cut : Cut
    cut = cutting ((cutting x.octets).rest ++ octets)

    abbrev key : SessionKey
    key = key_of input w.number

    given : gives settings input s (event.Bytes c octets) ≡ grown input w.number octets s x bad cut
    given = given_by (Some x) there ∙ (ap (brought_in input octets s x) session ∙ grows input w.number octets s x bad (ap (λ r. is_bad (cutting (r ++ octets)).rest) (sym rest) ∙ w.ends))

    wait : meant h ≡ meant t.hand.items ++ map (Raw key) cut.messages
    wait = w.wait ∙ (ap (λ n. meant t.hand.items ++ map (Raw (key_of n w.number)) (cutting (l.rest ++ octets)).messages) (sym k.input_is) ∙ ap (λ r. meant t.hand.items ++ map (Raw key) (cutting (r ++ octets)).messages) rest)

  -- of one whose stream goes on
  pub bytes_alive : (l m : Link) → AreApart t.links → find (link_is c) t.links ≡ Some l → LinkGrows t.input octets l m t.hand.items u.hand.items false → u.links ≡ map (changed_row c m) t.links
      → u.input ≡ t.input → u.transport ≡ t.transport → u.seconds ≡ t.seconds → u.sessions ≡ t.sessions → u.tally ≡ t.tally → Taken settings input (gives settings input s (event.Bytes c octets)) t u
  bytes_alive l m apart found w links inp tr se sessions tally =
      let h = u.hand.items in
      let y = x l m h false apart found w in
      let z : Connection = record { number = y.number; session = Some w.number; octets = y.octets ++ octets } in
      let c_is = number l m h false apart found w in
      let is_row = row l m h false apart found w in
      let now : m ≡ link_of z = w.is ∙ (λ j. record {
        conn = sym (ap (λ (q : Link). q.conn) is_row) j;
        session = w.session j;
        rest = (ap (λ r. (cutting (r ++ octets)).rest) (rest l m h false apart found w) ∙ sym (ap (λ (q : Cut). q.rest) (cut_behind y.octets octets))) j;
      }) in
      let ms = (cut l m h false apart found w).messages in
      subst (λ (g : Given). Taken settings input g t u) (sym (given l m h false apart found w)) (record {
        keeps = record {
          input_is = k.input_is ∙ sym inp;
          transport = k.transport ∙ sym tr;
          sessions = sessions ∙ (k.sessions ∙ (λ j. record (sessions_of settings input s) { conns = sym (conns_stay c y z s.connections (subst AreApart k.links apart) (there l m h false apart found w) c_is (sym (session l m h false apart found w))) j }));
          links = links ∙ ((λ j. map (changed_row c (now j)) (k.links j)) ∙ changed_links c z s.connections c_is);
          seconds = se ∙ k.seconds;
        };
        hand = wait l m h false apart found w ∙ ap (λ l. meant t.hand.items ++ l) (sym (ap arrivals_in (append-nil (raws (key_of input w.number) ms)) ∙ raws_arrive (key_of input w.number) ms));
        counts = subst (λ (n : Tally). Counted (raws (key_of input w.number) ms ++ []) t.tally n) (sym tally)
            (counted_then (raws (key_of input w.number) ms) [] t.tally t.tally t.tally (raws_counted (key_of input w.number) ms t.tally) (counted_none t.tally));
      })

  -- of one whose stream breaks
  pub bytes_broken : (l m : Link) (h : List Came) (out : SessionKey) → AreApart t.links → find (link_is c) t.links ≡ Some l → LinkGrows t.input octets l m t.hand.items h true → u.links ≡ map (changed_row c m) t.links
      → u.input ≡ t.input → u.transport ≡ t.transport → u.seconds ≡ t.seconds → Disconnects c t.sessions u.sessions (Some out) → u.hand.items ≡ h ++ came.SessionClose out ∷ [] → u.tally ≡ record t.tally { broken = adds t.tally.broken 1 }
      → Taken settings input (gives settings input s (event.Bytes c octets)) t u
  bytes_broken l m h out apart found w links inp tr se gone hand tally =
      let y = x l m h true apart found w in
      let c_is = number l m h true apart found w in
      let is_row = row l m h true apart found w in
      let now : m ≡ link_of (dead y.number) = w.is ∙ (λ j. record { conn = sym (ap (λ (q : Link). q.conn) is_row) j; session = None; rest = [] }) in
      let d = subst (λ (o : Table). Disconnects c o u.sessions (Some out)) k.sessions gone in
      let own = conn_found c s.connections y (subst AreApart k.links apart) (there l m h true apart found w) ∙ ap (conn_by y.number) (session l m h true apart found w) in
      let same : record { conn = y.number; session = w.number } ≡ d.found.1.0 = let e = sym own ∙ d.found.1.1 in cc in
      let key : out ≡ key_of input w.number = d.found.2 ∙ (ap (key_of input) d.found.1.2 ∙ ap (λ (q : Conn). key_of input q.session) (sym same)) in
      let ms = (cut l m h true apart found w).messages in
      let r = raws (key_of input w.number) ms in
      let last = Broken ∷ Arrives (SessionClose (key_of input w.number)) ∷ [] in
      subst (λ (g : Given). Taken settings input g t u) (sym (given l m h true apart found w)) (record {
        keeps = record {
          input_is = k.input_is ∙ sym inp;
          transport = k.transport ∙ sym tr;
          sessions = gone.gone ∙ (ap (λ (o : Table). record o { conns = filter (λ (q : Conn). not (conn_is c q)) o.conns }) k.sessions
              ∙ (λ j. record (sessions_of settings input s) { conns = conns_go c y.number s.connections c_is j }));
          links = links ∙ ((λ j. map (changed_row c (now j)) (k.links j)) ∙ changed_links c (dead y.number) s.connections c_is);
          seconds = se ∙ k.seconds;
        };
        hand = ap meant hand ∙ (map-append meant_by h (came.SessionClose out ∷ []) ∙ (ap (λ n. meant h ++ SessionClose n ∷ []) key
            ∙ (ap (λ l. l ++ SessionClose (key_of input w.number) ∷ []) (wait l m h true apart found w)
            ∙ (append_assoc (meant t.hand.items) (map (Raw (key_of input w.number)) ms) (SessionClose (key_of input w.number) ∷ [])
            ∙ ap (λ l. meant t.hand.items ++ l) (sym (flat_map-append arrival_in r last ∙ ap (λ l. l ++ SessionClose (key_of input w.number) ∷ []) (raws_arrive (key_of input w.number) ms)))))));
        counts = subst (λ (n : Tally). Counted (r ++ last) t.tally n) (sym tally)
            (counted_then r last t.tally t.tally (record t.tally { broken = adds t.tally.broken 1 }) (raws_counted (key_of input w.number) ms t.tally)
            (record { sessions = none_more t.tally.sessions; torn = none_more t.tally.torn; broken = refl; refused = none_more t.tally.refused; stray = none_more t.tally.stray }));
      })

  -- one that breaks has a session
  pub broken_has : (l m : Link) (h : List Came) → AreApart t.links → find (link_is c) t.links ≡ Some l → LinkGrows t.input octets l m t.hand.items h true → find (conn_is c) t.sessions.conns ≡ None → ⊥
  broken_has l m h apart found w none =
      let y = x l m h true apart found w in
      let own = conn_found c s.connections y (subst AreApart k.links apart) (there l m h true apart found w) ∙ ap (conn_by y.number) (session l m h true apart found w) in
      let no = ap (λ (o : Table). find (conn_is c) o.conns) (sym k.sessions) ∙ none in
      let e = sym own ∙ no in
      absurd cc
