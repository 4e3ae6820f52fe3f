-- What the events say stands: the last opening of a connection, and the last datagram of a peer, are one place.
use Rattle.std.proofs.Common.{◌≡◌, inl, inr, ℕ, ◌+◌, Bool, true, false, not, List, [], ◌∷◌, ◌++◌, Some, None, refl, ap, sym, subst, ◌∙◌}
use Rattle.std.specs.Prelude.{Option, ◌⊎◌, ◌==◌, fold, MatchOption}
use Rattle.std.specs.List.{list_any}
use Rattle.std.proofs.lemmas.Bool.{both_ways, eq-eqb, or_left, or_parts, or_right}
use Rattle.std.proofs.lemmas.List.Sums.{fold-append}
use Rattle.std.proofs.lemmas.List.Folds.{list_any-append}
use Rattle.arrival_spec.specs.declared.event.PeerKey.{PeerKey}
use Rattle.arrival_spec.specs.declared.event.Scripted.{Scripted}
use Rattle.arrival_spec.specs.declared.event.Scripted.TheVariants as event
use Rattle.arrival_spec.specs.Settings.{Settings}
use Rattle.arrival_spec.specs.Sessions.{Connection, Peer, connection_of, is_datagrams, is_full, peer_of, same_peer}
use Rattle.arrival_spec.specs.Run.{standing_after}
use Rattle.arrival_spec.specs.Past.{clock, closes, connected_by, connection_by, is_connected, is_end_at, is_from, octets_of, IsOpenSince, IsPeerClosed, IsPeerSince}
use Rattle.arrival_spec.proofs.StepLemmas.{none_open, found_since, some_open}
use Rattle.arrival_spec.proofs.PeerLemmas.{peer_closed, peer_own, peer_since}

-- two places in a list: one place, the second behind the first, or the first behind the second
abbrev Meets : {X : Type 0} → List X → X → List X → List X → X → List X → Type 0
Meets {X} b e a c f d = ((b ≡ c) × (e ≡ f) × (a ≡ d)) ⊎ (((mid : List X) × (a ≡ mid ++ f ∷ d) × (c ≡ b ++ e ∷ mid)) ⊎ ((mid : List X) × (d ≡ mid ++ e ∷ a) × (b ≡ c ++ f ∷ mid)))

meets : {X : Type 0} (b c a d : List X) (e f : X) → b ++ e ∷ a ≡ c ++ f ∷ d → Meets b e a c f d
meets [] [] a d e f p = let q : e ≡ f = cc in let r : a ≡ d = cc in inl (refl, q, r)
meets [] (y ∷ c) a d e f p = let q : y ≡ e = cc in let r : a ≡ c ++ f ∷ d = cc in inr (inl (c, r, ap (λ z. z ∷ c) q))
meets (x ∷ b) [] a d e f p = let q : x ≡ f = cc in let r : d ≡ b ++ e ∷ a = cc in inr (inr (b, r, ap (λ z. z ∷ b) q))
meets (x ∷ b) (y ∷ c) a d e f p =
    let q : x ≡ y = cc in
    let r : b ++ e ∷ a ≡ c ++ f ∷ d = cc in
    elim (meets b c a d e f r) [
      | inl s ↦ inl (ap (λ z. z ∷ b) q ∙ ap (λ l. y ∷ l) s.0, s.1, s.2)
      | inr (inl s) ↦ inr (inl (s.0, s.1, ap (λ z. z ∷ c) (sym q) ∙ ap (λ l. x ∷ l) s.2))
      | inr (inr s) ↦ inr (inr (s.0, s.1, ap (λ z. z ∷ b) q ∙ ap (λ l. y ∷ l) s.2))
    ]

-- a connection that opened stays open while nothing closes it
opens_and_stays : (c : ℕ) (before after : List Scripted) → list_any (closes c) after ≡ false → is_connected c (before ++ event.Opened c ∷ after) ≡ true
opens_and_stays c before after none =
    fold-append (connected_by c) false before (event.Opened c ∷ after)
    ∙ (ap (λ b. fold (connected_by c) b after) (or_right (is_connected c before) (c == c) (eq-eqb c c refl)) ∙ goes_on after none)
  where
    one : (e : Scripted) → closes c e ≡ false → connected_by c true e ≡ true
    one (event.Opened k) p = refl
    one (event.Closed k) p = ap not p
    one (event.Bytes k octets) p = refl
    one (event.Datagram key octets) p = refl
    one (event.Tick seconds) p = refl
    one event.NotYet p = refl

    goes_on : (list : List Scripted) → list_any (closes c) list ≡ false → fold (connected_by c) true list ≡ true
    goes_on [] p = refl
    goes_on (e ∷ list) p = let q = or_parts (closes c e) (list_any (closes c) list) p in ap (λ b. fold (connected_by c) b list) (one e q.0) ∙ goes_on list q.1

-- what no event of a list does, none of its front does
front_none : (test : Scripted → Bool) (front rest : List Scripted) → list_any test (front ++ rest) ≡ false → (list_any test front ≡ false) × (list_any test rest ≡ false)
front_none test front rest p = or_parts (list_any test front) (list_any test rest) (sym (list_any-append test front rest) ∙ p)

module _ (settings : Settings) (input c : ℕ) (events : List Scripted) where
  one_opening : (x y : Connection) → IsOpenSince settings input events c x → IsOpenSince settings input events c y → x ≡ y
  one_opening x y p q =
      elim (meets p.before q.before p.after q.after (event.Opened c) (event.Opened c) (sym p.whole ∙ q.whole)) [
        | inl s ↦
            p.is ∙ (ap (λ (b : List Scripted). connection_by c (standing_after settings input b) (octets_of c p.after)) s.0
            ∙ (ap (λ (a : List Scripted). connection_by c (standing_after settings input q.before) (octets_of c a)) s.2 ∙ sym q.is))
        | inr (inl s) ↦ absurd (behind p.before q.before p.after q.after s.0 s.1 s.2 p.unclosed q.new)
        | inr (inr s) ↦ absurd (behind q.before p.before q.after p.after s.0 s.1 s.2 q.unclosed p.new)
      ]
    where
      -- the later opening is stray
      behind : (b d a e mid : List Scripted) → a ≡ mid ++ event.Opened c ∷ e → d ≡ b ++ event.Opened c ∷ mid → list_any (closes c) a ≡ false → is_connected c d ≡ false → ⊥
      behind b d a e mid f g none new =
          let n = front_none (closes c) mid (event.Opened c ∷ e) (ap (list_any (closes c)) (sym f) ∙ none) in
          both_ways (is_connected c d) new (ap (is_connected c) g ∙ opens_and_stays c b mid n.0)

  -- Where the events say so, the connection stands.
  pub connection_back : (x : Connection) → is_datagrams settings.transport ≡ false → IsOpenSince settings input events c x → connection_of c (standing_after settings input events) ≡ Some x
  connection_back x stream p = by_found (connection_of c (standing_after settings input events)) refl
    where
      by_found : (o : Option Connection) → connection_of c (standing_after settings input events) ≡ o → o ≡ Some x
      by_found None e = absurd (both_ways (is_connected c events) (none_open settings input c events stream e) (ap (is_connected c) p.whole ∙ opens_and_stays c p.before p.after p.unclosed))
      by_found (Some y) e = ap Some (one_opening y x (found_since settings input c events y stream e) p)

  pub connected_back : is_datagrams settings.transport ≡ false → is_connected c events ≡ true → (x : Connection) × (connection_of c (standing_after settings input events) ≡ Some x)
  connected_back stream open_now = by_found (connection_of c (standing_after settings input events)) refl
    where
      by_found : (o : Option Connection) → connection_of c (standing_after settings input events) ≡ o → (x : Connection) × (o ≡ Some x)
      by_found None e = absurd (both_ways (is_connected c events) (none_open settings input c events stream e) open_now)
      by_found (Some y) e = (y, refl)

  pub unconnected_back : is_datagrams settings.transport ≡ false → is_connected c events ≡ false → connection_of c (standing_after settings input events) ≡ None
  unconnected_back stream not_open = by_found (connection_of c (standing_after settings input events)) refl
    where
      by_found : (o : Option Connection) → connection_of c (standing_after settings input events) ≡ o → o ≡ None
      by_found None e = refl
      by_found (Some y) e = absurd (both_ways (is_connected c events) not_open (some_open settings input c events y stream e))

module _ (settings : Settings) (input : ℕ) (key : PeerKey) (events : List Scripted) where
  -- no datagram of the peer stands behind its last one
  behind_last : (a mid e : List Scripted) (octets : List ℕ) → a ≡ mid ++ event.Datagram key octets ∷ e → list_any (is_from key) a ≡ false → ⊥
  behind_last a mid e octets f none =
      let n = front_none (is_from key) mid (event.Datagram key octets ∷ e) (ap (list_any (is_from key)) (sym f) ∙ none) in
      both_ways (list_any (is_from key) (event.Datagram key octets ∷ e)) n.1 (or_left (same_peer key key) (list_any (is_from key) e) (peer_own key))

  abbrev Before : List Scripted → Option Peer
  Before before = peer_of key (standing_after settings input before)

  abbrev Session : Option Peer → List Scripted → Peer → Type 0
  Session o before x = MatchOption o ((is_full (standing_after settings input before) ≡ false) × (x.session ≡ (standing_after settings input before).opened)) (λ y. x.session ≡ y.session)

  same_session : (o : Option Peer) (before : List Scripted) (x y : Peer) → Session o before x → Session o before y → x.session ≡ y.session
  same_session None before x y p q = p.1 ∙ sym q.1
  same_session (Some z) before x y p q = p ∙ sym q

  one_peer : (x y : Peer) → IsPeerSince settings input events key x → IsPeerSince settings input events key y → x ≡ y
  one_peer x y p q =
      elim (meets p.before q.before p.after q.after (event.Datagram key p.octets) (event.Datagram key q.octets) (sym p.whole ∙ q.whole)) [
        | inl s ↦
            (let session = same_session (Before q.before) q.before x y (subst (λ (b : List Scripted). Session (Before b) b x) s.0 p.session) q.session in
            let last = p.last ∙ (ap clock s.0 ∙ sym q.last) in
            ap (λ (k : PeerKey). record x { key = k }) (p.own ∙ sym q.own) ∙ (ap (λ n. record { key = y.key; session = n; last = x.last }) session ∙ ap (λ n. record y { last = n }) last))
        | inr (inl s) ↦ absurd (behind_last p.after s.0 q.after q.octets s.1 p.silent)
        | inr (inr s) ↦ absurd (behind_last q.after s.0 p.after p.octets s.1 q.silent)
      ]

  no_session : (o : Option Peer) (before : List Scripted) (x : Peer) → o ≡ None → is_full (standing_after settings input before) ≡ true → Session o before x → ⊥
  no_session None before x e full p = both_ways (is_full (standing_after settings input before)) p.0 full
  no_session (Some y) before x e full p = absurd cc

  not_both : (x : Peer) → IsPeerSince settings input events key x → IsPeerClosed settings input events key → ⊥
  not_both x p (inl none) = behind_last events p.before p.after p.octets p.whole none
  not_both x p (inr g) =
      elim (meets p.before g.before p.after g.after (event.Datagram key p.octets) (event.Datagram key g.octets) (sym p.whole ∙ g.whole)) [
        | inl s ↦
            (let session = subst (λ (b : List Scripted). Session (Before b) b x) s.0 p.session in
            let lasting = ap (λ (b : List Scripted). list_any (is_end_at (clock b + settings.idle)) g.after) (sym s.0) ∙ (ap (list_any (is_end_at (clock p.before + settings.idle))) (sym s.2) ∙ p.lasting) in
            elim g.gone [
              | inl r ↦ no_session (Before g.before) g.before x r.0 r.1 session
              | inr t ↦ both_ways (list_any (is_end_at (clock g.before + settings.idle)) g.after) lasting t
            ])
        | inr (inl s) ↦ behind_last p.after s.0 g.after g.octets s.1 p.silent
        | inr (inr s) ↦ behind_last g.after s.0 p.after p.octets s.1 g.silent
      ]

  -- Where the events say so, the peer stands, and doesn't.
  pub peer_back : (x : Peer) → is_datagrams settings.transport ≡ true → IsPeerSince settings input events key x → peer_of key (standing_after settings input events) ≡ Some x
  peer_back x datagrams p = by_found (peer_of key (standing_after settings input events)) refl
    where
      by_found : (o : Option Peer) → peer_of key (standing_after settings input events) ≡ o → o ≡ Some x
      by_found None e = absurd (not_both x p (peer_closed settings input key events datagrams e))
      by_found (Some y) e = ap Some (one_peer y x (peer_since settings input key events y datagrams e) p)

  pub closed_back : is_datagrams settings.transport ≡ true → IsPeerClosed settings input events key → peer_of key (standing_after settings input events) ≡ None
  closed_back datagrams p = by_found (peer_of key (standing_after settings input events)) refl
    where
      by_found : (o : Option Peer) → peer_of key (standing_after settings input events) ≡ o → o ≡ None
      by_found None e = refl
      by_found (Some y) e = absurd (not_both y (peer_since settings input key events y datagrams e) p)
