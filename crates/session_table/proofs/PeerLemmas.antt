-- Peers by key.
use Rattle.std.proofs.Common.{◌≡◌, ℕ, ◌+◌, ◌<◌, ◌≤◌, zero, suc, Bool, true, false, cond, not, ◌&&◌, ◌==◌, List, [], ◌∷◌, ◌++◌, Some, None, refl, ap, sym, subst, ◌∙◌, map, filter, option_map, position, slice_get, get_or, length, nat_lt, min, unwrap_or, arith}
use Rattle.std.specs.Prelude.{find, nat_le}
use Rattle.std.specs.List.{AllByRecursion, IsDistinct, list_all, prefix_len, remove}
use Rattle.std.specs.Map.{keys_of, values_of, lookup}
use Rattle.std.proofs.lemmas.Bool.{eqb-true, and_parts}
use Rattle.std.proofs.lemmas.Bool.Decides.{nat_tests}
use Rattle.std.proofs.lemmas.List.Quantifiers.{position-Some}
use Rattle.indexmap.specs.IndexMap.{set_value_at}
use Rattle.indexmap.proofs.SetLemmas.{map-remove}
use Rattle.arrival_spec.specs.declared.event.PeerKey.{PeerKey}
use Rattle.arrival_spec.specs.Sessions.{same_peer}
use Rattle.session_table.specs.declared.peers.Heard.{Heard}
use Rattle.session_table.specs.Rows.{PeerRow, peer_row, peer_is, heard_row, is_later, is_idle_row, is_idle_entry, oldest_in, session_of_peer, AreApart, IdleGoes}
use Rattle.session_table.proofs.ConnLemmas.{eq_turns}
use Rattle.session_table.proofs.RowLemmas.{absent}

pub same_turns : (a b : PeerKey) → same_peer a b ≡ same_peer b a
same_turns a b = λ j. eq_turns a.high b.high j && (eq_turns a.low b.low j && eq_turns a.port b.port j)

-- a peer is the key's where all three numbers are
pub same_key : (a b : PeerKey) → same_peer a b ≡ true → a ≡ b
same_key a b h =
    let p = and_parts (a.high == b.high) (a.low == b.low && a.port == b.port) h in
    let q = and_parts (a.low == b.low) (a.port == b.port) p.1 in
    λ j. record { high = eqb-true a.high b.high p.0 j; low = eqb-true a.low b.low q.0 j; port = eqb-true a.port b.port q.1 j }

prefix_seen : (key : PeerKey) (es : List (PeerKey × Heard)) → prefix_len (λ k. not (same_peer key k)) (keys_of es) ≡ prefix_len (λ x. not (peer_is key x)) (map peer_row es)
prefix_seen key [] = refl
prefix_seen key (e ∷ es) = λ j. cond (not (same_turns key e.0 j)) (1 + prefix_seen key es j) 0

length_seen : (es : List (PeerKey × Heard)) → length (keys_of es) ≡ length (map peer_row es)
length_seen [] = refl
length_seen (e ∷ es) = ap suc (length_seen es)

-- the place of a key is that of its row
pub place_seen : (key : PeerKey) (es : List (PeerKey × Heard)) → position (same_peer key) (keys_of es) ≡ position (peer_is key) (map peer_row es)
place_seen key es = λ j. cond (nat_lt (prefix_seen key es j) (length_seen es j)) (Some (prefix_seen key es j)) None

apart_from : (k : PeerKey) (es : List (PeerKey × Heard)) → AllByRecursion (λ y. same_peer k y ≡ false) (keys_of es) → AllByRecursion (λ y. peer_is k y ≡ false) (map peer_row es)
apart_from k [] all = tt
apart_from k (e ∷ es) all = (same_turns e.0 k ∙ all.0, apart_from k es all.1)

-- different keys are different peers
pub rows_apart : (es : List (PeerKey × Heard)) → IsDistinct same_peer (keys_of es) → AreApart (map peer_row es)
unfolding IsDistinct
rows_apart [] all = tt
rows_apart (e ∷ es) all = (apart_from e.0 es all.0, rows_apart es all.1)

-- rows of other peers aren't heard
none_heard : (key : PeerKey) (now : ℕ) (rows : List PeerRow) → AllByRecursion (λ y. peer_is key y ≡ false) rows → map (heard_row key now) rows ≡ rows
none_heard key now [] all = refl
none_heard key now (x ∷ rows) all = λ j. cond (all.0 j) (record x { last = now }) x ∷ none_heard key now rows all.1 j

some_same : (a b : ℕ) → Some a ≡ Some b → a ≡ b
some_same a b h = ap (λ o. unwrap_or o a) h

-- the row at the place of the key is the one that is heard
pub one_heard : (key : PeerKey) (now session : ℕ) (es : List (PeerKey × Heard)) (i : ℕ) (d : PeerRow) → AreApart (map peer_row es) → i < length (map peer_row es)
    → peer_is key (get_or (map peer_row es) i d) ≡ true → ((k : ℕ) → k < i → peer_is key (get_or (map peer_row es) k d) ≡ false)
    → option_map session_of_peer (slice_get (map peer_row es) i) ≡ Some session
    → map peer_row (set_value_at es i (record { session = session; last = now })) ≡ map (heard_row key now) (map peer_row es)
one_heard key now session [] i d apart within is none at = absurd (omega arith)
one_heard key now session (e ∷ es) zero d apart within is none at =
    let all = subst (λ k. AllByRecursion (λ y. peer_is k y ≡ false) (map peer_row es)) (same_key e.0 key is) apart.0 in
    sym (λ j. record { key = e.0; session = some_same e.1.session session at j; last = now } ∷ map peer_row es)
    ∙ sym (λ j. cond (is j) (record (peer_row e) { last = now }) (peer_row e) ∷ none_heard key now (map peer_row es) all j)
one_heard key now session (e ∷ es) (suc i) d apart within is none at =
    ap (λ l. peer_row e ∷ l) (one_heard key now session es i d apart.1 (omega arith) is (λ k h. none (suc k) (omega arith)) at)
    ∙ sym (λ j. cond (none 0 (omega arith) j) (record (peer_row e) { last = now }) (peer_row e) ∷ map (heard_row key now) (map peer_row es))

-- the first row that passes is the one at the place
pub found_at : {X : Type 0} (p : X → Bool) (xs : List X) (i : ℕ) (d : X) → i < length xs → p (get_or xs i d) ≡ true → ((k : ℕ) → k < i → p (get_or xs k d) ≡ false) → find p xs ≡ slice_get xs i
found_at p [] i d within is none = absurd (omega arith)
found_at p (x ∷ xs) zero d within is none = ap (λ b. cond b (Some x) (find p xs)) is
found_at p (x ∷ xs) (suc i) d within is none = ap (λ b. cond b (Some x) (find p xs)) (none 0 (omega arith)) ∙ found_at p xs i d (omega arith) is (λ k h. none (suc k) (omega arith))

past_end : (k n : ℕ) → cond (nat_lt k n) (Some k) None ≡ None → n ≤ k
past_end k n e = by_test (nat_lt k n) refl e
  where
    by_test : (b : Bool) → nat_lt k n ≡ b → cond b (Some k) None ≡ None → n ≤ k
    by_test true is f = absurd cc
    by_test false is f = grind (arith, nat_tests)

nobody : {X : Type 0} (p : X → Bool) (xs : List X) → length xs ≤ prefix_len (λ x. not (p x)) xs → AllByRecursion (λ y. p y ≡ false) xs
nobody p [] h = tt
nobody p (x ∷ xs) h = by (λ (l : length xs ≤ prefix_len (λ y. not (p y)) xs). nobody p xs l) (p x) refl h
  where
    by : (length xs ≤ prefix_len (λ y. not (p y)) xs → AllByRecursion (λ y. p y ≡ false) xs) → (b : Bool) → p x ≡ b → suc (length xs) ≤ cond (not b) (1 + prefix_len (λ y. not (p y)) xs) 0 → AllByRecursion (λ y. p y ≡ false) (x ∷ xs)
    by further true is f = absurd (omega arith)
    by further false is f = (is, further (omega arith))

-- where no place is found, nobody passes
pub none_passes : {X : Type 0} (p : X → Bool) (xs : List X) → position p xs ≡ None → AllByRecursion (λ y. p y ≡ false) xs
none_passes p xs e = nobody p xs (past_end (prefix_len (λ x. not (p x)) xs) (length xs) e)

pub none_found : {X : Type 0} (p : X → Bool) (xs : List X) → AllByRecursion (λ y. p y ≡ false) xs → find p xs ≡ None
none_found p [] all = refl
none_found p (x ∷ xs) all = ap (λ b. cond b (Some x) (find p xs)) all.0 ∙ none_found p xs all.1

pub none_filtered : {X : Type 0} (p : X → Bool) (xs : List X) → AllByRecursion (λ y. p y ≡ false) xs → filter p xs ≡ []
none_filtered p [] all = refl
none_filtered p (x ∷ xs) all = ap (λ b. cond b (x ∷ filter p xs) (filter p xs)) all.0 ∙ none_filtered p xs all.1

-- all that `hear` does to the rows, where the peer is there and where it isn't
pub record Hears (key : PeerKey) (now session : ℕ) (es : List (PeerKey × Heard)) (i : ℕ) : Type 0 where
  pub found : Some session ≡ option_map session_of_peer (find (peer_is key) (map peer_row es))
  pub heard : map peer_row (set_value_at es i (record { session = session; last = now })) ≡ map (heard_row key now) (map peer_row es)

pub hears : (key : PeerKey) (now session : ℕ) (es : List (PeerKey × Heard)) (i : ℕ) → AreApart (map peer_row es) → position (peer_is key) (map peer_row es) ≡ Some i
    → option_map session_of_peer (slice_get (map peer_row es) i) ≡ Some session → Hears key now session es i
hears key now session es i apart place at =
    let d : PeerRow = record { key = key; session = 0; last = 0 } in
    let p = position-Some (peer_is key) (map peer_row es) i d place in
    record {
      found = sym (ap (option_map session_of_peer) (found_at (peer_is key) (map peer_row es) i d p.0 p.1 p.2) ∙ at);
      heard = one_heard key now session es i d apart p.0 p.1 p.2 at;
    }

pub unheard : (key : PeerKey) (now : ℕ) (rows : List PeerRow) → position (peer_is key) rows ≡ None → map (heard_row key now) rows ≡ rows
unheard key now rows place = none_heard key now rows (none_passes (peer_is key) rows place)

pub unknown : (key : PeerKey) (rows : List PeerRow) → position (peer_is key) rows ≡ None → option_map session_of_peer (find (peer_is key) rows) ≡ None
unknown key rows place = ap (option_map session_of_peer) (none_found (peer_is key) rows (none_passes (peer_is key) rows place))

-- what a place of the rows tells of the entry
pub session_seen : (es : List (PeerKey × Heard)) (i : ℕ) (x : Heard) → slice_get (values_of es) i ≡ Some x → option_map session_of_peer (slice_get (map peer_row es) i) ≡ Some x.session
session_seen [] i x at = absurd cc
session_seen (e ∷ es) zero x at = ap (option_map (λ (h : Heard). h.session)) at
session_seen (e ∷ es) (suc i) x at = session_seen es i x at

pub no_entry : (key : PeerKey) (es : List (PeerKey × Heard)) → find (peer_is key) (map peer_row es) ≡ None → lookup (same_peer key) es ≡ None
no_entry key es none = absent peer_row same_peer key (peer_is key) (λ e. same_turns e.0 key) es none

pub peer_joins : (es : List (PeerKey × Heard)) (key : PeerKey) (session now : ℕ)
    → map peer_row (es ++ (key, record { session = session; last = now }) ∷ []) ≡ map peer_row es ++ record { key = key; session = session; last = now } ∷ []
peer_joins [] key session now = refl
peer_joins (e ∷ es) key session now = ap (λ l. peer_row e ∷ l) (peer_joins es key session now)

-- times

sooner : (o now last : ℕ) → nat_le o last ≡ true → nat_le (min o now) last ≡ true
sooner o now last h = grind (arith, nat_tests)

not_after : (o now : ℕ) → nat_le (min o now) now ≡ true
not_after o now = grind (arith, nat_tests)

heard_later : (key : PeerKey) (o now : ℕ) (x : PeerRow) → is_later o x ≡ true → is_later (min o now) (heard_row key now x) ≡ true
heard_later key o now x h = by (same_peer x.key key)
  where
    by : (b : Bool) → is_later (min o now) (cond b (record x { last = now }) x) ≡ true
    by true = not_after o now
    by false = sooner o now x.last h

pub all_heard_later : (key : PeerKey) (o now : ℕ) (rows : List PeerRow) → list_all (is_later o) rows ≡ true → list_all (is_later (min o now)) (map (heard_row key now) rows) ≡ true
all_heard_later key o now [] h = refl
all_heard_later key o now (x ∷ rows) h =
    let p = and_parts (is_later o x) (list_all (is_later o) rows) h in
    λ j. both (heard_later key o now x p.0) (all_heard_later key o now rows p.1) j
  where
    both : {a b : Bool} → a ≡ true → b ≡ true → (a && b) ≡ true
    both h g = λ j. h j && g j

pub one_more_later : (o now : ℕ) (x : PeerRow) → x.last ≡ now → (rows : List PeerRow) → list_all (is_later o) rows ≡ true → list_all (is_later (min o now)) (rows ++ x ∷ []) ≡ true
one_more_later o now x at [] h = λ j. (ap (nat_le (min o now)) at ∙ not_after o now) j && true
one_more_later o now x at (y ∷ rows) h =
    let p = and_parts (is_later o y) (list_all (is_later o) rows) h in
    λ j. sooner o now y.last p.0 j && one_more_later o now x at rows p.1 j

-- who is heard later than the oldest plus the idle time is not idle
pub none_idle : (o idle now : ℕ) → now < o + idle → (rows : List PeerRow) → list_all (is_later o) rows ≡ true → filter (is_idle_row idle now) rows ≡ []
none_idle o idle now h [] all = refl
none_idle o idle now h (x ∷ rows) all =
    let p = and_parts (is_later o x) (list_all (is_later o) rows) all in
    ap (λ b. cond b (x ∷ filter (is_idle_row idle now) rows) (filter (is_idle_row idle now) rows)) (fresh p.0) ∙ none_idle o idle now h rows p.1
  where
    fresh : is_later o x ≡ true → is_idle_row idle now x ≡ false
    fresh later = grind (arith, nat_tests)

pub rest_later : (o : ℕ) (rows : List PeerRow) (i : ℕ) → list_all (is_later o) rows ≡ true → list_all (is_later o) (remove rows i) ≡ true
rest_later o [] zero h = refl
rest_later o [] (suc i) h = refl
rest_later o (x ∷ rows) zero h = (and_parts (is_later o x) (list_all (is_later o) rows) h).1
rest_later o (x ∷ rows) (suc i) h =
    let p = and_parts (is_later o x) (list_all (is_later o) rows) h in
    λ j. p.0 j && rest_later o rows i p.1 j

oldest_below : (o : ℕ) (heard : List Heard) → oldest_in o heard ≤ o
oldest_below o [] = omega arith
oldest_below o (x ∷ heard) = let rest = oldest_below (min o x.last) heard in grind arith

pub all_later : (o : ℕ) (es : List (PeerKey × Heard)) → list_all (is_later (oldest_in o (values_of es))) (map peer_row es) ≡ true
all_later o [] = refl
all_later o (e ∷ es) = λ j. first (oldest_below (min o e.1.last) (values_of es)) j && all_later (min o e.1.last) es j
  where
    first : oldest_in (min o e.1.last) (values_of es) ≤ min o e.1.last → nat_le (oldest_in (min o e.1.last) (values_of es)) e.1.last ≡ true
    first below = grind (arith, nat_tests)

idle_prefix : (idle now : ℕ) (es : List (PeerKey × Heard)) → prefix_len (λ x. not (is_idle_entry idle now x)) (values_of es) ≡ prefix_len (λ x. not (is_idle_row idle now x)) (map peer_row es)
idle_prefix idle now [] = refl
idle_prefix idle now (e ∷ es) = λ j. cond (not (is_idle_row idle now (peer_row e))) (1 + idle_prefix idle now es j) 0

values_length : (es : List (PeerKey × Heard)) → length (values_of es) ≡ length (map peer_row es)
values_length [] = refl
values_length (e ∷ es) = ap suc (values_length es)

-- the place of the first idle entry is that of its row
pub idle_seen : (idle now : ℕ) (es : List (PeerKey × Heard)) → position (is_idle_entry idle now) (values_of es) ≡ position (is_idle_row idle now) (map peer_row es)
idle_seen idle now es = λ j. cond (nat_lt (idle_prefix idle now es j) (values_length es j)) (Some (idle_prefix idle now es j)) None

abbrev goes : {X : Type 0} (p : X → Bool) → List X → X → List X → Type 0
goes p xs x ys = (filter p xs ≡ x ∷ filter p ys) × (filter (λ y. not (p y)) ys ≡ filter (λ y. not (p y)) xs)

-- the first that passes goes
first_goes : {X : Type 0} (p : X → Bool) (i : ℕ) (xs : List X) (d : X) → i < length xs → p (get_or xs i d) ≡ true → ((k : ℕ) → k < i → p (get_or xs k d) ≡ false) → goes p xs (get_or xs i d) (remove xs i)
first_goes p i [] d within is none = absurd (omega arith)
first_goes p zero (x ∷ xs) d within is none = (
  ap (λ b. cond b (x ∷ filter p xs) (filter p xs)) is,
  sym (ap (λ b. cond (not b) (x ∷ filter (λ y. not (p y)) xs) (filter (λ y. not (p y)) xs)) is),
)
first_goes p (suc i) (x ∷ xs) d within is none =
    let rest = first_goes p i xs d (omega arith) is (λ k h. none (suc k) (omega arith)) in
    let no = none 0 (omega arith) in (
      ap (λ b. cond b (x ∷ filter p xs) (filter p xs)) no ∙ (rest.0 ∙ ap (λ l. get_or xs i d ∷ l) (sym (ap (λ b. cond b (x ∷ filter p (remove xs i)) (filter p (remove xs i))) no))),
      ap (λ b. cond (not b) (x ∷ filter (λ y. not (p y)) (remove xs i)) (filter (λ y. not (p y)) (remove xs i))) no ∙ (ap (λ l. x ∷ l) rest.1 ∙ sym (ap (λ b. cond (not b) (x ∷ filter (λ y. not (p y)) xs) (filter (λ y. not (p y)) xs)) no)),
    )

pub idle_goes : (idle now : ℕ) (es : List (PeerKey × Heard)) (i : ℕ) (key : PeerKey) (x : Heard) → position (is_idle_row idle now) (map peer_row es) ≡ Some i
    → slice_get es i ≡ Some (key, x) → IdleGoes idle now (map peer_row es) (map peer_row (remove es i)) x.session
idle_goes idle now es i key x place at =
    let p = position-Some (is_idle_row idle now) (map peer_row es) i (peer_row (key, x)) place in
    let g = first_goes (is_idle_row idle now) i (map peer_row es) (peer_row (key, x)) p.0 p.1 p.2 in
    let m = map-remove peer_row es i in (
      (peer_row (key, x), refl, g.0 ∙ (λ j. row_at es i (key, x) at j ∷ filter (is_idle_row idle now) (sym m j))),
      ap (filter (λ y. not (is_idle_row idle now y))) m ∙ g.1,
    )
  where
    row_at : (es : List (PeerKey × Heard)) (i : ℕ) (e : PeerKey × Heard) → slice_get es i ≡ Some e → get_or (map peer_row es) i (peer_row e) ≡ peer_row e
    row_at [] i e at = refl
    row_at (y ∷ es) zero e at = ap (λ o. peer_row (unwrap_or o e)) at
    row_at (y ∷ es) (suc i) e at = row_at es i e at
