-- The sessions of a list of connections, as one of them changes or closes.
use Rattle.std.proofs.Common.{◌≡◌, ℕ, ◌+◌, ◌≤◌, Bool, true, false, cond, not, List, [], ◌∷◌, ◌++◌, Some, None, refl, ap, sym, ◌∙◌, arith, map}
use Rattle.std.specs.Prelude.{Option, MatchBool, ◌==◌, find, filter, filter_map}
use Rattle.std.specs.List.{cons_option}
use Rattle.std.proofs.lemmas.Bool.{eqb-true}
use Rattle.std.proofs.lemmas.List.Elements.{filter_map-append}
use Rattle.arrival_spec.specs.Sessions.{Connection}
use Rattle.arrival_spec.proofs.AtMostLemmas.{AtMost, passes_none}
use Rattle.arrival_spec.proofs.RiseLemmas.{Rises}

abbrev pub sessions_of : List Connection → List ℕ
sessions_of xs = filter_map (λ (x : Connection). x.session) xs

pub sessions_added : (xs : List Connection) (x : Connection) → sessions_of (xs ++ x ∷ []) ≡ sessions_of xs ++ cons_option x.session []
sessions_added xs x = filter_map-append (λ (x : Connection). x.session) xs (x ∷ [])

module _ (y : Connection) where
  abbrev pub Same : Connection → Bool
  Same z = z.number == y.number

  abbrev pub changed : Connection → Connection
  changed z = cond (z.number == y.number) y z

  -- a change keeps each number
  pub keeps_numbers : (c : ℕ) (z : Connection) → ((changed z).number == c) ≡ (z.number == c)
  keeps_numbers c z = by_test (z.number == y.number) refl
    where
      by_test : (b : Bool) → (z.number == y.number) ≡ b → ((cond b y z).number == c) ≡ (z.number == c)
      by_test true is = ap (λ n. n == c) (sym (eqb-true z.number y.number is))
      by_test false is = refl

  none_changes : (xs : List Connection) → find Same xs ≡ None → map changed xs ≡ xs
  none_changes [] e = refl
  none_changes (z ∷ xs) e =
      let n = passes_none Same z xs e in
      ap (λ b. cond b y z ∷ map changed xs) n.0 ∙ ap (λ l. z ∷ l) (none_changes xs n.1)

  pub none_leaves : (xs : List Connection) → find Same xs ≡ None → filter (λ z. not (Same z)) xs ≡ xs
  none_leaves [] e = refl
  none_leaves (z ∷ xs) e =
      let n = passes_none Same z xs e in
      ap (λ b. cond (not b) (z ∷ filter (λ z. not (Same z)) xs) (filter (λ z. not (Same z)) xs)) n.0 ∙ ap (λ l. z ∷ l) (none_leaves xs n.1)

  -- a connection that loses its session counts as one that closed
  pub without_session : y.session ≡ None → (xs : List Connection) → sessions_of (map changed xs) ≡ sessions_of (filter (λ z. not (Same z)) xs)
  without_session none [] = refl
  without_session none (z ∷ xs) = by_test (z.number == y.number) (without_session none xs)
    where
      by_test : (b : Bool) → sessions_of (map changed xs) ≡ sessions_of (filter (λ z. not (Same z)) xs)
          → cons_option (cond b y z).session (sessions_of (map changed xs)) ≡ sessions_of (cond (not b) (z ∷ filter (λ z. not (Same z)) xs) (filter (λ z. not (Same z)) xs))
      by_test true further = ap (λ (o : Option ℕ). cons_option o (sessions_of (map changed xs))) none ∙ further
      by_test false further = ap (cons_option z.session) further

  -- a connection that keeps its session keeps all sessions
  pub with_session : (x : Connection) (xs : List Connection) → AtMost Same xs → find Same xs ≡ Some x → y.session ≡ x.session → sessions_of (map changed xs) ≡ sessions_of xs
  with_session x [] m e same = refl
  with_session x (z ∷ xs) m e same = by_test (z.number == y.number) (λ (n : AtMost Same xs) (f : find Same xs ≡ Some x). with_session x xs n f same) m e
    where
      by_test : (b : Bool) → (AtMost Same xs → find Same xs ≡ Some x → sessions_of (map changed xs) ≡ sessions_of xs) → MatchBool b (find Same xs ≡ None) (AtMost Same xs) → cond b (Some z) (find Same xs) ≡ Some x
          → cons_option (cond b y z).session (sessions_of (map changed xs)) ≡ cons_option z.session (sessions_of xs)
      by_test true further n f =
          let own : z ≡ x = cc in
          ap (λ l. cons_option y.session (sessions_of l)) (none_changes xs n) ∙ ap (λ (o : Option ℕ). cons_option o (sessions_of xs)) (same ∙ ap (λ (w : Connection). w.session) (sym own))
      by_test false further n f = ap (cons_option z.session) (further n f)

  -- where the session of a connection stands among all, and what is left of them without it
  pub record Stands (k : ℕ) (xs : List Connection) : Type 0 where
    pub front : List ℕ
    pub rest : List ℕ
    pub whole : sessions_of xs ≡ front ++ k ∷ rest
    pub left : sessions_of (filter (λ z. not (Same z)) xs) ≡ front ++ rest

  behind_one : (k : ℕ) (z : Connection) (xs : List Connection) (o : Option ℕ) → z.session ≡ o → Stands k xs → (Same z ≡ false) → Stands k (z ∷ xs)
  behind_one k z xs None is p other = record {
    front = p.front;
    rest = p.rest;
    whole = ap (λ (o : Option ℕ). cons_option o (sessions_of xs)) is ∙ p.whole;
    left = ap (λ b. sessions_of (cond (not b) (z ∷ filter (λ z. not (Same z)) xs) (filter (λ z. not (Same z)) xs))) other
        ∙ (ap (λ (o : Option ℕ). cons_option o (sessions_of (filter (λ z. not (Same z)) xs))) is ∙ p.left);
  }
  behind_one k z xs (Some n) is p other = record {
    front = n ∷ p.front;
    rest = p.rest;
    whole = ap (λ (o : Option ℕ). cons_option o (sessions_of xs)) is ∙ ap (λ l. n ∷ l) p.whole;
    left = ap (λ b. sessions_of (cond (not b) (z ∷ filter (λ z. not (Same z)) xs) (filter (λ z. not (Same z)) xs))) other
        ∙ (ap (λ (o : Option ℕ). cons_option o (sessions_of (filter (λ z. not (Same z)) xs))) is ∙ ap (λ l. n ∷ l) p.left);
  }

  pub stands_among : (k : ℕ) (x : Connection) (xs : List Connection) → AtMost Same xs → find Same xs ≡ Some x → x.session ≡ Some k → Stands k xs
  stands_among k x [] m e is = absurd cc
  stands_among k x (z ∷ xs) m e is = by_test (z.number == y.number) refl (λ (n : AtMost Same xs) (f : find Same xs ≡ Some x). stands_among k x xs n f is) m e
    where
      by_test : (b : Bool) → (z.number == y.number) ≡ b → (AtMost Same xs → find Same xs ≡ Some x → Stands k xs) → MatchBool b (find Same xs ≡ None) (AtMost Same xs) → cond b (Some z) (find Same xs) ≡ Some x → Stands k (z ∷ xs)
      by_test true test further n f =
          let own : z ≡ x = cc in
          record {
            front = [];
            rest = sessions_of xs;
            whole = ap (λ (o : Option ℕ). cons_option o (sessions_of xs)) (ap (λ (w : Connection). w.session) own ∙ is);
            left = ap (λ b. sessions_of (cond (not b) (z ∷ filter (λ z. not (Same z)) xs) (filter (λ z. not (Same z)) xs))) test ∙ ap sessions_of (none_leaves xs n);
          }
      by_test false test further n f = behind_one k z xs z.session refl (further n f) test

-- two connections of one session are one
connection_reaches : (q : Connection → Bool) (low high : ℕ) (xs : List Connection) (rest : List ℕ) (y : Connection) (n : ℕ) → Rises low (sessions_of xs ++ rest) high → find q xs ≡ Some y → y.session ≡ Some n → low ≤ n
connection_reaches q low high [] rest y n r e f = absurd cc
connection_reaches q low high (x ∷ xs) rest y n r e f =
    by_session (q x) x.session refl (λ (least : ℕ) (p : Rises least (sessions_of xs ++ rest) high) (g : find q xs ≡ Some y). connection_reaches q least high xs rest y n p g f) e r
  where
    by_session : (b : Bool) (o : Option ℕ) → x.session ≡ o → ((least : ℕ) → Rises least (sessions_of xs ++ rest) high → find q xs ≡ Some y → least ≤ n) → cond b (Some x) (find q xs) ≡ Some y
        → Rises low (cons_option o (sessions_of xs) ++ rest) high → low ≤ n
    by_session true None is further g p = absurd (let own : x ≡ y = cc in let no : None ≡ Some n = sym is ∙ (ap (λ (z : Connection). z.session) own ∙ f) in cc)
    by_session true (Some m) is further g p =
        let own : x ≡ y = cc in
        let some : Some m ≡ Some n = sym is ∙ (ap (λ (z : Connection). z.session) own ∙ f) in
        let same : m ≡ n = cc in
        let least = p.0 in
        omega arith
    by_session false None is further g p = further low p g
    by_session false (Some m) is further g p = let least = p.0 in let more = further (m + 1) p.1 g in omega arith

pub one_connection : (a b : Connection → Bool) (low high n : ℕ) (xs : List Connection) (rest : List ℕ) (x y : Connection) → Rises low (sessions_of xs ++ rest) high → find a xs ≡ Some x → find b xs ≡ Some y
    → x.session ≡ Some n → y.session ≡ Some n → x ≡ y
one_connection a b low high n [] rest x y r e f p q = absurd cc
one_connection a b low high n (z ∷ xs) rest x y r e f p q =
    by_tests (a z) (b z) z.session refl (λ (least : ℕ) (s : Rises least (sessions_of xs ++ rest) high) (g : find a xs ≡ Some x) (h : find b xs ≡ Some y). one_connection a b least high n xs rest x y s g h p q) e f r
  where
    -- the session of the first stands in no other
    apart : (test : Connection → Bool) (w : Connection) (o : Option ℕ) → z.session ≡ o → Rises low (cons_option o (sessions_of xs) ++ rest) high → z.session ≡ Some n → find test xs ≡ Some w → w.session ≡ Some n → ⊥
    apart test w None is s own g t = let no : None ≡ Some n = sym is ∙ own in cc
    apart test w (Some m) is s own g t =
        let some : Some m ≡ Some n = sym is ∙ own in
        let same : m ≡ n = cc in
        let least = connection_reaches test (m + 1) high xs rest w n s.1 g t in
        omega arith

    by_tests : (c d : Bool) (o : Option ℕ) → z.session ≡ o → ((least : ℕ) → Rises least (sessions_of xs ++ rest) high → find a xs ≡ Some x → find b xs ≡ Some y → x ≡ y)
        → cond c (Some z) (find a xs) ≡ Some x → cond d (Some z) (find b xs) ≡ Some y → Rises low (cons_option o (sessions_of xs) ++ rest) high → x ≡ y
    by_tests true true o is further g h s = cc
    by_tests true false o is further g h s = let own : z ≡ x = cc in absurd (apart b y o is s (ap (λ (w : Connection). w.session) own ∙ p) h q)
    by_tests false true o is further g h s = let own : z ≡ y = cc in absurd (apart a x o is s (ap (λ (w : Connection). w.session) own ∙ q) g p)
    by_tests false false None is further g h s = further low s g h
    by_tests false false (Some m) is further g h s = further (m + 1) s.1 g h
