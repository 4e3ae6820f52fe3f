-- A stream may come in any pieces: two of them, one behind the other, bring what they bring as one.
use Rattle.std.proofs.Common.{◌≡◌, ℕ, Bool, true, false, cond, List, [], ◌∷◌, ◌++◌, Some, None, length, drop, refl, ap, sym, subst, ◌∙◌, append_assoc, append-nil, map}
use Rattle.std.specs.Prelude.{Option, ◌==◌, fold}
use Rattle.std.proofs.lemmas.Bool.{eq-eqb}
use Rattle.std.proofs.lemmas.List.{map-append}
use Rattle.std.proofs.lemmas.List.Sums.{fold-append}
use Rattle.std.proofs.lemmas.Grind.{flat_map-append}
use Rattle.std.proofs.Math.Seq.{drop-append_seam}
use Rattle.wire_spec.specs.Stream.{is_bad}
use Rattle.wire_spec.proofs.StreamLemmas.{bad_rest_stays, pieces_cut}
use Rattle.arrival_spec.specs.declared.event.Scripted.{Scripted}
use Rattle.arrival_spec.specs.declared.event.Scripted.TheVariants as event
use Rattle.arrival_spec.specs.Arrival.Arrival.{Raw, SessionClose}
use Rattle.arrival_spec.specs.Mark.{Mark, arrival_in, arrivals_in}
use Rattle.arrival_spec.specs.Mark.Mark.{Arrives, Broken}
use Rattle.arrival_spec.specs.Settings.{Settings}
use Rattle.arrival_spec.specs.Cutting.{Cut, cutting, new_messages}
use Rattle.arrival_spec.specs.Sessions.{Connection, Given, Standing, brought, brought_in, connection_of, gives, gone_on, is_datagrams, key_of, stray, updated}
use Rattle.arrival_spec.specs.Run.{Run, before_all, run_of, standing_after, with_event}
use Rattle.arrival_spec.proofs.CutLemmas.{cutting_from, cutting_is, still_bad}
use Rattle.arrival_spec.proofs.FindLemmas.{find_changed, found_passes}
use Rattle.arrival_spec.proofs.PastLemmas.{gone_number}
use Rattle.arrival_spec.proofs.RowLemmas.{changed}
use Rattle.arrival_spec.proofs.RunLemmas.{run_from, run_on}

-- the messages of two pieces are those of the first, and then those of the second
new_joined : (o a b : List ℕ) → new_messages o (a ++ b) ≡ new_messages o a ++ new_messages (o ++ a) b
new_joined o a b =
    let first = pieces_cut o a (cutting o).messages (cutting (o ++ a)).messages (cutting o).rest (cutting (o ++ a)).rest (cutting_is o) (cutting_is (o ++ a)) in
    let second = pieces_cut (o ++ a) b (cutting (o ++ a)).messages (cutting ((o ++ a) ++ b)).messages (cutting (o ++ a)).rest (cutting ((o ++ a) ++ b)).rest (cutting_is (o ++ a)) (cutting_is ((o ++ a) ++ b)) in
    let before = (cutting o).messages in
    let here : new_messages o a ≡ first.0 = ap (drop (length before)) first.1 ∙ drop-append_seam before first.0 in
    let there : new_messages (o ++ a) b ≡ second.0 = ap (drop (length (cutting (o ++ a)).messages)) second.1 ∙ drop-append_seam (cutting (o ++ a)).messages second.0 in
    let whole : (cutting (o ++ (a ++ b))).messages ≡ before ++ (first.0 ++ second.0) =
    ap (λ x. (cutting x).messages) (sym (append_assoc o a b)) ∙ (second.1 ∙ (ap (λ l. l ++ second.0) first.1 ∙ append_assoc before first.0 second.0)) in
    ap (drop (length before)) whole ∙ (drop-append_seam before (first.0 ++ second.0) ∙ (ap (λ l. l ++ second.0) (sym here) ∙ ap (λ l. new_messages o a ++ l) (sym there)))

-- behind a bad rest no message comes
none_behind : (o more : List ℕ) → is_bad (cutting o).rest ≡ true → new_messages o more ≡ []
none_behind o more bad =
    let same = cutting_from (o ++ more) (cutting o).messages ((cutting o).rest ++ more) (bad_rest_stays o more (cutting o).messages (cutting o).rest (cutting_is o) bad) in
    ap (λ (c : Cut). drop (length (cutting o).messages) c.messages) same ∙ (ap (drop (length (cutting o).messages)) (sym (append-nil (cutting o).messages)) ∙ drop-append_seam (cutting o).messages [])

-- a change of a changed connection
updated_twice : (x y : Connection) (xs : List Connection) → x.number ≡ y.number → map (changed y) (map (changed x) xs) ≡ map (changed y) xs
updated_twice x y [] same = refl
updated_twice x y (z ∷ xs) same = ap (λ l. changed y (changed x z) ∷ l) (updated_twice x y xs same) ∙ ap (λ w. w ∷ map (changed y) xs) (by_test (z.number == x.number) refl)
  where
    by_test : (b : Bool) → (z.number == x.number) ≡ b → changed y (cond b x z) ≡ changed y z
    by_test true is =
        ap (λ b. cond b y x) (eq-eqb x.number y.number same) ∙ sym (ap (λ b. cond b y z) (ap (λ n. z.number == n) (sym same) ∙ is))
    by_test false is = refl

module _ (settings : Settings) (input c : ℕ) (a b : List ℕ) where
  -- what two pieces bring is what they bring as one, and so is what then stands
  record Same (first second whole : Given) : Type 0 where
    arrive : arrivals_in first.marks ++ arrivals_in second.marks ≡ arrivals_in whole.marks
    next : second.next ≡ whole.next

  abbrev raws : ℕ → List (List ℕ) → List Mark
  raws n messages = map (λ m. Arrives (Raw (key_of input n) m)) messages

  abbrev ending : ℕ → Bool → List Mark
  ending n bad = cond bad (Broken ∷ Arrives (SessionClose (key_of input n)) ∷ []) []

  raws_joined : (n : ℕ) (xs ys : List (List ℕ)) → arrivals_in (raws n (xs ++ ys)) ≡ arrivals_in (raws n xs) ++ arrivals_in (raws n ys)
  raws_joined n xs ys = ap arrivals_in (map-append (λ m. Arrives (Raw (key_of input n) m)) xs ys) ∙ flat_map-append arrival_in (raws n xs) (raws n ys)

  marks_of_piece : (n : ℕ) (messages : List (List ℕ)) (last : List Mark) → arrivals_in (raws n messages ++ last) ≡ arrivals_in (raws n messages) ++ arrivals_in last
  marks_of_piece n messages last = flat_map-append arrival_in (raws n messages) last

  module _ (s : Standing) (x : Connection) (found : connection_of c s ≡ Some x) where
    same_in : (o : Option ℕ) → x.session ≡ o → Same (brought_in input a s x o) (brought input b (brought_in input a s x o).next (connection_of c (brought_in input a s x o).next)) (brought_in input (a ++ b) s x o)
    same_in None is =
        subst (λ (g : Given). Same (brought_in input a s x None) g (brought_in input (a ++ b) s x None)) (sym (ap (brought input b s) found ∙ ap (brought_in input b s x) is)) (record { arrive = refl; next = refl })
    same_in (Some n) is =
        let first = gone_on x.number n (x.octets ++ a) in
        let number : (first.number == c) ≡ true = ap (λ k. k == c) (gone_number x.number n (x.octets ++ a)) ∙ found_passes (λ (z : Connection). z.number == c) s.connections x found in
        let there : connection_of c (updated first s) ≡ Some first = find_changed c first x s.connections number found in
        subst (λ (g : Given). Same (brought_in input a s x (Some n)) g (brought_in input (a ++ b) s x (Some n))) (sym (ap (brought input b (updated first s)) there)) (by_bad (is_bad (cutting (x.octets ++ a)).rest) refl)
      where
        by_bad : (bad : Bool) → is_bad (cutting (x.octets ++ a)).rest ≡ bad
            → Same (record { marks = raws n (new_messages x.octets a) ++ ending n bad; next = updated (cond bad (record { number = x.number; session = None; octets = [] }) (record { number = x.number; session = Some n; octets = x.octets ++ a })) s })
            (brought_in input b (updated (cond bad (record { number = x.number; session = None; octets = [] }) (record { number = x.number; session = Some n; octets = x.octets ++ a })) s)
            (cond bad (record { number = x.number; session = None; octets = [] }) (record { number = x.number; session = Some n; octets = x.octets ++ a }))
            (cond {A = Connection} bad (record { number = x.number; session = None; octets = [] }) (record { number = x.number; session = Some n; octets = x.octets ++ a })).session)
            (brought_in input (a ++ b) s x (Some n))
        by_bad true bad =
            let still : is_bad (cutting (x.octets ++ (a ++ b))).rest ≡ true = ap (λ l. is_bad (cutting l).rest) (sym (append_assoc x.octets a b)) ∙ still_bad (x.octets ++ a) b bad in
            let same : new_messages x.octets a ≡ new_messages x.octets (a ++ b) =
            sym (new_joined x.octets a b ∙ (ap (λ l. new_messages x.octets a ++ l) (none_behind (x.octets ++ a) b bad) ∙ append-nil (new_messages x.octets a))) in
            record {
              arrive = append-nil (arrivals_in (raws n (new_messages x.octets a) ++ ending n true))
                  ∙ (ap (λ m. arrivals_in (raws n m ++ ending n true)) same ∙ ap (λ e. arrivals_in (raws n (new_messages x.octets (a ++ b)) ++ ending n e)) (sym still));
              next = ap (λ e. updated (cond e (record { number = x.number; session = None; octets = [] }) (record { number = x.number; session = Some n; octets = x.octets ++ (a ++ b) })) s) (sym still);
            }
        by_bad false good =
            let live : Connection = record { number = x.number; session = Some n; octets = x.octets ++ a } in
            let first = raws n (new_messages x.octets a) in
            let second = raws n (new_messages (x.octets ++ a) b) in
            let last = ending n (is_bad (cutting ((x.octets ++ a) ++ b)).rest) in
            record {
              arrive = ap (λ l. arrivals_in l ++ arrivals_in (second ++ last)) (append-nil first)
                  ∙ (ap (λ l. arrivals_in first ++ l) (marks_of_piece n (new_messages (x.octets ++ a) b) last)
                  ∙ (sym (append_assoc (arrivals_in first) (arrivals_in second) (arrivals_in last))
                  ∙ (ap (λ l. l ++ arrivals_in last) (sym (raws_joined n (new_messages x.octets a) (new_messages (x.octets ++ a) b)))
                  ∙ (ap (λ m. arrivals_in (raws n m) ++ arrivals_in last) (sym (new_joined x.octets a b))
                  ∙ (sym (marks_of_piece n (new_messages x.octets (a ++ b)) last)
                  ∙ ap (λ l. arrivals_in (raws n (new_messages x.octets (a ++ b)) ++ ending n (is_bad (cutting l).rest))) (append_assoc x.octets a b))))));
              next = ap (λ l. record s { connections = l }) (updated_twice live (gone_on x.number n ((x.octets ++ a) ++ b)) s.connections (sym (gone_number x.number n ((x.octets ++ a) ++ b))))
                  ∙ ap (λ l. updated (gone_on x.number n l) s) (append_assoc x.octets a b);
            }

  same_brought : (s : Standing) (o : Option Connection) → connection_of c s ≡ o → Same (brought input a s o) (brought input b (brought input a s o).next (connection_of c (brought input a s o).next)) (brought input (a ++ b) s o)
  same_brought s None found = subst (λ (g : Given). Same (stray s) g (stray s)) (sym (ap (brought input b s) found)) (record { arrive = refl; next = refl })
  same_brought s (Some x) found = same_in s x found x.session refl

  -- what a piece gives
  abbrev piece : List ℕ → Standing → Given
  piece octets s = gives settings input s (event.Bytes c octets)

  piece_by : (octets : List ℕ) (s : Standing) (datagrams : Bool) → is_datagrams settings.transport ≡ datagrams → piece octets s ≡ cond datagrams (stray s) (brought input octets s (connection_of c s))
  piece_by octets s datagrams is = ap (λ d. cond d (stray s) (brought input octets s (connection_of c s))) is

  same_pieces : (s : Standing) → Same (piece a s) (piece b (piece a s).next) (piece (a ++ b) s)
  same_pieces s = by_transport (is_datagrams settings.transport) refl
    where
      by_transport : (datagrams : Bool) → is_datagrams settings.transport ≡ datagrams → Same (piece a s) (piece b (piece a s).next) (piece (a ++ b) s)
      by_transport datagrams is =
          subst (λ (g : Given). Same (piece a s) (piece b (piece a s).next) g) (sym (piece_by (a ++ b) s datagrams is))
          (subst (λ (g : Given). Same g (piece b g.next) (cond datagrams (stray s) (brought input (a ++ b) s (connection_of c s)))) (sym (piece_by a s datagrams is))
          (further datagrams is))
        where
          further : (datagrams : Bool) → is_datagrams settings.transport ≡ datagrams
              → Same (cond datagrams (stray s) (brought input a s (connection_of c s))) (piece b (cond datagrams (stray s) (brought input a s (connection_of c s))).next) (cond datagrams (stray s) (brought input (a ++ b) s (connection_of c s)))
          further true is = subst (λ (g : Given). Same (stray s) g (stray s)) (sym (piece_by b s true is)) (record { arrive = refl; next = refl })
          further false is =
              let first = brought input a s (connection_of c s) in
              subst (λ (g : Given). Same first g (brought input (a ++ b) s (connection_of c s))) (sym (piece_by b first.next false is)) (same_brought s (connection_of c s) refl)

  module _ (before after : List Scripted) where
    abbrev past : Run
    past = run_of settings input before

    abbrev as_two : Run
    as_two = with_event settings input (with_event settings input past (event.Bytes c a)) (event.Bytes c b)

    abbrev as_one : Run
    as_one = with_event settings input past (event.Bytes c (a ++ b))

    same_start : arrivals_in as_two.marks ≡ arrivals_in as_one.marks
    same_start =
        let s = same_pieces past.standing in
        let first = (piece a past.standing).marks in
        let second = (piece b (piece a past.standing).next).marks in
        flat_map-append arrival_in (past.marks ++ first) second
        ∙ (ap (λ l. l ++ arrivals_in second) (flat_map-append arrival_in past.marks first)
        ∙ (append_assoc (arrivals_in past.marks) (arrivals_in first) (arrivals_in second)
        ∙ (ap (λ l. arrivals_in past.marks ++ l) s.arrive ∙ sym (flat_map-append arrival_in past.marks (piece (a ++ b) past.standing).marks))))

    two_run : run_of settings input (before ++ event.Bytes c a ∷ event.Bytes c b ∷ after) ≡ fold (with_event settings input) as_two after
    two_run = fold-append (with_event settings input) before_all before (event.Bytes c a ∷ event.Bytes c b ∷ after)

    one_run : run_of settings input (before ++ event.Bytes c (a ++ b) ∷ after) ≡ fold (with_event settings input) as_one after
    one_run = fold-append (with_event settings input) before_all before (event.Bytes c (a ++ b) ∷ after)

    -- Two pieces bring what they bring as one, and leave the same behind them.
    pub pieces_arrive : arrivals_in (run_of settings input (before ++ event.Bytes c a ∷ event.Bytes c b ∷ after)).marks ≡ arrivals_in (run_of settings input (before ++ event.Bytes c (a ++ b) ∷ after)).marks
    pieces_arrive =
        ap (λ (r : Run). arrivals_in r.marks) (two_run ∙ run_from settings input as_two after)
        ∙ (flat_map-append arrival_in as_two.marks (run_on settings input as_two.standing after).marks
        ∙ (ap (λ l. l ++ arrivals_in (run_on settings input as_two.standing after).marks) same_start
        ∙ (ap (λ (s : Standing). arrivals_in as_one.marks ++ arrivals_in (run_on settings input s after).marks) (same_pieces past.standing).next
        ∙ (sym (flat_map-append arrival_in as_one.marks (run_on settings input as_one.standing after).marks)
        ∙ sym (ap (λ (r : Run). arrivals_in r.marks) (one_run ∙ run_from settings input as_one after))))))

    pub pieces_stand : standing_after settings input (before ++ event.Bytes c a ∷ event.Bytes c b ∷ after) ≡ standing_after settings input (before ++ event.Bytes c (a ++ b) ∷ after)
    pieces_stand =
        ap (λ (r : Run). r.standing) (two_run ∙ run_from settings input as_two after)
        ∙ (ap (λ (s : Standing). (run_on settings input s after).standing) (same_pieces past.standing).next ∙ sym (ap (λ (r : Run). r.standing) (one_run ∙ run_from settings input as_one after)))
