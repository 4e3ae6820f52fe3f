-- Turns of inputs, one after another.
use Rattle.std.proofs.Common.{◌≡◌, ℕ, ◌<◌, List, [], ◌∷◌, ◌++◌, Option, length, get_or, set, ap, sym, subst, ◌∙◌, arith, append_assoc, append-nil}
use Rattle.std.specs.Prelude.{IsSome, is_some}
use Rattle.std.proofs.lemmas.List.{map-append}
use Rattle.arrival_spec.specs.declared.event.Scripted.{Scripted}
use Rattle.arrival_spec.specs.Settings.{Settings}
use Rattle.run_spec.specs.Read.{ReadArrival}
use Rattle.run_spec.specs.Work.{items_of, work_of, item_of as item_given}
use Rattle.run_spec.proofs.MoreLemmas.{one_more_item}
use Rattle.call_spec.specs.Pairs.{Each}
use Rattle.call_spec.proofs.PairLemmas.{same_length}
use Rattle.input_turns.proofs.PlaceLemmas.{found, put}
use Rattle.pipeline_message.specs.declared.message.Msg.{Msg}
use Rattle.pipeline_message.specs.Items.{item_of}
use Rattle.parser_lane.specs.Parsers.{inputs}
use Rattle.input_lane.specs.Inlets.{and_given}
use Rattle.run_input.specs.declared.input.Input.{Input}
use Rattle.run_input.specs.declared.input.InputAnswer.TheVariants as answer
use Rattle.run_input.specs.Inputs.{HasGiven, Brings, IsRight}
use Rattle.logged_outputs.specs.Entries.{AreOf, Entry, entries_of, items_in}
use Rattle.input_turns.specs.Turns.{Follows, Turned, Went, InputGives, InputSoFar, SoFar, Gives}
use Rattle.logged_outputs.proofs.EntryLemmas.{all_joined, entry, entry_one, own_known, own_more, own_other, takes_then}

module _ {S : Type 0} (left : S → Option (List Scripted)) (faults : S → ℕ) where
  abbrev Has : S → Settings → ℕ → List Scripted → List ReadArrival → Input S → Type 0
  Has first settings number given read x = HasGiven left faults first settings number given read x

  -- ---- one question

  no_more : (first : S) (settings : Settings) (number : ℕ) (given : List Scripted) (read : List ReadArrival) (x : Input S) → Has first settings number given read x → Went left faults first settings number read [] x
  no_more first settings number given read x h = record { given = given; read = read; has = h; items = sym (append-nil (items_of (inputs settings) read)); are_own = tt }

  pub gives_none : (a : Input S) → InputGives left faults [] a a
  gives_none a first settings number given read h = no_more first settings number given read a h

  pub nothing_came : (a b : Input S) → Brings left faults a b answer.Nothing → InputGives left faults [] a b
  nothing_came a b q first settings number given read h = no_more first settings number (and_given q.0 given) read b (q.2 first settings number given read h).0

  pub not_yet_came : (a b : Input S) → Brings left faults a b answer.NotYet → InputGives left faults [] a b
  not_yet_came a b q first settings number given read h = no_more first settings number (and_given q.0 given) read b (q.2 first settings number given read h).0

  pub end_came : (a b : Input S) → Brings left faults a b answer.Ended → InputGives left faults [] a b
  end_came a b q first settings number given read h = no_more first settings number (and_given q.0 given) read b (q.2 first settings number given read h).0

  -- a message stands for an item, and it is the entry
  pub message_item : (a b : Input S) (msg : Msg) → IsRight left faults a → Brings left faults a b (answer.Message msg) → IsSome (item_of msg)
  message_item a b msg r q = ap is_some (q.2 r.first r.settings r.number r.given r.read r.has).1

  pub message_came : (a b : Input S) (msg : Msg) → Brings left faults a b (answer.Message msg) → InputGives left faults (entries_of a.number msg) a b
  message_came a b msg q first settings number given read h =
      let g = q.2 first settings number given read h in
      let item = item_given (inputs settings) (work_of (inputs settings) read g.0) in
      let one : entries_of a.number msg ≡ entry a.number item ∷ [] = entry_one a.number msg item g.1 in
      record {
        given = and_given q.0 given;
        read = read ++ g.0 ∷ [];
        has = g.2;
        items = one_more_item (inputs settings) read g.0 ∙ ap (λ l. items_of (inputs settings) read ++ items_in l) (sym one);
        are_own = subst (AreOf number) (sym one) (h.numbered, tt);
      }

  -- ---- questions one after another

  pub gives_then : (more then : List Entry) (a b c : Input S) → InputGives left faults more a b → InputGives left faults then b c → InputGives left faults (more ++ then) a c
  gives_then more then a b c p q first settings number given read h =
      let v = p first settings number given read h in
      let w = q first settings number v.given v.read v.has in
      record {
        given = w.given;
        read = w.read;
        has = w.has;
        items = w.items ∙ (ap (λ l. l ++ items_in then) v.items ∙ (append_assoc (items_of (inputs settings) read) (items_in more) (items_in then) ∙ ap (λ l. items_of (inputs settings) read ++ l) (sym (map-append (λ (x : Entry). x.item) more then))));
        are_own = all_joined (λ (x : Entry). x.input ≡ number) more then v.are_own w.are_own;
      }

  -- ---- all inputs

  pub all_none : (xs : List (Input S)) → Gives left faults [] xs xs
  all_none xs all firsts entries s = subst (λ l. SoFar left faults all l firsts xs) (sym (append-nil entries)) s

  pub all_then : (more then : List Entry) (xs ys zs : List (Input S)) → Gives left faults more xs ys → Gives left faults then ys zs → Gives left faults (more ++ then) xs zs
  all_then more then xs ys zs p q all firsts entries s = subst (λ l. SoFar left faults all l firsts zs) (append_assoc entries more then) (q all firsts (entries ++ more) (p all firsts entries s))

  -- the turn of one of them
  pub one_gives : (more : List Entry) (i : ℕ) (xs : List (Input S)) (d a b : Input S) → i < length xs → a ≡ get_or xs i d → InputGives left faults more a b → Gives left faults more xs (set xs i b)
  one_gives more i xs d a b lt is g all firsts entries s =
      let long : length firsts ≡ length xs = same_length (InputSoFar left faults all entries) 0 firsts xs s.each in
      let owned = found_own firsts s.each in
      record {
        each = put (InputSoFar left faults all entries) (InputSoFar left faults all (entries ++ more)) 0 i i firsts xs d a b lt is (omega arith)
            (λ k f x ne r. record { given = r.given; read = r.read; has = r.has; items = own_other k i entries more ne owned ∙ r.items })
            (λ f r. turned f r) s.each;
        known = all_joined (λ (x : Entry). x.input < length firsts) entries more s.known (own_known i (length firsts) more (omega arith) owned);
      }
    where
      went : (f : S) (r : InputSoFar left faults all entries i f a) → Went left faults f (all i) i r.read more b
      went f r = g f (all i) i r.given r.read r.has

      turned : (f : S) (r : InputSoFar left faults all entries i f a) → InputSoFar left faults all (entries ++ more) i f b
      turned f r = let w = went f r in record { given = w.given; read = w.read; has = w.has; items = own_more i entries more w.are_own ∙ (ap (λ l. l ++ items_in more) r.items ∙ sym w.items) }

      found_own : (fs : List S) → Each (InputSoFar left faults all entries) 0 fs xs → AreOf i more
      found_own fs e = let f = found (InputSoFar left faults all entries) 0 i i fs xs d a lt is (omega arith) e in (went f.0 f.1).are_own

  -- ---- with what is taken

  module _ {T : Type 0} (took : List Entry → T → T → Type 0) where
    pub turned_then : (a b c : Input S) (t u v : T) → Turned left faults took a b t u → Turned left faults took b c u v → Turned left faults took a c t v
    turned_then a b c t u v p q = (p.0 ++ q.0, gives_then p.0 q.0 a b c p.1 q.1, takes_then took p.0 q.0 t u v p.2 q.2)

    pub follows_then : (xs ys zs : List (Input S)) (t u v : T) → Follows left faults took xs ys t u → Follows left faults took ys zs u v → Follows left faults took xs zs t v
    follows_then xs ys zs t u v p q = (p.0 ++ q.0, all_then p.0 q.0 xs ys zs p.1 q.1, takes_then took p.0 q.0 t u v p.2 q.2)

    -- the turn of one of them more
    pub turned_one : (i : ℕ) (xs ys : List (Input S)) (d a b : Input S) (t u v : T) → i < length ys → a ≡ get_or ys i d → Follows left faults took xs ys t u → Turned left faults took a b u v → Follows left faults took xs (set ys i b) t v
    turned_one i xs ys d a b t u v lt is p q = follows_then xs ys (set ys i b) t u v p (q.0, one_gives q.0 i ys d a b lt is q.1, q.2)
