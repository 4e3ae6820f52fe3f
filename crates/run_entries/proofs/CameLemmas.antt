-- What came of each input of a run, from what it stands for.
use Rattle.std.proofs.Common.{◌≡◌, ℕ, suc, true, false, List, [], ◌∷◌, ◌++◌, Option, Some, None, length, map, refl, ap, sym, subst, ◌∙◌, append-nil}
use Rattle.std.specs.Prelude.{is_some}
use Rattle.std.specs.List.{AllByRecursion}
use Rattle.std.proofs.lemmas.List.{length-map}
use Rattle.arrival_spec.specs.declared.event.Scripted.{Scripted}
use Rattle.arrival_spec.specs.Arrival.{Arrival, input_of}
use Rattle.arrival_spec.specs.Run.{arrivals_of}
use Rattle.arrival_spec.proofs.EachLemmas.{all_own}
use Rattle.run_spec.specs.Read.{ReadArrival, AreReadAs}
use Rattle.run_spec.specs.Judge.{Inputs}
use Rattle.run_spec.specs.Work.{AreDecodedTo, Item, item_of, items_of, works_after, works_of}
use Rattle.run_spec.proofs.ReadLemmas.{front_decoded, some_items}
use Rattle.call_spec.specs.Pairs.{Each}
use Rattle.call_spec.specs.declared.end.InputEnd.{InputEnd}
use Rattle.call_spec.specs.declared.end.InputEnd.TheVariants as end
use Rattle.call_spec.specs.Came.{InputCame}
use Rattle.call_spec.specs.Ends.{wants_memory}
use Rattle.parser_lane.specs.Parsers.{inputs}
use Rattle.run_input.specs.declared.input.Input.{Input}
use Rattle.run_input.specs.Inputs.{HasGiven}
use Rattle.run_input.specs.Standing.{StandsBy}
use Rattle.logged_outputs.specs.Entries.{Entry, own}
use Rattle.input_turns.specs.Turns.{InputSoFar}
use Rattle.run_entries.specs.Came.{InputCameTo, came_of, end_or}
use Rattle.run_entries.proofs.AlikeLemmas.{items_alike, own_read}

-- ---- as many items as arrivals

read_length : (list : List (Arrival (List ℕ))) (read : List ReadArrival) → AreReadAs list read → length read ≡ length list
read_length [] [] are = refl
read_length [] (r ∷ read) are = absurd are
read_length (a ∷ list) [] are = absurd are
read_length (a ∷ list) (r ∷ read) are = ap suc (read_length list read are.1)

worked_length : (all : Inputs) (before list : List ReadArrival) → length (works_after all before list) ≡ length list
worked_length all before [] = refl
worked_length all before (a ∷ list) = ap suc (worked_length all (before ++ a ∷ []) list)

pub decoded_length : (all : Inputs) (list : List (Arrival (List ℕ))) (items : List Item) → AreDecodedTo all list items → length items ≡ length list
decoded_length all list items d = ap length d.2 ∙ (length-map (works_of all d.0) (item_of all) ∙ (worked_length all [] d.0 ∙ read_length list d.0 d.1))

-- ---- one input

-- the items that all arrivals of an input are decoded to begin with its entries; they are all, unless it wanted memory
pub record Decoded (all : Inputs) (entries : List Entry) (k : ℕ) (given : List Scripted) (e : InputEnd) : Type 0 where
  pub items : List Item
  pub decoded : AreDecodedTo all (arrivals_of (all k) k given) items
  pub rest : List Item
  pub whole : items ≡ own k entries ++ rest
  pub full : wants_memory e ≡ false → rest ≡ []

module _ {S : Type 0} (left : S → Option (List Scripted)) (faults : S → ℕ) (all : Inputs) (entries : List Entry) where
  alike : (k : ℕ) (list : List (Arrival (List ℕ))) (read : List ReadArrival) → AreReadAs list read → AllByRecursion (λ (a : Arrival (List ℕ)). input_of a ≡ k) list → own k entries ≡ items_of (inputs (all k)) read → own k entries ≡ items_of all read
  alike k list read are own e = e ∙ items_alike all k read (own_read k list read are own)

  all_of_it : (k : ℕ) (given : List Scripted) (e : InputEnd) (read : List ReadArrival) → AreReadAs (arrivals_of (all k) k given) read → own k entries ≡ items_of (inputs (all k)) read → Decoded all entries k given e
  all_of_it k given e read are is = record {
    items = items_of all read;
    decoded = (read, are, refl);
    rest = [];
    whole = sym (append-nil (own k entries) ∙ alike k (arrivals_of (all k) k given) read are (all_own (all k) k given) is);
    full = λ _. refl;
  }

  front_own : (k : ℕ) (xs ys : List (Arrival (List ℕ))) → AllByRecursion (λ (a : Arrival (List ℕ)). input_of a ≡ k) (xs ++ ys) → AllByRecursion (λ (a : Arrival (List ℕ)). input_of a ≡ k) xs
  front_own k [] ys o = tt
  front_own k (x ∷ xs) ys o = (o.0, front_own k xs ys o.1)

  pub input_decoded : (k : ℕ) (first : S) (given : List Scripted) (read : List ReadArrival) (x : Input S) → is_some x.end ≡ true → HasGiven left faults first (all k) k given read x → own k entries ≡ items_of (inputs (all k)) read
      → Decoded all entries k given (end_or x.end)
  input_decoded k first given read x some h is = by_end x.end some h.stands
    where
      by_end : (o : Option InputEnd) → is_some o ≡ true → StandsBy o (all k) k given read x.inlet.lane x.parser → Decoded all entries k given (end_or o)
      by_end None some s = absurd cc
      by_end (Some end.End) some s = all_of_it k given end.End read s.0.are_read is
      by_end (Some end.Failed) some s = all_of_it k given end.Failed read s.0.are_read is
      by_end (Some end.Limit) some s = absurd s
      by_end (Some end.Memory) some s =
          let d = some_items all (arrivals_of (all k) k given) in
          let mine = front_own k s.out s.rest (subst (λ l. AllByRecursion (λ (a : Arrival (List ℕ)). input_of a ≡ k) l) s.whole (all_own (all k) k given)) in
          let f = front_decoded all s.out s.rest (items_of all read) d.0 (read, s.are_read, refl) (subst (λ l. AreDecodedTo all l d.0) s.whole d.1) in
          record {
            items = d.0;
            decoded = d.1;
            rest = f.0;
            whole = f.1 ∙ ap (λ l. l ++ f.0) (sym (alike k s.out read s.are_read mine is));
            full = λ wrong. absurd cc;
          }

  -- ---- all inputs

  -- what came of them
  pub all_came : (n : ℕ) (firsts : List S) (xs : List (Input S)) → Each (InputSoFar left faults all entries) n firsts xs → (pairs : List (S × InputCame)) × Each (InputCameTo left faults all entries) n pairs xs × (map (λ (p : S × InputCame). p.0) pairs ≡ firsts)
  all_came n [] [] e = ([], tt, refl)
  all_came n [] (x ∷ xs) e = absurd e
  all_came n (f ∷ firsts) [] e = absurd e
  all_came n (f ∷ firsts) (x ∷ xs) e =
      let rest = all_came (suc n) firsts xs e.1 in (
        (f, came_of left faults x e.0.given) ∷ rest.0,
        (record { read = e.0.read; has = e.0.has; items = e.0.items; is = refl }, rest.1),
        ap (λ l. f ∷ l) rest.2,
      )
