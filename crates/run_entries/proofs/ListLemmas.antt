-- The items of all inputs, list by list.
use Rattle.std.proofs.Common.{◌≡◌, ℕ, zero, suc, ◌+◌, ◌-◌, Bool, true, false, cond, List, [], ◌∷◌, ◌++◌, length, map, take, drop, refl, ap, sym, subst, ◌∙◌, arith, append-nil, add-zero}
use Rattle.std.specs.Prelude.{is_some, ◌==◌, ◌||◌, Option}
use Rattle.std.specs.List.{AllByRecursion, list_all, list_any}
use Rattle.std.proofs.lemmas.Bool.{and_parts, eqb-true}
use Rattle.std.proofs.lemmas.List.{length-append}
use Rattle.arrival_spec.specs.declared.event.Scripted.{Scripted}
use Rattle.arrival_spec.specs.Arrival.{Arrival, input_of}
use Rattle.arrival_spec.specs.Run.{arrivals_of}
use Rattle.arrival_spec.proofs.EachLemmas.{all_own}
use Rattle.run_spec.specs.Judge.{Inputs}
use Rattle.run_spec.specs.Inputs.{AreByInput, AreEachDecoded}
use Rattle.run_spec.specs.Merge.{IsPartial, list_at, times}
use Rattle.run_spec.specs.Work.{Item}
use Rattle.result_spec.specs.Result.{arrivals_from}
use Rattle.call_spec.specs.Pairs.{Each}
use Rattle.call_spec.specs.Came.{InputCame}
use Rattle.call_spec.specs.Ends.{wants_memory}
use Rattle.run_input.specs.declared.input.Input.{Input}
use Rattle.logged_outputs.specs.Entries.{Entry, order_of, own}
use Rattle.logged_outputs.specs.Entries.{AreKnown}
use Rattle.run_entries.specs.Came.{InputCameTo, end_or}
use Rattle.run_entries.proofs.CameLemmas.{Decoded, decoded_length, input_decoded}
use Rattle.run_entries.proofs.MergeLemmas.{Begins, times_own, unknown_none}

-- ---- lists by their numbers

pub at_first : {X : Type 0} (list : List X) (lists : List (List X)) → list_at (list ∷ lists) 0 ≡ list
at_first list lists = refl

pub at_next : {X : Type 0} (list : List X) (lists : List (List X)) (m : ℕ) → list_at (list ∷ lists) (suc m) ≡ list_at lists m
at_next list lists m = by_test (suc m == 0) refl ∙ ap (list_at lists) (omega arith)
  where
    by_test : (b : Bool) → (suc m == 0) ≡ b → cond b list (list_at lists (suc m - 1)) ≡ list_at lists (suc m - 1)
    by_test true e = absurd (let wrong = eqb-true (suc m) 0 e in omega arith)
    by_test false e = refl

not_first : (a b : Bool) → (a || b) ≡ false → a ≡ false
not_first true b e = e
not_first false b e = refl

-- the first of some events are those of their input
abbrev pub givens : List InputCame → List (List Scripted)
givens cames = map (λ (c : InputCame). c.given) cames

-- whether an input may have arrivals that weren't worked off
abbrev pub is_cut_short : List InputCame → ℕ → Bool
is_cut_short cames j = list_any (λ (c : InputCame). wants_memory c.end) (take 1 (drop j cames))

-- the arrivals of each input from this number on are decoded to items that begin with its entries, which are all unless it
-- wanted memory
pub record Lists (all : Inputs) (entries : List Entry) (n : ℕ) (cames : List InputCame) : Type 0 where
  pub lists : List (List Item)
  pub decoded : AreEachDecoded all (arrivals_from all n (givens cames)) lists
  pub rests : ℕ → List Item
  pub begins : (j : ℕ) → list_at lists j ≡ own (n + j) entries ++ rests j
  pub full : (j : ℕ) → is_cut_short cames j ≡ false → rests j ≡ []

abbrev rest_by : List Item → (ℕ → List Item) → ℕ → List Item
rest_by first rests zero = first
rest_by first rests (suc j) = rests j

module _ {S : Type 0} (left : S → Option (List Scripted)) (faults : S → ℕ) (all : Inputs) (entries : List Entry) where
  pub lists_of : (n count : ℕ) (pairs : List (S × InputCame)) (xs : List (Input S)) → count ≡ n + length xs → AreKnown count entries → list_all (λ (x : Input S). is_some x.end) xs ≡ true → Each (InputCameTo left faults all entries) n pairs xs
      → Lists all entries n (map (λ (p : S × InputCame). p.1) pairs)
  lists_of n count [] [] is known ended e = record {
    lists = [];
    decoded = tt;
    rests = λ j. [];
    begins = λ j. sym (append-nil (own (n + j) entries) ∙ unknown_none count (n + j) entries known (omega arith));
    full = λ j _. refl;
  }
  lists_of n count [] (x ∷ xs) is known ended e = absurd e
  lists_of n count (p ∷ pairs) [] is known ended e = absurd e
  lists_of n count (p ∷ pairs) (x ∷ xs) is known ended e =
      let both = and_parts (is_some x.end) (list_all (λ (y : Input S). is_some y.end) xs) ended in
      let d = input_decoded left faults all entries n p.0 p.1.given e.0.read x both.0 e.0.has e.0.items in
      let r = lists_of (suc n) count pairs xs (omega arith) known both.1 e.1 in
      record {
        lists = d.items ∷ r.lists;
        decoded = (d.decoded, subst (λ m. AreEachDecoded all (arrivals_from all m (givens (map (λ (q : S × InputCame). q.1) pairs))) r.lists) (let e : suc n ≡ n + 1 = omega arith in e) r.decoded);
        rests = rest_by d.rest r.rests;
        begins = begin d r;
        full = fulled d r;
      }
    where
      begin : (d : Decoded all entries n p.1.given (end_or x.end)) (r : Lists all entries (suc n) (map (λ (q : S × InputCame). q.1) pairs)) (j : ℕ) → list_at (d.items ∷ r.lists) j ≡ own (n + j) entries ++ rest_by d.rest r.rests j
      begin d r zero = at_first d.items r.lists ∙ (d.whole ∙ ap (λ m. own m entries ++ d.rest) (sym (add-zero n)))
      begin d r (suc j) = at_next d.items r.lists j ∙ (r.begins j ∙ ap (λ m. own m entries ++ r.rests j) (let e : suc n + j ≡ n + suc j = omega arith in e))

      fulled : (d : Decoded all entries n p.1.given (end_or x.end)) (r : Lists all entries (suc n) (map (λ (q : S × InputCame). q.1) pairs)) (j : ℕ) → is_cut_short (p.1 ∷ map (λ (q : S × InputCame). q.1) pairs) j ≡ false → rest_by d.rest r.rests j ≡ []
      fulled d r zero s = d.full (ap (λ (c : InputCame). wants_memory c.end) (sym e.0.is) ∙ not_first (wants_memory p.1.end) false s)
      fulled d r (suc j) s = r.full j s

-- ---- what holds of the lists of arrivals

by_input : (all : Inputs) (n : ℕ) (given : List (List Scripted)) (j : ℕ) → AllByRecursion (λ (a : Arrival (List ℕ)). input_of a ≡ n + j) (list_at (arrivals_from all n given) j)
by_input all n [] j = tt
by_input all n (g ∷ given) zero = subst (λ m. AllByRecursion (λ (a : Arrival (List ℕ)). input_of a ≡ m) (arrivals_of (all n) n g)) (sym (add-zero n)) (all_own (all n) n g)
by_input all n (g ∷ given) (suc j) =
    subst (λ l. AllByRecursion (λ (a : Arrival (List ℕ)). input_of a ≡ n + suc j) l) (sym (at_next (arrivals_of (all n) n g) (arrivals_from all (n + 1) given) j))
    (subst (λ m. AllByRecursion (λ (a : Arrival (List ℕ)). input_of a ≡ m) (list_at (arrivals_from all (n + 1) given) j)) (let e : (n + 1) + j ≡ n + suc j = omega arith in e) (by_input all (n + 1) given j))

pub are_by_input : (all : Inputs) (given : List (List Scripted)) → AreByInput (arrivals_from all 0 given)
are_by_input all given j = subst (λ m. AllByRecursion (λ (a : Arrival (List ℕ)). input_of a ≡ m) (list_at (arrivals_from all 0 given) j)) (let e : 0 + j ≡ j = omega arith in e) (by_input all 0 given j)

-- as many items as arrivals, list by list
pub lengths : (all : Inputs) (lists : List (List (Arrival (List ℕ)))) (items : List (List Item)) → AreEachDecoded all lists items → (j : ℕ) → length (list_at items j) ≡ length (list_at lists j)
lengths all [] [] d j = refl
lengths all [] (i ∷ items) d j = absurd d
lengths all (l ∷ lists) [] d j = absurd d
lengths all (l ∷ lists) (i ∷ items) d zero = decoded_length all l i d.0
lengths all (l ∷ lists) (i ∷ items) d (suc j) = ap length (at_next i items j) ∙ (lengths all lists items d.1 j ∙ ap length (sym (at_next l lists j)))

-- the order of entries takes no more of each list than there is
pub partial : (all : Inputs) (entries : List Entry) (arrivals : List (List (Arrival (List ℕ)))) (lists : List (List Item)) → AreEachDecoded all arrivals lists → Begins lists entries → IsPartial (order_of entries) arrivals
partial all entries arrivals lists d b k =
    let e = lengths all arrivals lists d k in
    let t = times_own k entries in
    let f : length (list_at lists k) ≡ length (own k entries) + length (b k).0 = ap length (b k).1 ∙ length-append (own k entries) (b k).0 in
    omega arith

-- and all where nothing is left of it
pub whole : (all : Inputs) (entries : List Entry) (arrivals : List (List (Arrival (List ℕ)))) (lists : List (List Item)) → AreEachDecoded all arrivals lists → (k : ℕ) (rest : List Item) → list_at lists k ≡ own (0 + k) entries ++ rest → rest ≡ []
    → times k (order_of entries) ≡ length (list_at arrivals k)
whole all entries arrivals lists d k rest is none =
    let e = lengths all arrivals lists d k in
    let t = times_own k entries in
    let f : length (list_at lists k) ≡ length (own (0 + k) entries) + length rest = ap length is ∙ length-append (own (0 + k) entries) rest in
    let g : length rest ≡ 0 = ap length none in
    let z : length (own (0 + k) entries) ≡ length (own k entries) = ap (λ m. length (own m entries)) (let s : 0 + k ≡ k = omega arith in s) in
    omega arith

pub begins_of : (all : Inputs) (entries : List Entry) (cames : List InputCame) (l : Lists all entries 0 cames) → Begins l.lists entries
begins_of all entries cames l k = (l.rests k, l.begins k ∙ ap (λ m. own m entries ++ l.rests k) (let e : 0 + k ≡ k = omega arith in e))
