-- The counts of a run, from those of its inputs.
use Rattle.std.proofs.Common.{◌≡◌, ℕ, suc, ◌+◌, Bool, true, false, List, [], ◌∷◌, Option, Some, None, map, refl, ap, sym, subst, ◌∙◌, arith}
use Rattle.std.specs.Prelude.{is_some, ◌||◌}
use Rattle.std.specs.List.{list_all, list_any}
use Rattle.std.proofs.lemmas.Bool.{and_parts}
use Rattle.arrival_spec.specs.declared.event.Scripted.{Scripted}
use Rattle.arrival_spec.specs.Run.{arrivals_of, marks_of}
use Rattle.arrival_spec.proofs.EachLemmas.{all_own}
use Rattle.run_spec.specs.Read.{ReadArrival}
use Rattle.run_spec.specs.Judge.{Inputs}
use Rattle.run_spec.specs.Work.{works_of}
use Rattle.count_spec.specs.Counts.{Counts, counts}
use Rattle.count_spec.specs.More.{added}
use Rattle.count_spec.specs.Run.{AreCountsFrom, AreCountsOf}
use Rattle.call_spec.specs.Pairs.{Each}
use Rattle.call_spec.specs.declared.end.InputEnd.{InputEnd}
use Rattle.call_spec.specs.declared.end.InputEnd.TheVariants as end
use Rattle.config_spec.specs.declared.conf.Conf.{Conf}
use Rattle.result_spec.specs.Result.{inputs_of}
use Rattle.call_spec.specs.Came.{InputCame, RunCame}
use Rattle.call_spec.specs.Leaves.{given_of}
use Rattle.call_spec.specs.Ends.{wants_memory}
use Rattle.pipeline_message.specs.declared.run_counts.RunCounts.{RunCounts}
use Rattle.pipeline_message.specs.Shown.{shown_counts}
use Rattle.run_input.specs.declared.input.Input.{Input}
use Rattle.run_input.specs.Inputs.{CountsAll}
use Rattle.run_input.specs.Standing.{IsDone, StandsBy}
use Rattle.run_input.specs.Sums.{both_counts}
use Rattle.run_input.proofs.SumLemmas.{both_shown}
use Rattle.logged_outputs.specs.Entries.{Entry}
use Rattle.run_entries.specs.Came.{AreEntriesOf, InputCameTo, end_or}
use Rattle.run_entries.specs.Totals.{sums}
use Rattle.run_entries.proofs.AlikeLemmas.{counts_alike, own_read}
use Rattle.run_entries.proofs.ListLemmas.{givens}

or_false : (a b : Bool) → (a || b) ≡ false → (a ≡ false) × (b ≡ false)
or_false true b e = absurd cc
or_false false b e = (refl, e)

-- the counts of inputs, added up, are those of a run
pub record Total (all : Inputs) (n : ℕ) (given : List (List Scripted)) (total : RunCounts) : Type 0 where
  pub counts_of : Counts
  pub are : AreCountsFrom all n given counts_of
  pub shown : total ≡ shown_counts counts_of

module _ {S : Type 0} (left : S → Option (List Scripted)) (faults : S → ℕ) (all : Inputs) (entries : List Entry) where
  -- the counts of an input that worked all off
  done_counted : (k : ℕ) (given : List Scripted) (read : List ReadArrival) (x : Input S) (c : RunCounts) → CountsAll x c → IsDone (all k) k given read x.inlet.lane x.parser → (own : Counts) × AreCountsOf all k given own × (c ≡ shown_counts own)
  done_counted k given read x c counted d =
      let mine = own_read k (arrivals_of (all k) k given) read d.are_read (all_own (all k) k given) in
      let marks = marks_of (all k) k given in
      (counts all marks (works_of all read), (read, d.are_read, refl), counted (all k) k given read d ∙ ap shown_counts (counts_alike all k marks read mine))

  input_counted : (k : ℕ) (given : List Scripted) (read : List ReadArrival) (x : Input S) (c : RunCounts) (o : Option InputEnd) → is_some o ≡ true → wants_memory (end_or o) ≡ false → CountsAll x c → StandsBy o (all k) k given read x.inlet.lane x.parser
      → (own : Counts) × AreCountsOf all k given own × (c ≡ shown_counts own)
  input_counted k given read x c None some calm_all counted s = absurd cc
  input_counted k given read x c (Some end.End) some calm_all counted s = done_counted k given read x c counted s.0
  input_counted k given read x c (Some end.Failed) some calm_all counted s = done_counted k given read x c counted s.0
  input_counted k given read x c (Some end.Limit) some calm_all counted s = absurd s
  input_counted k given read x c (Some end.Memory) some calm_all counted s = absurd cc

  pub all_counted : (n m : ℕ) (pairs : List (S × InputCame)) (xs : List (Input S)) (cs : List RunCounts) → Each (InputCameTo left faults all entries) n pairs xs → list_all (λ (x : Input S). is_some x.end) xs ≡ true
      → list_any (λ (c : InputCame). wants_memory c.end) (map (λ (p : S × InputCame). p.1) pairs) ≡ false → Each (λ _ (x : Input S) c. CountsAll x c) m xs cs → Total all n (givens (map (λ (p : S × InputCame). p.1) pairs)) (sums cs)
  all_counted n m [] [] [] e ended calm_all counted = record { counts_of = counts all [] []; are = refl; shown = refl }
  all_counted n m [] [] (c ∷ cs) e ended calm_all counted = absurd counted
  all_counted n m [] (x ∷ xs) cs e ended calm_all counted = absurd e
  all_counted n m (p ∷ pairs) [] cs e ended calm_all counted = absurd e
  all_counted n m (p ∷ pairs) (x ∷ xs) [] e ended calm_all counted = absurd counted
  all_counted n m (p ∷ pairs) (x ∷ xs) (c ∷ cs) e ended calm_all counted =
      let both = and_parts (is_some x.end) (list_all (λ (y : Input S). is_some y.end) xs) ended in
      let parts = or_false (wants_memory p.1.end) (list_any (λ (d : InputCame). wants_memory d.end) (map (λ (q : S × InputCame). q.1) pairs)) calm_all in
      let calm : wants_memory (end_or x.end) ≡ false = ap (λ (d : InputCame). wants_memory d.end) (sym e.0.is) ∙ parts.0 in
      let first = input_counted n p.1.given e.0.read x c x.end both.0 calm counted.0 e.0.has.stands in
      let rest = all_counted (suc n) (suc m) pairs xs cs e.1 both.1 parts.1 counted.1 in
      record {
        counts_of = added first.0 rest.counts_of;
        are = (first.0, rest.counts_of, first.1, subst (λ k. AreCountsFrom all k (givens (map (λ (q : S × InputCame). q.1) pairs)) rest.counts_of) (let e : suc n ≡ n + 1 = omega arith in e) rest.are, refl);
        shown = (λ i. both_counts (first.2 i) (rest.shown i)) ∙ both_shown first.0 rest.counts_of;
      }

pub run_counts : {S : Type 0} (left : S → Option (List Scripted)) (faults : S → ℕ) (conf : Conf) (run : RunCame) (entries : List Entry) (xs : List (Input S)) (cs : List RunCounts) → AreEntriesOf left faults conf run entries xs
    → list_any (λ (c : InputCame). wants_memory c.end) run.inputs ≡ false → Each (λ _ (x : Input S) c. CountsAll x c) 0 xs cs → (c : Counts) × AreCountsFrom (inputs_of conf) 0 (given_of run) c × (sums cs ≡ shown_counts c)
run_counts {S} left faults conf run entries xs cs e calm_all counted =
    let t = all_counted left faults (inputs_of conf) entries 0 0 e.firsts xs cs e.each e.ended (subst (λ (l : List InputCame). list_any (λ (c : InputCame). wants_memory c.end) l ≡ false) e.came calm_all) counted in
    subst (λ (l : List InputCame). (c : Counts) × AreCountsFrom (inputs_of conf) 0 (givens l) c × (sums cs ≡ shown_counts c)) (sym e.came) (t.counts_of, t.are, t.shown)
