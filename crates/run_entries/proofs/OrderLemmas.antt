-- What comes to an output of entries, and in which order the arrivals were taken.
use Rattle.std.proofs.Common.{◌≡◌, ℕ, Bool, true, false, List, [], ◌∷◌, ◌++◌, Option, length, take, drop, refl, ap, sym, subst, ◌∙◌, arith, append-nil, append_assoc}
use Rattle.std.specs.Prelude.{is_some, ◌||◌, Option}
use Rattle.std.specs.List.{list_any}
use Rattle.std.proofs.lemmas.List.{map-append}
use Rattle.config_spec.specs.declared.conf.Conf.{Conf}
use Rattle.arrival_spec.specs.Arrival.{Arrival}
use Rattle.run_spec.specs.Merge.{IsPartial, merged, times}
use Rattle.run_spec.specs.Work.{AreDecodedTo}
use Rattle.run_spec.proofs.EachLemmas.{each_decoded}
use Rattle.result_spec.specs.Result.{ComeTo, arrivals_from, inputs_of}
use Rattle.result_spec.specs.Through.{through}
use Rattle.call_spec.specs.Came.{InputCame, RunCame}
use Rattle.call_spec.specs.Leaves.{IsOrder}
use Rattle.call_spec.specs.Ends.{wants_memory}
use Rattle.arrival_spec.specs.declared.event.Scripted.{Scripted}
use Rattle.run_input.specs.declared.input.Input.{Input}
use Rattle.logged_outputs.specs.Entries.{Entry, items_in, order_of}
use Rattle.run_entries.specs.Came.{AreEntriesOf}
use Rattle.run_entries.proofs.MergeLemmas.{front_begins, merge}
use Rattle.run_entries.proofs.ListLemmas.{Lists, are_by_input, begins_of, givens, lists_of, partial, whole}

module _ (conf : Conf) (front rest : List Entry) (cames : List InputCame) (l : Lists (inputs_of conf) (front ++ rest) 0 cames) where
  abbrev Arrivals : List (List (Arrival (List ℕ)))
  Arrivals = arrivals_from (inputs_of conf) 0 (givens cames)

  -- the first entries are an order of arrivals, with the next one too
  pub order_partial : IsPartial (order_of front) Arrivals
  order_partial = partial (inputs_of conf) front Arrivals l.lists l.decoded (front_begins l.lists front rest (begins_of (inputs_of conf) (front ++ rest) cames l))

  -- and their items are what comes to an output of the arrivals in this order
  pub order_items : (j : ℕ) → ComeTo conf (givens cames) (order_of front) j (through conf j (items_in front))
  order_items j = (
    items_in front,
    subst (AreDecodedTo (inputs_of conf) (merged (order_of front) Arrivals)) (merge l.lists front (front_begins l.lists front rest (begins_of (inputs_of conf) (front ++ rest) cames l)))
        (each_decoded (inputs_of conf) (order_of front) Arrivals l.lists order_partial (are_by_input (inputs_of conf) (givens cames)) l.decoded),
    refl,
  )

or_false : (a b : Bool) → (a || b) ≡ false → (a ≡ false) × (b ≡ false)
or_false true b e = absurd cc
or_false false b e = (refl, e)

pub next_partial : (conf : Conf) (front : List Entry) (x : Entry) (more : List Entry) (cames : List InputCame) → Lists (inputs_of conf) (front ++ x ∷ more) 0 cames → IsPartial (order_of front ++ x.input ∷ []) (arrivals_from (inputs_of conf) 0 (givens cames))
next_partial conf front x more cames l =
    subst (λ o. IsPartial o (arrivals_from (inputs_of conf) 0 (givens cames))) (map-append (λ (y : Entry). y.input) front (x ∷ []))
    (order_partial conf (front ++ x ∷ []) more cames (subst (λ e. Lists (inputs_of conf) e 0 cames) (sym (append_assoc front (x ∷ []) more)) l))

-- the order of a run: the first arrivals of each input, and all unless it wanted memory or the log ended
pub is_order : (conf : Conf) (run : RunCame) (front rest : List Entry) → Lists (inputs_of conf) (front ++ rest) 0 run.inputs → run.order ≡ order_of front → (is_some run.log ≡ false → rest ≡ []) → IsOrder run (arrivals_from (inputs_of conf) 0 (givens run.inputs))
is_order conf run front rest l is none = record {
  first = subst (λ o. IsPartial o (arrivals_from (inputs_of conf) 0 (givens run.inputs))) (sym is) (order_partial conf front rest run.inputs l);
  all = λ k s.
      let parts = or_false (is_some run.log) (list_any (λ (c : InputCame). wants_memory c.end) (take 1 (drop k run.inputs))) s in
      let all : Lists (inputs_of conf) front 0 run.inputs = subst (λ e. Lists (inputs_of conf) e 0 run.inputs) (ap (λ r. front ++ r) (none parts.0) ∙ append-nil front) l in
      ap (times k) is ∙ whole (inputs_of conf) front (arrivals_from (inputs_of conf) 0 (givens run.inputs)) all.lists all.decoded k (all.rests k) (all.begins k) (all.full k parts.1);
}

-- the lists of a run
pub run_lists : {S : Type 0} (left : S → Option (List Scripted)) (faults : S → ℕ) (conf : Conf) (run : RunCame) (entries : List Entry) (xs : List (Input S)) → AreEntriesOf left faults conf run entries xs → Lists (inputs_of conf) entries 0 run.inputs
run_lists {S} left faults conf run entries xs e =
    subst (λ (cames : List InputCame). Lists (inputs_of conf) entries 0 cames) (sym e.came) (lists_of left faults (inputs_of conf) entries 0 (length xs) e.firsts xs (omega arith) e.known e.ended e.each)
