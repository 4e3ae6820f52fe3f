-- What a run over what was opened comes to, before its sources and sinks go back.
use Rattle.std.proofs.Common.{◌≡◌, ℕ, suc, ◌≤◌, Bool, false, List, [], ◌∷◌, ◌++◌, Option, Some, None, length, map, refl, ap, sym, subst, ◌∙◌, arith, append_assoc}
use Rattle.std.specs.Prelude.{MatchOption, is_some}
use Rattle.std.proofs.lemmas.List.{length-append, length-map}
use Rattle.arrival_spec.specs.declared.event.Scripted.{Scripted}
use Rattle.config_spec.specs.declared.conf.Conf.{Conf}
use Rattle.config_spec.specs.declared.conf.OutputConf.{OutputConf}
use Rattle.text_spec.specs.declared.element.Element.{Element}
use Rattle.run_spec.specs.Work.{Item}
use Rattle.result_spec.specs.Result.{ComeTo, ExceedsFor, held_for, inputs_of, text_for}
use Rattle.result_spec.specs.Through.{items_for, items_through, through}
use Rattle.call_spec.specs.Came.{InputCame, Party, RunCame}
use Rattle.call_spec.specs.Leaves.{CountsOf, IsOrder, arrivals_in, given_of, stage_wants}
use Rattle.call_spec.specs.Pairs.{Each}
use Rattle.call_spec.proofs.PairLemmas.{same_length}
use Rattle.logged_outputs.specs.declared.logged.LoggedOutputs.{LoggedOutputs}
use Rattle.logged_outputs.specs.declared.output.Output.{Output}
use Rattle.logged_outputs.specs.Behind.{AllHave, CutShort}
use Rattle.logged_outputs.specs.Entries.{AreKnown, items_in, order_of}
use Rattle.logged_outputs.specs.Logged.{Took}
use Rattle.run_input.specs.declared.input.Input.{Input}
use Rattle.input_turns.specs.Turns.{InputSoFar}
use Rattle.run_entries.specs.Came.{AreEntriesOf, InputCameTo, end_or}
use Rattle.run_entries.proofs.CameLemmas.{all_came}
use Rattle.run_entries.proofs.CountLemmas.{run_counts}
use Rattle.run_entries.proofs.OrderLemmas.{is_order, next_partial, order_items, run_lists}
use Rattle.run_lines.specs.declared.ended.Ended.{Ended}
use Rattle.run_lines.specs.Rows.{meant_counts}
use Rattle.run_came.specs.Ends.{log_fault, wanting}
use Rattle.run_came.specs.Ran.{HandedOn}
use Rattle.run_came.specs.Told.{IsNoted, TellsRun}
use Rattle.run_came.proofs.InputLemmas.{ends_same}
use Rattle.run_came.proofs.OutputLemmas.{AllWent, all_went, nows_long, wanting_long}

module _ {S T K : Type 0} (left : S → Option (List Scripted)) (faults : S → ℕ) (stands : OutputConf → List Element → List Item → T → Type 0) (held : K → Option (List ℕ)) (total : K → Option ℕ) (own_faults : K → ℕ)
    (conf : Conf) (texts : List T) (sources : List S) (sinks : List K) (xs : List (Input S)) (taker : LoggedOutputs T K) (ended : Ended) (handed : HandedOn left faults stands held total own_faults conf texts sources sinks xs taker) where
  abbrev firsts : List (Output T K)
  firsts = handed.first.outputs.outputs.items

  abbrev nows : List (Output T K)
  nows = taker.outputs.outputs.items

  abbrev Came : Type 0
  Came = (pairs : List (S × InputCame)) × Each (InputCameTo left faults (inputs_of conf) handed.entries) 0 pairs xs × (map (λ (p : S × InputCame). p.0) pairs ≡ sources)

  pub came : Came
  came = all_came left faults (inputs_of conf) handed.entries 0 sources xs handed.so_far.each

  abbrev pub cames : List InputCame
  cames = map (λ (p : S × InputCame). p.1) came.0

  abbrev took : Took stands held total own_faults handed.entries handed.first taker
  took = handed.took

  abbrev pub run : RunCame
  run = record {
    inputs = cames;
    order = order_of took.front;
    log = log_fault taker.log;
    stages = wanting (length conf.stages) taker.outputs.wanting;
    outputs = map (λ (o : Output T K). o.fault) nows;
    counts = meant_counts ended.counts;
  }

  pub as_many : length xs ≡ length sources
  as_many = sym (same_length (InputSoFar left faults (inputs_of conf) handed.entries) 0 sources xs handed.so_far.each)

  pub entries_are : AreEntriesOf left faults conf run (took.front ++ took.rest) xs
  entries_are = subst (λ l. AreEntriesOf left faults conf run l xs) took.whole (record {
    firsts = came.0;
    each = came.1;
    came = refl;
    known = subst (λ n. AreKnown n handed.entries) (sym as_many) handed.so_far.known;
    ended = handed.ended;
  })

  pub ordered : (is_some (log_fault taker.log) ≡ false → took.rest ≡ []) → IsOrder run (arrivals_in conf run)
  ordered none_left = is_order conf run took.front took.rest (run_lists left faults conf run (took.front ++ took.rest) xs entries_are) refl none_left

  pub come : (j : ℕ) → ComeTo conf (given_of run) (order_of took.front) j (through conf j (items_in took.front))
  come j = order_items conf took.front took.rest cames (run_lists left faults conf run (took.front ++ took.rest) xs entries_are) j

  pub counted : IsNoted (length conf.stages) xs taker ended → CountsOf conf run
  counted noted calm_all =
      let c = noted.counts in
      let t = run_counts left faults conf run (took.front ++ took.rest) xs c.0 entries_are calm_all c.1 in
      (t.0, t.1, ap meant_counts (c.2 ∙ t.2))

  -- ---- outputs

  pub went : MatchOption taker.outputs.wanting (AllHave stands held total own_faults (items_through conf.stages (items_in took.front)) firsts nows) (CutShort stands held total own_faults conf.stages (items_in took.front) firsts nows)
  went = took.written.went conf.stages (sym handed.is_new.behind)

  pub all_wrote : AllWent stands held total own_faults (stage_wants run) (items_through conf.stages (items_in took.front)) firsts nows
  all_wrote = all_went stands held total own_faults conf.stages (items_in took.front) firsts nows taker.outputs.wanting went

  pub stages_long : length run.stages ≡ length conf.stages
  stages_long = wanting_long (length conf.stages) taker.outputs.wanting

  module _ (long : length texts ≡ length conf.outputs) where
    pub firsts_long : length firsts ≡ length conf.outputs
    firsts_long = sym (length-map firsts (λ (o : Output T K). o.texts)) ∙ (ap length handed.is_new.make ∙ long)

    pub outputs_long : length nows ≡ length conf.outputs
    outputs_long = nows_long stands held total own_faults conf.stages (items_in took.front) firsts nows taker.outputs.wanting went ∙ firsts_long

    pub tells : IsNoted (length conf.stages) xs taker ended → length sources ≡ length conf.inputs → TellsRun conf run ended
    tells noted sources_long = record {
      inputs = noted.inputs ∙ ends_same left faults conf handed.entries 0 came.0 xs came.1;
      log = noted.log;
      stages = noted.stages_are;
      outputs = noted.outputs;
      counts = refl;
      inputs_long = ap length noted.inputs ∙ (length-map xs (λ (x : Input S). end_or x.end) ∙ (as_many ∙ sources_long));
      stages_long = ap length noted.stages_are ∙ stages_long;
      outputs_long = ap length noted.outputs ∙ (length-map nows (λ (o : Output T K). o.fault) ∙ outputs_long);
    }
