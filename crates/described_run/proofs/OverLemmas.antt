-- A run over what was opened: how many inputs and sinks there are, and what came of it.
use Rattle.std.proofs.Common.{◌≡◌, inr, ℕ, suc, ◌+◌, ◌≤◌, true, List, [], ◌∷◌, Option, Some, None, length, map, refl, ap, sym, subst, ◌∙◌, arith}
use Rattle.std.specs.Prelude.{All, is_some}
use Rattle.std.specs.List.{AllByRecursion, list_all}
use Rattle.std.proofs.lemmas.List.{length-map}
use Rattle.std.proofs.lemmas.List.Elements.{All-from_recursion}
use Rattle.arrival_spec.specs.declared.event.Scripted.{Scripted}
use Rattle.config_spec.specs.declared.conf.Conf.{Conf}
use Rattle.config_spec.specs.declared.conf.InputConf.{InputConf}
use Rattle.config_spec.specs.declared.conf.OutputConf.{OutputConf}
use Rattle.config_spec.specs.declared.conf.StageWork.{StageWork}
use Rattle.text_spec.specs.declared.element.Element.{Element}
use Rattle.run_spec.specs.Work.{Item}
use Rattle.result_spec.specs.Result.{inputs_of}
use Rattle.site_io.specs.Seen.{Seen}
use Rattle.call_spec.specs.Came.{Party}
use Rattle.call_spec.specs.Came.Refusal.{NoMemory}
use Rattle.call_spec.specs.Leaves.{at_of, log_and, sink_names}
use Rattle.call_spec.specs.Pairs.{Each}
use Rattle.call_spec.proofs.NameLemmas.{none_after}
use Rattle.call_spec.proofs.PairLemmas.{same_length}
use Rattle.call_spec.specs.Plan.{described_parties, output_party}
use Rattle.logged_outputs.specs.declared.logged.LoggedOutputs.{LoggedOutputs}
use Rattle.logged_outputs.specs.declared.output.Output.{Output}
use Rattle.logged_outputs.specs.Entries.{items_in}
use Rattle.logged_outputs.specs.Logged.{Took}
use Rattle.stage_chain.specs.Behind.{works_of}
use Rattle.run_input.specs.declared.input.Input.{Input}
use Rattle.run_input.specs.Inputs.{HasGiven, IsRight}
use Rattle.input_turns.specs.Turns.{Follows, InputSoFar}
use Rattle.run_entries.proofs.EndLemmas.{none_yet}
use Rattle.run_lines.specs.declared.ended.Ended.{Ended}
use Rattle.site_openings.specs.All.{AreOut, IsRefused}
use Rattle.site_openings.specs.Out.{AreDistinct, Begins}
use Rattle.site_openings.specs.Places.{all_left, place_faults, place_left, place_openings, place_out, places_of, SourcesBack}
use Rattle.site_openings.specs.Sinks.{nothing_held, sink_faults, sink_held, sink_openings, sink_out, SinksBack}
use Rattle.run_inputs.specs.Made.{AreMade, sources_of}
use Rattle.run_came.specs.Ran.{HandedOn, IsNew, sinks_of}
use Rattle.run_came.specs.Told.{CameToRun, IsNoted}
use Rattle.run_came.proofs.OutputLemmas.{none_taken, nows_long}
use Rattle.run_came.proofs.RunLemmas.{came_to}
use Rattle.run_came.proofs.SinkLemmas.{as_many}

-- there is a sink for each output, and one for the log, if there is a log
names_long : (path : Option (List ℕ)) (names : List (List ℕ)) → (length names ≤ length (log_and path names)) × (length (log_and path names) ≤ length names + 1)
names_long None names = (omega arith, omega arith)
names_long (Some p) names = (omega arith, omega arith)

module _ {S : Type 0} (left : S → Option (List Scripted)) (faults : S → ℕ) (conf : Conf) where
  -- inputs that gave nothing yet are right
  right_from : (n : ℕ) (firsts : List S) (xs : List (Input S)) → Each (λ k first x. HasGiven left faults first (inputs_of conf k) k [] [] x) n firsts xs → AllByRecursion (IsRight left faults) xs
  right_from n [] [] e = tt
  right_from n [] (x ∷ xs) e = absurd e
  right_from n (f ∷ firsts) [] e = absurd e
  right_from n (f ∷ firsts) (x ∷ xs) e = (record { first = f; settings = inputs_of conf n; number = n; given = []; read = []; has = e.0 }, right_from (suc n) firsts xs e.1)

  pub all_right : (firsts : List S) (xs : List (Input S)) → AreMade left faults conf firsts xs → All (IsRight left faults) xs
  all_right firsts xs e = All-from_recursion (IsRight left faults) xs (right_from 0 firsts xs e)

-- memory was wanted before anything was opened
pub nothing_tried : {S : Type 0} (left : S → Option (List Scripted)) (faults : S → ℕ) (conf : Conf) (a : Seen) → IsRefused left faults conf NoMemory a a
nothing_tried left faults conf a = (
  0,
  0,
  (λ rows. record {
    texts = λ p. record { octets = refl; faults = refl };
    places = λ p. record { out = refl; openings = sym (none_after (a.place p).openings); faults = refl; same = λ _. refl };
    sinks = λ p. record { out = refl; openings = sym (none_after (a.sink p).openings); faults = refl; same = λ _. refl };
    leaves = ((omega arith, omega arith, inr refl), (λ p events is. is), λ p. refl);
  }),
  refl,
)

module _ {S T K : Type 0} (left : S → Option (List Scripted)) (faults : S → ℕ) (stands : OutputConf → List Element → List Item → T → Type 0) (held : K → Option (List ℕ)) (total : K → Option ℕ) (own_faults : K → ℕ) (conf : Conf) where
  -- new inputs that were asked until they had ended handed on what they gave
  pub handed_on : (works : List StageWork) (texts : List T) (firsts : List S) (sinks : List K) (xs now_xs : List (Input S)) (first now : LoggedOutputs T K) → works ≡ works_of conf.stages → AreMade left faults conf firsts xs
      → IsNew held own_faults sinks works texts first → list_all (λ (x : Input S). is_some x.end) now_xs ≡ true → Follows left faults (Took stands held total own_faults) xs now_xs first now
      → HandedOn left faults stands held total own_faults conf texts firsts sinks now_xs now
  handed_on works texts firsts sinks xs now_xs first now are e n ended f = record {
    entries = f.0;
    so_far = f.1 (inputs_of conf) firsts [] (none_yet left faults (inputs_of conf) firsts xs e);
    ended = ended;
    first = first;
    is_new = subst (λ (l : List StageWork). IsNew held own_faults sinks l texts first) are n;
    took = f.2 first [] (none_taken stands held total own_faults sinks works texts first n);
  }

  module _ (names : List (List ℕ)) (named : names ≡ sink_names (described_parties conf)) (firsts : List S) (sinks : List K) (old opened : Seen) (out : AreOut left faults held own_faults conf firsts sinks old opened) where
    pub sinks_long : length sinks ≡ length names
    sinks_long = sym (ap length named ∙ same_length (Begins sink_held sink_faults sink_openings sink_out held own_faults nothing_held out.0.sink) 0 (sink_names (described_parties conf)) sinks out.2.all.each)

    pub sinks_enough : (length conf.outputs ≤ length sinks) × (length sinks ≤ length conf.outputs + 1)
    sinks_enough =
        let enough = names_long conf.order_log (at_of (map output_party conf.outputs)) in
        let few = length-map (map output_party conf.outputs) (λ (p : Party). p.at) ∙ length-map conf.outputs output_party in
        let long = sinks_long ∙ ap length named in
        (omega (arith, enough.0, few, long), omega (arith, enough.1, few, long))

    pub sources_long : length firsts ≡ length conf.inputs
    sources_long =
        sym (same_length (Begins place_left place_faults place_openings place_out left faults all_left old.place) 0 (places_of conf.inputs) firsts out.1.all.each) ∙ length-map conf.inputs (λ (c : InputConf). c.spec.place)

    module _ (texts : List T) (few : length texts ≡ length conf.outputs) (xs : List (Input S)) (taker : LoggedOutputs T K) (h : HandedOn left faults stands held total own_faults conf texts firsts sinks xs taker) where
      pub inputs_long : length xs ≡ length conf.inputs
      inputs_long = sym (same_length (InputSoFar left faults (inputs_of conf) h.entries) 0 firsts xs h.so_far.each) ∙ sources_long

      as_before : length taker.outputs.outputs.items ≡ length h.first.outputs.outputs.items
      as_before =
          nows_long stands held total own_faults conf.stages (items_in h.took.front) h.first.outputs.outputs.items taker.outputs.outputs.items taker.outputs.wanting
          (h.took.written.went conf.stages (sym h.is_new.behind))

      pub outputs_long : length taker.outputs.outputs.items ≡ length conf.outputs
      outputs_long = as_before ∙ (sym (length-map h.first.outputs.outputs.items (λ (o : Output T K). o.texts)) ∙ (ap length h.is_new.make ∙ few))

      pub sinks_as_many : length (sinks_of taker) ≡ length names
      sinks_as_many =
          as_many held own_faults h.took.front h.took.rest h.is_new.log_sink h.first.log taker.log h.first.outputs.outputs.items taker.outputs.outputs.items as_before h.is_new.log h.took.logged
          ∙ (ap length (sym h.is_new.over) ∙ sinks_long)

      -- all was given back
      pub over : (ended : Ended) (half_closed new : Seen) → AreDistinct names → SinksBack held own_faults names (sinks_of taker) opened half_closed → SourcesBack left faults (places_of conf.inputs) (sources_of xs) half_closed new → IsNoted (length conf.stages) xs taker ended
          → CameToRun left faults stands conf texts ended old new
      over ended half_closed new distinct k r noted =
          came_to left faults stands held total own_faults conf texts xs taker ended old new few (subst AreDistinct named distinct)
          (record {
            sources = firsts;
            sinks = sinks;
            all_open = opened;
            out = out;
            half_closed = half_closed;
            handed = h;
            sinks_back = subst (λ (l : List (List ℕ)). SinksBack held own_faults l (sinks_of taker) opened half_closed) named k;
            sources_back = r;
          })
          noted
