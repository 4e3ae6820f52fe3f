-- What a whole run over a Site comes to.
use Rattle.std.proofs.Common.{◌≡◌, ℕ, suc, ◌≤◌, Bool, false, List, [], ◌∷◌, ◌++◌, Option, Some, None, length, map, refl, ap, sym, subst, ◌∙◌, arith, append_assoc}
use Rattle.std.specs.Prelude.{MatchOption, nat_lt, slice_get}
use Rattle.std.proofs.lemmas.List.{length-append, length-map}
use Rattle.arrival_spec.specs.declared.event.Scripted.{Scripted}
use Rattle.config_spec.specs.declared.conf.Conf.{Conf}
use Rattle.config_spec.specs.declared.conf.InputConf.{InputConf}
use Rattle.config_spec.specs.declared.conf.OutputConf.{OutputConf}
use Rattle.config_spec.specs.declared.conf.StageConf.{StageConf}
use Rattle.text_spec.specs.declared.element.Element.{Element}
use Rattle.run_spec.specs.Work.{Item}
use Rattle.result_spec.specs.Result.{ComeTo, ExceedsFor, held_for, inputs_of, text_for}
use Rattle.result_spec.specs.Through.{items_for, items_through, through}
use Rattle.site_io.specs.declared.outside.OutsideFault.{OutsideFault}
use Rattle.site_io.specs.Seen.{PlaceSeen, Seen, SinkSeen, TextSeen}
use Rattle.call_spec.specs.Came.{InputCame, Party, RunCame}
use Rattle.call_spec.specs.Came.Came.{Ran}
use Rattle.call_spec.specs.Counts.{PlaceKept, SinkKept, TextKept}
use Rattle.call_spec.specs.declared.end.OutputFault.{OutputFault}
use Rattle.call_spec.specs.Ends.{EndsOutput, Holds, HoldsBy, has_failed, output_failed}
use Rattle.call_spec.specs.Leaves.{Comes, Gave, HoldsResult, IsCounted, arrivals_in, at_of, beside, given_of, log_and, sink_names, stage_wants}
use Rattle.call_spec.specs.Log.{HoldsLog}
use Rattle.call_spec.specs.Names.{has, marked, times}
use Rattle.call_spec.specs.Pairs.{Each}
use Rattle.call_spec.proofs.NameLemmas.{members}
use Rattle.call_spec.proofs.PairLemmas.{same_length}
use Rattle.call_spec.specs.Plan.{described_parties, input_party, output_party}
use Rattle.call_spec.specs.Plan.Plan.{Described}
use Rattle.logged_outputs.specs.declared.logged.LoggedOutputs.{LoggedOutputs}
use Rattle.logged_outputs.specs.declared.output.Output.{Output}
use Rattle.logged_outputs.specs.Behind.{AllHave, CutShort}
use Rattle.logged_outputs.specs.Entries.{Entry, items_in, order_of}
use Rattle.logged_outputs.specs.Logged.{Took}
use Rattle.run_input.specs.declared.input.Input.{Input}
use Rattle.input_turns.specs.Turns.{InputSoFar}
use Rattle.run_entries.specs.Came.{AreEntriesOf, InputCameTo}
use Rattle.run_entries.proofs.CameLemmas.{all_came}
use Rattle.run_entries.proofs.CountLemmas.{run_counts}
use Rattle.run_entries.proofs.OrderLemmas.{is_order, next_partial, order_items, run_lists}
use Rattle.run_lines.specs.declared.ended.Ended.{Ended}
use Rattle.run_lines.specs.Rows.{meant_counts}
use Rattle.site_openings.specs.Out.{AreDistinct, Begins, Shows}
use Rattle.site_openings.specs.Places.{all_left, place_faults, place_left, place_openings, place_out, places_of}
use Rattle.site_openings.specs.Sinks.{nothing_held, sink_faults, sink_held, sink_openings, sink_out}
use Rattle.run_came.specs.Ends.{log_fault, wanting}
use Rattle.run_inputs.specs.Made.{sources_of}
use Rattle.run_came.specs.Ran.{RanOver, sinks_of}
use Rattle.run_came.specs.Told.{CameToRun, IsNoted, TellsRun}
use Rattle.run_came.proofs.InputLemmas.{all_failed, all_gave, place_kept, places_are}
use Rattle.run_came.proofs.HandedLemmas as handed
use Rattle.run_came.proofs.SinkLemmas.{LogHeld, SinksCame, holds_at, sink_kept, sinks_came, told_of}
use Rattle.run_came.proofs.OutputLemmas.{AllWent, OutputCame, all_marked, all_outputs, located}

text_kept : (x y : TextSeen) → y ≡ x → TextKept false x y
text_kept x y e = record { octets = ap (λ (t : TextSeen). t.octets) e; faults = ap (λ (t : TextSeen). t.faults) e }

module _ {S T K : Type 0} (left : S → Option (List Scripted)) (faults : S → ℕ) (stands : OutputConf → List Element → List Item → T → Type 0) (held : K → Option (List ℕ)) (total : K → Option ℕ) (own_faults : K → ℕ)
    (conf : Conf) (texts : List T) (xs : List (Input S)) (taker : LoggedOutputs T K) (ended : Ended) (old new : Seen) (long : length texts ≡ length conf.outputs) (distinct : AreDistinct (sink_names (described_parties conf)))
    (r : RanOver left faults stands held total own_faults conf texts xs taker old new) (noted : IsNoted (length conf.stages) xs taker ended) where
  abbrev places : List (List ℕ)
  places = places_of conf.inputs

  abbrev ats : List (List ℕ)
  ats = at_of (map output_party conf.outputs)

  abbrev names : List (List ℕ)
  names = log_and conf.order_log ats

  abbrev firsts : List (Output T K)
  firsts = r.handed.first.outputs.outputs.items

  abbrev nows : List (Output T K)
  nows = taker.outputs.outputs.items

  abbrev took : Took stands held total own_faults r.handed.entries r.handed.first taker
  took = r.handed.took

  abbrev came : (pairs : List (S × InputCame)) × Each (InputCameTo left faults (inputs_of conf) r.handed.entries) 0 pairs xs × (map (λ (p : S × InputCame). p.0) pairs ≡ r.sources)
  came = handed.came left faults stands held total own_faults conf texts r.sources r.sinks xs taker ended r.handed

  abbrev cames : List InputCame
  cames = map (λ (p : S × InputCame). p.1) came.0

  abbrev run : RunCame
  run = handed.run left faults stands held total own_faults conf texts r.sources r.sinks xs taker ended r.handed

  sources_long : length r.sources ≡ length conf.inputs
  sources_long = sym (same_length (Begins place_left place_faults place_openings place_out left faults all_left old.place) 0 places r.sources r.out.1.all.each) ∙ length-map conf.inputs (λ (c : InputConf). c.spec.place)

  entries_are : AreEntriesOf left faults conf run (took.front ++ took.rest) xs
  entries_are = handed.entries_are left faults stands held total own_faults conf texts r.sources r.sinks xs taker ended r.handed

  -- ---- inputs

  gave : (rows : List Element) → Each (Gave left faults (Described conf rows) old new) 0 (map input_party conf.inputs) cames
  gave rows =
      all_gave left faults conf rows r.handed.entries places old new r.out.1.all.once 0 conf.inputs came.0 xs r.handed.ended
      (subst (λ (l : List S). Each (Begins place_left place_faults place_openings place_out left faults all_left old.place) 0 places l) (sym came.2) r.out.1.all.each)
      came.1
      (members (Shows place_left place_faults place_openings place_out left faults places new.place) (λ p. times p places) 0 places (sources_of xs) (λ p. omega arith) r.sources_back.all.each)

  middle : r.half_closed.place ≡ r.out.0.place
  middle = r.sinks_back.rest.places ∙ r.out.2.rest.places

  places_kept : (p : List ℕ) → PlaceKept (times p (at_of (map input_party conf.inputs))) (has p (marked (at_of (map input_party conf.inputs)) (map (λ (c : InputCame). c.failed) cames))) (old.place p) (new.place p)
  places_kept p =
      subst (λ (l : List (List ℕ)). PlaceKept (times p l) (has p (marked l (map (λ (c : InputCame). c.failed) cames))) (old.place p) (new.place p)) (places_are conf.inputs)
      (subst (λ (marks : List Bool). PlaceKept (times p places) (has p (marked places marks)) (old.place p) (new.place p)) (all_failed left faults conf r.handed.entries 0 came.0 xs came.1)
      (place_kept (times p places) (has p (marked places (map (λ t. nat_lt 0 (faults t)) (sources_of xs)))) (old.place p) (r.out.0.place p) (r.half_closed.place p) (new.place p)
      (r.out.1.all.counts p) (ap (λ (f : List ℕ → PlaceSeen). f p) middle) (r.sources_back.all.counts p)))

  -- ---- sinks

  firsts_long : length firsts ≡ length conf.outputs
  firsts_long = handed.firsts_long left faults stands held total own_faults conf texts r.sources r.sinks xs taker ended r.handed long

  ats_long : length ats ≡ length firsts
  ats_long = length-map (map output_party conf.outputs) (λ (p : Party). p.at) ∙ (length-map conf.outputs output_party ∙ sym firsts_long)

  outputs_long : length nows ≡ length conf.outputs
  outputs_long = handed.outputs_long left faults stands held total own_faults conf texts r.sources r.sinks xs taker ended r.handed long

  sunk : SinksCame held own_faults names conf.order_log ats took.front took.rest taker.log firsts nows r.out.0.sink r.half_closed.sink
  sunk =
      sinks_came held own_faults names distinct took.front took.rest r.out.0.sink r.half_closed.sink ats firsts nows ats_long conf.order_log r.handed.is_new.log_sink r.handed.first.log taker.log
      (subst (λ (l : List K). Each (Begins sink_held sink_faults sink_openings sink_out held own_faults nothing_held r.out.0.sink) 0 names l) r.handed.is_new.over r.out.2.all.each)
      r.handed.is_new.log took.logged
      (members (Shows sink_held sink_faults sink_openings sink_out held own_faults names r.half_closed.sink) (λ p. times p names) 0 names (sinks_of taker) (λ p. omega arith) r.sinks_back.all.each)

  -- the sinks are as they were before the sources went out, and behind their return
  moved : (P : (List ℕ → SinkSeen) → (List ℕ → SinkSeen) → Type 0) → P r.out.0.sink r.half_closed.sink → P old.sink new.sink
  moved P x = subst (λ (f : List ℕ → SinkSeen). P f new.sink) r.out.1.rest.sinks (subst (λ (f : List ℕ → SinkSeen). P r.out.0.sink f) (sym r.sources_back.rest.sinks) x)

  log_holds : (path : Option (List ℕ)) (f : Option OutsideFault) (b e : List ℕ → SinkSeen) → MatchOption path (f ≡ None) (λ p. LogHeld f took.front took.rest (b p).held (e p).held)
      → MatchOption path (f ≡ None) (λ p. HoldsLog f (arrivals_in conf run) (b p).held (e p).held (order_of took.front))
  log_holds None f b e m = m
  log_holds (Some path) None b e m = m
  log_holds (Some path) (Some f) b e m =
      let more : AreEntriesOf left faults conf run (took.front ++ m.0 ∷ m.1) xs = subst (λ l. AreEntriesOf left faults conf run (took.front ++ l) xs) m.2 entries_are in
      (m.0.input, m.3.0, m.3.1, next_partial conf took.front m.0 m.1 cames (run_lists left faults conf run (took.front ++ m.0 ∷ m.1) xs more), m.3.2)

  logged : MatchOption conf.order_log (log_fault taker.log ≡ None) (λ path. HoldsLog (log_fault taker.log) (arrivals_in conf run) (old.sink path).held (new.sink path).held (order_of took.front))
  logged =
      moved (λ b e. MatchOption conf.order_log (log_fault taker.log ≡ None) (λ path. HoldsLog (log_fault taker.log) (arrivals_in conf run) (b path).held (e path).held (order_of took.front)))
      (log_holds conf.order_log (log_fault taker.log) r.out.0.sink r.half_closed.sink sunk.logged)

  -- ---- outputs

  abbrev cut : Bool
  cut = stage_wants run

  all_wrote : AllWent stands held total own_faults cut (items_through conf.stages (items_in took.front)) firsts nows
  all_wrote = handed.all_wrote left faults stands held total own_faults conf texts r.sources r.sinks xs taker ended r.handed

  module _ (rows : List Element) (s : Each (λ _ output makes. stands output rows [] makes) 0 conf.outputs texts) where
    abbrev items : List Item
    items = items_through conf.stages (items_in took.front)

    -- what a sink name shows of a text
    abbrev ShowsAt : (List ℕ → SinkSeen) → (List ℕ → SinkSeen) → OutputConf → K → List ℕ → Type 0
    ShowsAt b e o sink text = Holds (b o.path).held (e o.path).held text

    abbrev HasCome : (List ℕ → SinkSeen) → (List ℕ → SinkSeen) → Type 0
    HasCome b e = Each (λ _ o (now : Output T K). OutputCame stands held total own_faults (ShowsAt b e) rows cut items o now.sink now.fault) 0 conf.outputs nows

    outputs_came : HasCome r.out.0.sink r.half_closed.sink
    outputs_came =
        all_outputs stands held total own_faults (ShowsAt r.out.0.sink r.half_closed.sink) rows cut items all_wrote.front all_wrote.rest all_wrote.whole all_wrote.all
        (Begins sink_held sink_faults sink_openings sink_out held own_faults nothing_held r.out.0.sink)
        (λ k name sink. Shows sink_held sink_faults sink_openings sink_out held own_faults names r.half_closed.sink k name sink × (1 ≤ times name names))
        (λ k m o first sink g s text t. holds_at (r.out.0.sink o.path).held (r.half_closed.sink o.path).held (held first) (held sink) text (told_of held own_faults names distinct took.front took.rest r.out.0.sink r.half_closed.sink ats firsts nows ats_long k m o.path first sink g s) t.0)
        (λ k name first g. g.1)
        0 conf.outputs firsts nows sunk.began sunk.shown r.handed.is_new.go_on
        (subst (λ (l : List T). Each (λ _ output makes. stands output rows [] makes) 0 conf.outputs l) (sym r.handed.is_new.make) s)
        all_wrote.have

    sinks_kept : (p : List ℕ) → SinkKept (times p names) (has p (marked names (beside conf.order_log (has_failed (log_fault taker.log)) (map output_failed run.outputs)))) (old.sink p) (new.sink p)
    sinks_kept p =
        moved (λ b e. SinkKept (times p names) (has p (marked names (beside conf.order_log (has_failed (log_fault taker.log)) (map output_failed run.outputs)))) (b p) (e p))
        (subst (λ (marks : List Bool). SinkKept (times p names) (has p (marked names marks)) (r.out.0.sink p) (r.half_closed.sink p))
        (sunk.marks (map output_failed run.outputs) (all_marked stands held total own_faults (ShowsAt r.out.0.sink r.half_closed.sink) rows cut items 0 conf.outputs nows outputs_came))
        (sink_kept (times p names) (has p (marked names (map (λ t. nat_lt 0 (own_faults t)) (sinks_of taker)))) (r.out.0.sink p) (r.all_open.sink p) (r.half_closed.sink p) (r.out.2.all.counts p) (r.sinks_back.all.counts p)))

    come : (j : ℕ) → ComeTo conf (given_of run) (order_of took.front) j (through conf j (items_in took.front))
    come j = handed.come left faults stands held total own_faults conf texts r.sources r.sinks xs taker ended r.handed j

    -- of output j
    holds_result : (j : ℕ) (o : OutputConf) (sink : K) (f : Option OutputFault) → slice_get conf.outputs j ≡ Some o → OutputCame stands held total own_faults (ShowsAt old.sink new.sink) rows cut items o sink f
        → HoldsResult conf rows run j f (old.sink o.path).held (new.sink o.path).held
    holds_result j o sink f at c = record {
      items = through conf j (items_in took.front);
      come = come j;
      ends = subst (λ (x : Option OutputConf). EndsOutput cut f (ExceedsFor x (items_for x items))) (sym at) c.ends;
      holds = subst (λ (x : Option OutputConf). HoldsBy cut f (old.sink o.path).held (new.sink o.path).held (text_for rows x (items_for x items)) (text_for rows x (held_for x (items_for x items)))) (sym at) c.holds;
    }

    all_hold : (front outputs : List OutputConf) (rest : List (Output T K)) (n : ℕ) → conf.outputs ≡ front ++ outputs → n ≡ length front
        → Each (λ _ o (now : Output T K). OutputCame stands held total own_faults (ShowsAt old.sink new.sink) rows cut items o now.sink now.fault) n outputs rest
        → Each (λ j (party : Party) f. HoldsResult conf rows run j f (old.sink party.at).held (new.sink party.at).held) n (map output_party outputs) (map (λ (o : Output T K). o.fault) rest)
    all_hold front [] [] n whole is c = tt
    all_hold front [] (now ∷ rest) n whole is c = absurd c
    all_hold front (o ∷ outputs) [] n whole is c = absurd c
    all_hold front (o ∷ outputs) (now ∷ rest) n whole is c = (
      holds_result n o now.sink now.fault (ap (slice_get conf.outputs) is ∙ located conf.outputs front o outputs whole) c.0,
      all_hold (front ++ o ∷ []) outputs rest (suc n) (whole ∙ sym (append_assoc front (o ∷ []) outputs)) (let more = length-append front (o ∷ []) in omega (arith, is, more)) c.1,
    )

    holds : Each (λ j (party : Party) f. HoldsResult conf rows run j f (old.sink party.at).held (new.sink party.at).held) 0 (map output_party conf.outputs) run.outputs
    holds = all_hold [] conf.outputs nows 0 refl refl (moved HasCome outputs_came)

    counted : IsCounted (Described conf rows) run
    counted = handed.counted left faults stands held total own_faults conf texts r.sources r.sinks xs taker ended r.handed noted

    comes : Comes left faults (Described conf rows) (Ran run) old new
    comes = record {
      texts = λ p. text_kept (old.text p) (new.text p) (ap (λ (f : List ℕ → TextSeen). f p) (r.sources_back.rest.texts ∙ (r.sinks_back.rest.texts ∙ (r.out.2.rest.texts ∙ r.out.1.rest.texts))));
      places = places_kept;
      sinks = sinks_kept;
      leaves = record {
        gave = gave rows;
        ordered = handed.ordered left faults stands held total own_faults conf texts r.sources r.sinks xs taker ended r.handed sunk.none_left;
        logged = logged;
        stages = handed.stages_long left faults stands held total own_faults conf texts r.sources r.sinks xs taker ended r.handed ∙ sym (length-map conf.stages (λ (c : StageConf). c.name));
        holds = holds;
        counted = counted;
      };
    }

  tells : TellsRun conf run ended
  tells = handed.tells left faults stands held total own_faults conf texts r.sources r.sinks xs taker ended r.handed long noted sources_long

  pub came_to : CameToRun left faults stands conf texts ended old new
  came_to = (run, tells, r.sources_back.rest.say ∙ (r.sinks_back.rest.say ∙ (r.out.2.rest.say ∙ r.out.1.rest.say)), λ rows s. comes rows s)
