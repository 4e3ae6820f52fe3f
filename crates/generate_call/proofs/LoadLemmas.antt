-- What generated load comes to.
use Rattle.std.proofs.Common.{◌≡◌, inl, inr, ℕ, suc, ◌+◌, ◌^◌, ◌-◌, ◌≤◌, Bool, true, false, List, [], ◌∷◌, ◌++◌, Option, Some, None, length, map, refl, ap, sym, subst, ◌∙◌, arith, append_assoc}
use Rattle.std.specs.Prelude.{is_some, nat_lt, option_to_list, slice_get, vec_capacity}
use Rattle.std.specs.List.{AllByRecursion, list_all}
use Rattle.std.proofs.lemmas.Bool.{and_parts}
use Rattle.std.proofs.lemmas.List.{length-append, length-map}
use Rattle.arrival_spec.specs.declared.event.Scripted.{Scripted}
use Rattle.config_spec.specs.declared.conf.Conf.{Conf}
use Rattle.config_spec.specs.declared.conf.InputConf.{InputConf}
use Rattle.config_spec.specs.declared.conf.OutputConf.{OutputConf}
use Rattle.config_spec.specs.declared.conf.StageConf.{StageConf}
use Rattle.text_spec.specs.Builtin.{builtin_rows}
use Rattle.text_spec.specs.declared.element.Element.{Element}
use Rattle.run_spec.specs.Work.{Item}
use Rattle.result_spec.specs.Result.{ExceedsFor, held_for, inputs_of, text_for}
use Rattle.result_spec.specs.Through.{items_for, items_through, through}
use Rattle.site_io.specs.Writes.{standing}
use Rattle.site_io.specs.declared.tally_sink.TallySink.{TallySink}
use Rattle.load_spec.specs.Load.{load_events}
use Rattle.load_gen.specs.declared.source.LoadSource.{LoadSource}
use Rattle.load_gen.specs.Left.{load_left, load_faults}
use Rattle.call_spec.specs.declared.end.OutputFault.{OutputFault}
use Rattle.call_spec.specs.Came.{InputCame, Party, RunCame}
use Rattle.call_spec.specs.Ends.{CountsBy, EndsInput, EndsOutput, output_failed}
use Rattle.call_spec.specs.Leaves.{GaveLoad, HasLength, LoadLeaves, at_of, limit_of, stage_wants}
use Rattle.call_spec.specs.Load.{load_conf}
use Rattle.call_spec.specs.Pairs.{Each}
use Rattle.call_spec.specs.Plan.{input_party, output_party}
use Rattle.call_spec.proofs.PairLemmas.{same_length}
use Rattle.order_log.specs.declared.order_log.OrderLog.{OrderLog}
use Rattle.logged_outputs.specs.declared.logged.LoggedOutputs.{LoggedOutputs}
use Rattle.logged_outputs.specs.declared.output.Output.{Output}
use Rattle.logged_outputs.specs.Entries.{Entry, items_in}
use Rattle.logged_outputs.specs.Outputs.{TookAll}
use Rattle.run_input.specs.declared.input.Input.{Input}
use Rattle.run_entries.specs.Came.{InputCameTo}
use Rattle.run_entries.proofs.EndLemmas.{input_ends}
use Rattle.run_lines.specs.declared.ended.Ended.{Ended}
use Rattle.run_came.specs.Ends.{log_fault}
use Rattle.run_came.specs.Ran.{HandedOn, IsNewLog, log_sinks, output_sinks, sinks_of}
use Rattle.run_came.specs.Told.{IsNoted, TellsRun}
use Rattle.run_came.proofs.HandedLemmas as handed
use Rattle.run_came.proofs.OutputLemmas.{OutputCame, all_outputs, located}
use Rattle.run_came.proofs.SinkLemmas.{no_log}
use Rattle.run_inputs.specs.Made.{AreMade}
use Rattle.output_texts.specs.declared.texts.OutputTexts.{OutputTexts}
use Rattle.output_texts.specs.Texts.{Stands}
use Rattle.described_run.specs.declared.taker.Ready.{Ready}
use Rattle.collect_call.specs.declared.prepare.Prepared.{Prepared}
use Rattle.collect_call.specs.Runs.{IsPrepared}
use Rattle.collect_call.specs.Runs.{AreMade as AreMakers}
use Rattle.generate_call.specs.Ran.{IsOver, total_of}

-- what a source of load has left, and what a sink that keeps the number of octets alone tells
abbrev pub left : LoadSource → Option (List Scripted)
left s = Some (load_left s)

abbrev held : TallySink → Option (List ℕ)
held k = None

abbrev total : TallySink → Option ℕ
total k = Some k.total

abbrev own_faults : TallySink → ℕ
own_faults k = 0

-- the load has one input
pub one_input : (i : InputConf) × (load_conf.inputs ≡ i ∷ [])
unfolding load_conf
one_input = (_, refl)

sound_of : (f : Option OutputFault) → nat_lt 0 0 ≡ output_failed f → output_failed f ≡ false
sound_of f e = sym e

-- a sink that was given nothing, and then a text
counts_text : (first sink : TallySink) (text : List ℕ) → first.total ≡ 0 → TookAll held total own_faults text first sink → sink.total ≡ standing (length text)
counts_text first sink text none t =
    let none_before : 0 + length text ≡ length text = omega arith in
    let g : Some sink.total ≡ Some (standing (length text)) = subst (λ n. Some sink.total ≡ Some (standing n)) none_before (t.1 0 (omega arith) (ap Some none)) in
    cc

same_source : (x y : LoadSource) → x ∷ [] ≡ y ∷ [] → x ≡ y
same_source x y e = cc

-- one sink more
pub one_more_fresh : (sinks : List TallySink) (k : TallySink) → AllByRecursion (λ x. total_of x ≡ 0) sinks → k.total ≡ 0 → AllByRecursion (λ x. total_of x ≡ 0) (sinks ++ k ∷ [])
one_more_fresh [] k f none = (none, tt)
one_more_fresh (x ∷ sinks) k f none = (f.0, one_more_fresh sinks k f.1 none)

-- of all names and fresh sinks
all_fresh : (n : ℕ) (names : List (List ℕ)) (sinks : List TallySink) → length names ≡ length sinks → AllByRecursion (λ k. total_of k ≡ 0) sinks → Each (λ _ (name : List ℕ) (k : TallySink). k.total ≡ 0) n names sinks
all_fresh n [] [] e f = tt
all_fresh n [] (k ∷ sinks) e f = absurd (omega (arith, e))
all_fresh n (name ∷ names) [] e f = absurd (omega (arith, e))
all_fresh n (name ∷ names) (k ∷ sinks) e f = (f.0, all_fresh (suc n) names sinks (omega (arith, e)) f.1)

all_shown : (n : ℕ) (names : List (List ℕ)) (sinks : List TallySink) → length names ≡ length sinks → Each (λ _ (name : List ℕ) (k : TallySink). Unit {0}) n names sinks
all_shown n [] [] e = tt
all_shown n [] (k ∷ sinks) e = absurd (omega (arith, e))
all_shown n (name ∷ names) [] e = absurd (omega (arith, e))
all_shown n (name ∷ names) (k ∷ sinks) e = (tt, all_shown (suc n) names sinks (omega (arith, e)))

module _ {T : Type 0} (stands : OutputConf → List Element → List Item → T → Type 0) (number count : ℕ) (texts : List T) (source : LoadSource) (sinks : List TallySink) (xs : List (Input LoadSource)) (taker : LoggedOutputs T TallySink) (ended : Ended)
    (events : load_left source ≡ load_events number count) (few : length sinks ≡ length load_conf.outputs) (fresh : AllByRecursion (λ k. total_of k ≡ 0) sinks)
    (makers : Each (λ _ output t. stands output builtin_rows [] t) 0 load_conf.outputs texts) (h : HandedOn left load_faults stands held total own_faults load_conf texts (source ∷ []) sinks xs taker) where
  abbrev firsts : List (Output T TallySink)
  firsts = h.first.outputs.outputs.items

  abbrev nows : List (Output T TallySink)
  nows = taker.outputs.outputs.items

  abbrev run : RunCame
  run = handed.run left load_faults stands held total own_faults load_conf texts (source ∷ []) sinks xs taker ended h

  long : length texts ≡ length load_conf.outputs
  long = sym (same_length (λ _ output t. stands output builtin_rows [] t) 0 load_conf.outputs texts makers)

  firsts_long : length firsts ≡ length load_conf.outputs
  firsts_long = handed.firsts_long left load_faults stands held total own_faults load_conf texts (source ∷ []) sinks xs taker ended h long

  pub outputs_long : length nows ≡ length load_conf.outputs
  outputs_long = handed.outputs_long left load_faults stands held total own_faults load_conf texts (source ∷ []) sinks xs taker ended h long

  -- there is no log
  sinks_over : (log : Option TallySink) → sinks ≡ option_to_list log ++ output_sinks firsts → log ≡ None
  sinks_over None e = refl
  sinks_over (Some k) e = absurd (let more = ap length e in let same = length-map firsts (λ (o : Output T TallySink). o.sink) in let as_many = firsts_long in omega (arith, more, same, as_many, few))

  no_log_sink : h.is_new.log_sink ≡ None
  no_log_sink = sinks_over h.is_new.log_sink h.is_new.over

  are_firsts : sinks ≡ output_sinks firsts
  are_firsts = h.is_new.over ∙ ap (λ (o : Option TallySink). option_to_list o ++ output_sinks firsts) no_log_sink

  unlogged : (taker.log ≡ None) × (h.took.rest ≡ [])
  unlogged = no_log held own_faults h.took.front h.took.rest h.first.log taker.log (subst (λ (o : Option TallySink). IsNewLog held own_faults o h.first.log) no_log_sink h.is_new.log) h.took.logged

  -- ---- the input

  gave_one : (entries : List Entry) (n : ℕ) (i : InputConf) (pair : LoadSource × InputCame) (x : Input LoadSource) → is_some x.end ≡ true → pair.0 ≡ source → InputCameTo left load_faults (inputs_of load_conf) entries n pair x → GaveLoad number count n (input_party i) pair.1
  gave_one entries n i pair x some is c =
      let begins : load_left pair.0 ≡ load_events number count = ap load_left is ∙ events in
      record {
        rest = load_left x.inlet.source;
        whole = sym begins ∙ c.has.taken;
        ends = subst (λ (l : List Scripted). EndsInput (limit_of load_conf n) (Some l) (Some (load_left x.inlet.source)) pair.1.given pair.1.end pair.1.failed) begins
            (input_ends left load_faults (inputs_of load_conf) entries n pair x c some refl);
        sound = ap (λ (c : InputCame). c.failed) c.is;
      }

  gave_all : (entries : List Entry) (i : InputConf) (pairs : List (LoadSource × InputCame)) (xs : List (Input LoadSource)) → list_all (λ (x : Input LoadSource). is_some x.end) xs ≡ true → map (λ (p : LoadSource × InputCame). p.0) pairs ≡ source ∷ []
      → Each (InputCameTo left load_faults (inputs_of load_conf) entries) 0 pairs xs → Each (GaveLoad number count) 0 (input_party i ∷ []) (map (λ (p : LoadSource × InputCame). p.1) pairs)
  gave_all entries i [] xs ended are e = absurd cc
  gave_all entries i (p ∷ []) [] ended are e = absurd e
  gave_all entries i (p ∷ []) (x ∷ xs) ended are e = let both = and_parts (is_some x.end) (list_all (λ (y : Input LoadSource). is_some y.end) xs) ended in (gave_one entries 0 i p x both.0 (same_source p.0 source are) e.0, tt)
  gave_all entries i (p ∷ q ∷ pairs) xs ended are e = absurd (let l = ap length are in omega (arith, l))

  gave : Each (GaveLoad number count) 0 (map input_party load_conf.inputs) run.inputs
  gave =
      let came = handed.came left load_faults stands held total own_faults load_conf texts (source ∷ []) sinks xs taker ended h in
      subst (λ (l : List InputConf). Each (GaveLoad number count) 0 (map input_party l) run.inputs) (sym one_input.1) (gave_all h.entries one_input.0 came.0 xs h.ended came.2 came.1)

  -- ---- the outputs

  abbrev Counts : OutputConf → TallySink → List ℕ → Type 0
  Counts o sink text = sink.total ≡ standing (length text)

  abbrev cut : Bool
  cut = stage_wants run

  abbrev items : List Item
  items = items_through load_conf.stages (items_in h.took.front)

  ats_long : length (at_of (map output_party load_conf.outputs)) ≡ length load_conf.outputs
  ats_long = length-map (map output_party load_conf.outputs) (λ (p : Party). p.at) ∙ length-map load_conf.outputs output_party

  outputs_came : Each (λ _ o (now : Output T TallySink). OutputCame stands held total own_faults Counts builtin_rows cut items o now.sink now.fault) 0 load_conf.outputs nows
  outputs_came =
      let wrote = handed.all_wrote left load_faults stands held total own_faults load_conf texts (source ∷ []) sinks xs taker ended h in
      all_outputs stands held total own_faults Counts builtin_rows cut items wrote.front wrote.rest wrote.whole wrote.all (λ _ name k. k.total ≡ 0) (λ _ name k. Unit {0})
      (λ k m o first sink none shown text t. counts_text first sink text none t) (λ k name first none. refl)
      0 load_conf.outputs firsts nows
      (all_fresh 0 (at_of (map output_party load_conf.outputs)) (output_sinks firsts) (ats_long ∙ (sym few ∙ ap length are_firsts)) (subst (AllByRecursion (λ k. total_of k ≡ 0)) are_firsts fresh))
      (all_shown 0 (at_of (map output_party load_conf.outputs)) (output_sinks nows) (ats_long ∙ (sym outputs_long ∙ sym (length-map nows (λ (o : Output T TallySink). o.sink)))))
      h.is_new.go_on (subst (λ (l : List T). Each (λ _ output t. stands output builtin_rows [] t) 0 load_conf.outputs l) (sym h.is_new.make) makers) wrote.have

  has_length : (j : ℕ) (o : OutputConf) (sink : TallySink) (f : Option OutputFault) → slice_get load_conf.outputs j ≡ Some o → OutputCame stands held total own_faults Counts builtin_rows cut items o sink f → HasLength run j f sink.total
  has_length j o sink f at c = record {
    items = through load_conf j (items_in h.took.front);
    come = handed.come left load_faults stands held total own_faults load_conf texts (source ∷ []) sinks xs taker ended h j;
    ends = subst (λ (x : Option OutputConf). EndsOutput cut f (ExceedsFor x (items_for x items))) (sym at) c.ends;
    counts = subst (λ (x : Option OutputConf). CountsBy cut f sink.total (text_for builtin_rows x (items_for x items)) (text_for builtin_rows x (held_for x (items_for x items)))) (sym at) c.holds;
    sound = sound_of f c.failed;
  }

  have_lengths : (front outputs : List OutputConf) (rest : List (Output T TallySink)) (n : ℕ) → load_conf.outputs ≡ front ++ outputs → n ≡ length front
      → Each (λ _ o (now : Output T TallySink). OutputCame stands held total own_faults Counts builtin_rows cut items o now.sink now.fault) n outputs rest
      → Each (HasLength run) n (map (λ (o : Output T TallySink). o.fault) rest) (map total_of (output_sinks rest))
  have_lengths front [] [] n whole is c = tt
  have_lengths front [] (now ∷ rest) n whole is c = absurd c
  have_lengths front (o ∷ outputs) [] n whole is c = absurd c
  have_lengths front (o ∷ outputs) (now ∷ rest) n whole is c = (
    has_length n o now.sink now.fault (ap (slice_get load_conf.outputs) is ∙ located load_conf.outputs front o outputs whole) c.0,
    have_lengths (front ++ o ∷ []) outputs rest (suc n) (whole ∙ sym (append_assoc front (o ∷ []) outputs)) (let more = length-append front (o ∷ []) in omega (arith, is, more)) c.1,
  )

  pub lengths_of : map total_of (sinks_of taker) ≡ map total_of (output_sinks nows)
  lengths_of = ap (λ (l : Option (OrderLog TallySink)). map total_of (log_sinks l ++ output_sinks nows)) unlogged.0

  leaves : IsNoted (length load_conf.stages) xs taker ended → LoadLeaves number count run (map total_of (output_sinks nows))
  leaves noted = record {
    gave = gave;
    ordered = handed.ordered left load_faults stands held total own_faults load_conf texts (source ∷ []) sinks xs taker ended h (λ _. unlogged.1);
    unlogged = ap log_fault unlogged.0;
    stages = handed.stages_long left load_faults stands held total own_faults load_conf texts (source ∷ []) sinks xs taker ended h ∙ sym (length-map load_conf.stages (λ (c : StageConf). c.name));
    outputs = length-map nows (λ (o : Output T TallySink). o.fault) ∙ outputs_long;
    lengths_are = have_lengths [] load_conf.outputs nows 0 refl refl outputs_came;
    counted = handed.counted left load_faults stands held total own_faults load_conf texts (source ∷ []) sinks xs taker ended h noted;
  }

  sources_long : length (source ∷ []) ≡ length load_conf.inputs
  sources_long = sym (ap length one_input.1)

  pub inputs_long : length xs ≡ length load_conf.inputs
  inputs_long = handed.as_many left load_faults stands held total own_faults load_conf texts (source ∷ []) sinks xs taker ended h ∙ sources_long

  pub sinks_long : length (sinks_of taker) ≡ length load_conf.outputs
  sinks_long = ap (λ (l : Option (OrderLog TallySink)). length (log_sinks l ++ output_sinks nows)) unlogged.0 ∙ (length-map nows (λ (o : Output T TallySink). o.sink) ∙ outputs_long)

  pub came_to_load : (lengths : List ℕ) → lengths ≡ map total_of (sinks_of taker) → IsNoted (length load_conf.stages) xs taker ended
      → (run : RunCame) × TellsRun load_conf run ended × LoadLeaves number count run lengths × (length lengths ≡ length load_conf.outputs)
  came_to_load lengths are noted =
      let same = are ∙ lengths_of in (
        run,
        handed.tells left load_faults stands held total own_faults load_conf texts (source ∷ []) sinks xs taker ended h long noted sources_long,
        subst (λ (l : List ℕ). LoadLeaves number count run l) (sym same) (leaves noted),
        ap length same ∙ (length-map (output_sinks nows) total_of ∙ (length-map nows (λ (o : Output T TallySink). o.sink) ∙ outputs_long)),
      )

-- what a prepared run begins with
module _ (number count : ℕ) (conf : Conf) (is : conf ≡ load_conf) (prepared : Prepared) (p : IsPrepared load_conf builtin_rows prepared) where
  pub makers_long : length prepared.texts.items ≡ length load_conf.outputs
  makers_long = sym (same_length (λ _ output t. Stands output builtin_rows [] t) 0 load_conf.outputs prepared.texts.items p.makes)

  pub inputs_are : (sources : List LoadSource) (source : LoadSource) → sources ≡ source ∷ [] → length sources ≡ length conf.inputs
  inputs_are sources source are = ap length are ∙ (sym (ap length one_input.1) ∙ ap (λ (c : Conf). length c.inputs) (sym is))

  pub is_over : (sources : List LoadSource) (s : (x : LoadSource) × (sources ≡ x ∷ []) × (load_left x ≡ load_events number count)) (sinks : List TallySink) (xs : List (Input LoadSource)) (ready : Ready OutputTexts TallySink)
      → length sinks ≡ length conf.outputs → AllByRecursion (λ k. total_of k ≡ 0) sinks → AreMade left load_faults conf sources xs → ready.stages ≡ prepared.stages → ready.texts.items ≡ prepared.texts.items → ready.room.items ≡ [] → length prepared.texts.items ≤ vec_capacity ready.room → IsOver number count xs sinks ready
  is_over sources s sinks xs ready long fresh made stages texts empty rooms = record {
    source = s.0;
    events = s.2;
    made = subst (λ (c : Conf). AreMade left load_faults c (s.0 ∷ []) xs) is (subst (λ (l : List LoadSource). AreMade left load_faults conf l xs) s.1 made);
    long = long ∙ ap (λ (c : Conf). length c.outputs) is;
    fresh = fresh;
    ready_for = record {
      works = stages ∙ p.works;
      makers = ap length texts ∙ makers_long;
      empty = empty;
      room = subst (λ (l : List OutputTexts). length l ≤ vec_capacity ready.room) (sym texts) rooms;
    };
    makers = subst (λ (l : List OutputTexts). AreMakers builtin_rows load_conf.outputs l) (sym texts) p.makes;
  }
