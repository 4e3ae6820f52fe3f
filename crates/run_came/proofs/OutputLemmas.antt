-- What came of the outputs of a run.
use Rattle.std.proofs.Common.{◌≡◌, ℕ, suc, ◌<◌, Bool, true, false, List, [], ◌∷◌, ◌++◌, Option, Some, None, length, map, take, replicate, set, refl, ap, sym, subst, ◌∙◌, arith, append-nil}
use Rattle.std.specs.Prelude.{MatchOption, is_some, nat_lt, slice_get}
use Rattle.std.specs.List.{AllByRecursion, list_any}
use Rattle.std.proofs.lemmas.List.{get_or-set_same, length-replicate, length-set, take_all}
use Rattle.std.proofs.lemmas.List.Folds.{list_any_at}
use Rattle.config_spec.specs.declared.conf.OutputConf.{OutputConf}
use Rattle.config_spec.specs.declared.conf.OutputKind.{OutputKind}
use Rattle.config_spec.specs.declared.conf.OutputKind.TheVariants.{Json, Ipfix, View}
use Rattle.config_spec.specs.declared.conf.StageConf.{StageConf}
use Rattle.config_spec.specs.declared.conf.StageWork.{StageWork}
use Rattle.text_spec.specs.declared.element.Element.{Element}
use Rattle.run_spec.specs.Work.{Item}
use Rattle.result_spec.specs.Result.{Exceeds, text_by}
use Rattle.result_spec.specs.Through.{items_through}
use Rattle.result_spec.proofs.MoreLemmas.{stages_append}
use Rattle.call_spec.specs.declared.end.OutputFault.{OutputFault}
use Rattle.call_spec.specs.declared.end.OutputFault.TheVariants as fault
use Rattle.call_spec.specs.Counts.{MovesBy}
use Rattle.call_spec.specs.Ends.{EndsOutput, ShowsBy, has_failed, output_failed}
use Rattle.call_spec.specs.Leaves.{at_of}
use Rattle.call_spec.specs.Pairs.{Each}
use Rattle.call_spec.proofs.PairLemmas.{same_length}
use Rattle.call_spec.specs.Plan.{output_party}
use Rattle.message_texts.specs.Puts.{ExceedsAt, text_at}
use Rattle.order_log.specs.declared.order_log.OrderLog.{OrderLog}
use Rattle.order_log.specs.Entries.{Stands}
use Rattle.site_io.specs.declared.outside.OutsideFault.{OutsideFault}
use Rattle.logged_outputs.specs.declared.logged.LoggedOutputs.{LoggedOutputs}
use Rattle.logged_outputs.specs.declared.output.Output.{Output}
use Rattle.logged_outputs.specs.Behind.{AllHave, CutShort, HasFrom}
use Rattle.logged_outputs.specs.Logged.{Took}
use Rattle.logged_outputs.specs.Logs.{LogTook}
use Rattle.logged_outputs.specs.Outputs.{HoldsAll, HoldsPart, OutputHas, TookAll, text_within}
use Rattle.logged_outputs.proofs.OutputLemmas.{stays, took_none}
use Rattle.run_came.specs.Ends.{wanting}
use Rattle.run_came.specs.Ran.{IsNew, IsNewLog, output_sinks}
use Rattle.run_came.proofs.InputLemmas.{counted_failed}
use Rattle.run_came.proofs.SinkLemmas.{grows_none}

-- ---- no items have no text, and exceed nothing

none_through : (stages : List StageConf) → items_through stages [] ≡ []
none_through [] = refl
none_through (s ∷ stages) = none_through stages

none_by : (table : List Element) (kind : OutputKind) → text_by table kind [] ≡ []
none_by table (Json options) = refl
none_by table (Ipfix last) = refl
none_by table View = refl

none_exceeds : (kind : OutputKind) → Exceeds kind [] → ⊥
none_exceeds (Json options) e = e
none_exceeds (Ipfix last) e = omega (arith, e)
none_exceeds View e = e

-- ---- before anything was taken

module _ {T K : Type 0} (stands : OutputConf → List Element → List Item → T → Type 0) (held : K → Option (List ℕ)) (total : K → Option ℕ) (faults : K → ℕ) where
  still_new : (sink : Option K) (log : Option (OrderLog K)) → IsNewLog held faults sink log → LogTook held faults [] [] log log
  still_new None log n = subst (λ (x : Option (OrderLog K)). LogTook held faults [] [] x x) (sym n) refl
  still_new (Some a) log n = subst (λ (x : Option (OrderLog K)). LogTook held faults [] [] x x) (sym n.1) (new_log n.0 n.2.ended)
    where
      moves_not : (f : Option OutsideFault) (n : ℕ) → is_some f ≡ false → MovesBy (has_failed f) n n
      moves_not None n e = refl
      moves_not (Some f) n e = absurd cc

      new_log : (new : OrderLog K) → is_some new.fault ≡ false → Stands held faults new.sink [] None new
      new_log new e = record { entries = grows_none (held new.sink); ended = e; counts = moves_not new.fault (faults new.sink) e }

  -- an output that has begun has the text of no items
  has_none : (first : Output T K) → HasFrom stands held total faults [] first first
  has_none first output table s none =
      subst (λ (o : Option OutputFault). MatchOption o (HoldsAll held total faults stands output table [] first first) (HoldsPart held total faults stands output table [] first first)) (sym none)
      (record {
        makes = s;
        holds = subst (λ t. TookAll held total faults t first.sink first.sink) (sym (none_by table output.kind)) (took_none held total faults first.sink);
        counts = refl;
        enough = none_exceeds output.kind;
      })

  all_have_none : (n : ℕ) (firsts : List (Output T K)) → Each (λ _ first now. HasFrom stands held total faults [] first now) n firsts firsts
  all_have_none n [] = tt
  all_have_none n (first ∷ firsts) = (has_none first, all_have_none (suc n) firsts)

  pub none_taken : (sinks : List K) (works : List StageWork) (texts : List T) (first : LoggedOutputs T K) → IsNew held faults sinks works texts first → Took stands held total faults [] first first
  none_taken sinks works texts first n = record {
    front = [];
    rest = [];
    whole = refl;
    logged = still_new n.log_sink first.log n.log;
    written = record {
      same = refl;
      went = λ stages is.
          subst (λ (o : Option ℕ). MatchOption o (AllHave stands held total faults (items_through stages []) first.outputs.outputs.items first.outputs.outputs.items) (CutShort stands held total faults stages [] first.outputs.outputs.items first.outputs.outputs.items))
          (sym n.none_wanting)
          (subst (λ (l : List Item). AllHave stands held total faults l first.outputs.outputs.items first.outputs.outputs.items) (sym (none_through stages)) (all_have_none 0 first.outputs.outputs.items));
    };
  }

-- ---- which intermediate wanted memory

stage_marked : (count k : ℕ) → k < count → list_any (λ b. b) (set (replicate count false) k true) ≡ true
stage_marked count k lt =
    let long = length-replicate count false in
    let same = length-set (replicate count false) k true in
    list_any_at (λ b. b) (set (replicate count false) k true) k false (omega arith) (get_or-set_same (replicate count false) k true false (omega arith))

-- as many intermediates
pub wanting_long : (count : ℕ) (wants : Option ℕ) → length (wanting count wants) ≡ count
wanting_long count None = length-replicate count false
wanting_long count (Some k) = length-set (replicate count false) k true ∙ length-replicate count false

module _ {T K : Type 0} (stands : OutputConf → List Element → List Item → T → Type 0) (held : K → Option (List ℕ)) (total : K → Option ℕ) (faults : K → ℕ) where
  -- Outputs have their text of these items behind the intermediates; or of a front of them, where they were cut off.
  pub record AllWent (cut : Bool) (items : List Item) (firsts nows : List (Output T K)) : Type 0 where
    pub front : List Item
    pub rest : List Item
    pub whole : items ≡ front ++ rest
    pub all : cut ≡ false → rest ≡ []
    pub have : AllHave stands held total faults front firsts nows

  pub all_went : (stages : List StageConf) (items : List Item) (firsts nows : List (Output T K)) (wants : Option ℕ)
      → MatchOption wants (AllHave stands held total faults (items_through stages items) firsts nows) (CutShort stands held total faults stages items firsts nows)
      → AllWent (list_any (λ b. b) (wanting (length stages) wants)) (items_through stages items) firsts nows
  all_went stages items firsts nows None m = record {
    front = items_through stages items;
    rest = [];
    whole = sym (append-nil (items_through stages items));
    all = λ _. refl;
    have = m;
  }
  all_went stages items firsts nows (Some k) m = record {
    front = items_through stages m.front;
    rest = items_through stages m.rest;
    whole = ap (items_through stages) m.whole ∙ stages_append stages m.front m.rest;
    all = λ none. absurd (let marked : true ≡ false = sym (stage_marked (length stages) k m.is_stage) ∙ none in cc);
    have = m.have;
  }

  -- ---- what an output shows of its text, by what its sink took of that

  module _ (Shows : OutputConf → K → List ℕ → Type 0) where
    -- why it ended, what is shown of its text, and whether its sink failed
    pub record OutputCame (rows : List Element) (cut : Bool) (items : List Item) (o : OutputConf) (sink : K) (f : Option OutputFault) : Type 0 where
      pub ends : EndsOutput cut f (ExceedsAt o items)
      pub holds : ShowsBy (Shows o sink) cut f (text_at rows o items) (text_within rows o items)
      pub failed : nat_lt 0 (faults sink) ≡ output_failed f

    module _ (rows : List Element) (o : OutputConf) (first now : Output T K) (shows : (text : List ℕ) → TookAll held total faults text first.sink now.sink → Shows o now.sink text) (fresh : faults first.sink ≡ 0) where
      failed_as : (failed : Bool) → MovesBy failed (faults first.sink) (faults now.sink) → nat_lt 0 (faults now.sink) ≡ failed
      failed_as failed m = counted_failed failed (faults first.sink) (faults now.sink) fresh m

      ended_came : (cut : Bool) (f : OutputFault) (items : List Item) → HoldsPart held total faults stands o rows items first now f → OutputCame rows cut items o now.sink (Some f)
      ended_came cut fault.Failed items p = record { ends = tt; holds = (p.holds.0, shows (take p.holds.0 (text_at rows o items)) p.holds.2); failed = failed_as true p.counts }
      ended_came cut fault.Limit items p = record { ends = p.holds.0; holds = shows (text_within rows o items) p.holds.1; failed = failed_as false p.counts }
      ended_came cut fault.NoMemory items p = record { ends = tt; holds = (p.holds.0, shows (take p.holds.0 (text_at rows o items)) p.holds.2); failed = failed_as false p.counts }

      whole_came : (items : List Item) → HoldsAll held total faults stands o rows items first now → OutputCame rows false items o now.sink None
      whole_came items h = record { ends = h.enough; holds = shows (text_at rows o items) h.holds; failed = failed_as false h.counts }

      -- one that was cut off shows what it would had it wanted memory itself
      cut_came : (items more : List Item) → HoldsAll held total faults stands o rows items first now → OutputCame rows true (items ++ more) o now.sink None
      cut_came items more h =
          let text = text_at rows o items in
          let wanting_memory : Output T K = record { texts = now.texts; sink = now.sink; fault = Some fault.NoMemory } in
          let part : HoldsPart held total faults stands o rows items first wanting_memory fault.NoMemory = record {
            holds = (length text, omega arith, subst (λ t. TookAll held total faults t first.sink now.sink) (sym (take_all (length text) text (omega arith))) h.holds);
            counts = h.counts;
          } in
          let p = stays held total faults o rows stands items more first wanting_memory refl part in
          record { ends = tt; holds = (p.holds.0, shows (take p.holds.0 (text_at rows o (items ++ more))) p.holds.2); failed = failed_as false p.counts }

      pub output_came : (cut : Bool) (items front rest : List Item) → items ≡ front ++ rest → (cut ≡ false → rest ≡ []) → OutputHas held total faults stands o rows front first now → OutputCame rows cut items o now.sink now.fault
      output_came cut items front rest is none h = subst (λ (l : List Item). OutputCame rows cut l o now.sink now.fault) (sym is) (by_fault now.fault refl)
        where
          has : (f : Option OutputFault) → now.fault ≡ f → MatchOption f (HoldsAll held total faults stands o rows front first now) (HoldsPart held total faults stands o rows front first now)
          has f is = subst (λ (x : Option OutputFault). MatchOption x (HoldsAll held total faults stands o rows front first now) (HoldsPart held total faults stands o rows front first now)) is h

          by_cut : (c : Bool) → (c ≡ false → rest ≡ []) → HoldsAll held total faults stands o rows front first now → OutputCame rows c (front ++ rest) o now.sink None
          by_cut true none all = cut_came front rest all
          by_cut false none all = subst (λ (l : List Item). OutputCame rows false l o now.sink None) (sym (ap (λ r. front ++ r) (none refl) ∙ append-nil front)) (whole_came front all)

          by_fault : (f : Option OutputFault) → now.fault ≡ f → OutputCame rows cut (front ++ rest) o now.sink now.fault
          by_fault None is = subst (λ (x : Option OutputFault). OutputCame rows cut (front ++ rest) o now.sink x) (sym is) (by_cut cut none (has None is))
          by_fault (Some f) is =
              let later = stays held total faults o rows stands front rest first now (ap is_some is) h in
              subst (λ (x : Option OutputFault). OutputCame rows cut (front ++ rest) o now.sink x) (sym is)
              (ended_came cut f (front ++ rest) (subst (λ (x : Option OutputFault). MatchOption x (HoldsAll held total faults stands o rows (front ++ rest) first now) (HoldsPart held total faults stands o rows (front ++ rest) first now)) is later))

    -- of all outputs
    module _ (rows : List Element) (cut : Bool) (items front rest : List Item) (is : items ≡ front ++ rest) (none : cut ≡ false → rest ≡ []) (Began Shown : ℕ → List ℕ → K → Type 0)
        (shows_of : (k m : ℕ) (o : OutputConf) (first sink : K) → Began k o.path first → Shown m o.path sink → (text : List ℕ) → TookAll held total faults text first sink → Shows o sink text)
        (fresh_of : (k : ℕ) (name : List ℕ) (first : K) → Began k name first → faults first ≡ 0) where
      pub all_outputs : (n : ℕ) (outputs : List OutputConf) (firsts nows : List (Output T K)) → Each Began n (at_of (map output_party outputs)) (output_sinks firsts) → Each Shown n (at_of (map output_party outputs)) (output_sinks nows)
          → AllByRecursion (λ (x : Output T K). x.fault ≡ None) firsts → Each (λ _ o t. stands o rows [] t) n outputs (map (λ (x : Output T K). x.texts) firsts) → Each (λ _ first now. HasFrom stands held total faults front first now) n firsts nows
          → Each (λ _ o (now : Output T K). OutputCame rows cut items o now.sink now.fault) n outputs nows
      all_outputs n [] [] [] g s goes t h = tt
      all_outputs n [] [] (now ∷ nows) g s goes t h = absurd h
      all_outputs n [] (first ∷ firsts) nows g s goes t h = absurd g
      all_outputs n (o ∷ outputs) [] nows g s goes t h = absurd g
      all_outputs n (o ∷ outputs) (first ∷ firsts) [] g s goes t h = absurd h
      all_outputs n (o ∷ outputs) (first ∷ firsts) (now ∷ nows) g s goes t h = (
        output_came rows o first now (shows_of n n o first.sink now.sink g.0 s.0) (fresh_of n o.path first.sink g.0) cut items front rest is none (h.0 o rows t.0 goes.0),
        all_outputs (suc n) outputs firsts nows g.1 s.1 goes.1 t.1 h.1,
      )

    -- whose sink failed
    pub all_marked : (rows : List Element) (cut : Bool) (items : List Item) (n : ℕ) (outputs : List OutputConf) (nows : List (Output T K)) → Each (λ _ o (now : Output T K). OutputCame rows cut items o now.sink now.fault) n outputs nows
        → map (λ t. nat_lt 0 (faults t)) (output_sinks nows) ≡ map output_failed (map (λ (x : Output T K). x.fault) nows)
    all_marked rows cut items n [] [] c = refl
    all_marked rows cut items n [] (now ∷ nows) c = absurd c
    all_marked rows cut items n (o ∷ outputs) [] c = absurd c
    all_marked rows cut items n (o ∷ outputs) (now ∷ nows) c = λ i. c.0.failed i ∷ all_marked rows cut items (suc n) outputs nows c.1 i

  -- as many outputs as began
  pub nows_long : (stages : List StageConf) (items : List Item) (firsts nows : List (Output T K)) (wants : Option ℕ)
      → MatchOption wants (AllHave stands held total faults (items_through stages items) firsts nows) (CutShort stands held total faults stages items firsts nows) → length nows ≡ length firsts
  nows_long stages items firsts nows None m = sym (same_length (λ _ first now. HasFrom stands held total faults (items_through stages items) first now) 0 firsts nows m)
  nows_long stages items firsts nows (Some k) m = sym (same_length (λ _ first now. HasFrom stands held total faults (items_through stages m.front) first now) 0 firsts nows m.have)

-- ---- an output by its number

slice_behind : {X : Type 0} (front : List X) (x : X) (more : List X) → slice_get (front ++ x ∷ more) (length front) ≡ Some x
slice_behind [] x more = refl
slice_behind (y ∷ front) x more = slice_behind front x more

pub located : {X : Type 0} (whole front : List X) (x : X) (more : List X) → whole ≡ front ++ x ∷ more → slice_get whole (length front) ≡ Some x
located whole front x more is = ap (λ l. slice_get l (length front)) is ∙ slice_behind front x more
