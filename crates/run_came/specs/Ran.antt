-- A run over what was opened: its inputs handed on entries until they had ended, the log and the outputs took them, and all
-- was given back.
use Rattle.std.specs.Prelude.{ℕ, ◌≡◌, true, List, [], ◌∷◌, ◌++◌, Option, Some, None, is_some, map, option_to_list}
use Rattle.std.specs.List.{AllByRecursion, list_all}
use Rattle.arrival_spec.specs.declared.event.Scripted.{Scripted}
use Rattle.config_spec.specs.declared.conf.Conf.{Conf}
use Rattle.config_spec.specs.declared.conf.OutputConf.{OutputConf}
use Rattle.config_spec.specs.declared.conf.StageWork.{StageWork}
use Rattle.text_spec.specs.declared.element.Element.{Element}
use Rattle.run_spec.specs.Work.{Item}
use Rattle.result_spec.specs.Result.{inputs_of}
use Rattle.site_io.specs.Seen.{Seen}
use Rattle.call_spec.specs.Leaves.{sink_names}
use Rattle.call_spec.specs.Plan.{described_parties}
use Rattle.order_log.specs.declared.order_log.OrderLog.{OrderLog}
use Rattle.order_log.specs.Entries.{Stands}
use Rattle.stage_chain.specs.Behind.{works_of}
use Rattle.logged_outputs.specs.declared.logged.LoggedOutputs.{LoggedOutputs}
use Rattle.logged_outputs.specs.declared.output.Output.{Output}
use Rattle.logged_outputs.specs.Entries.{Entry}
use Rattle.logged_outputs.specs.Logged.{Took}
use Rattle.run_input.specs.declared.input.Input.{Input}
use Rattle.input_turns.specs.Turns.{SoFar}
use Rattle.run_inputs.specs.Made.{sources_of}
use Rattle.site_openings.specs.All.{AreOut}
use Rattle.site_openings.specs.Places.{places_of, SourcesBack}
use Rattle.site_openings.specs.Sinks.{SinksBack}

-- the sinks of a log, if there is one, and of the outputs
abbrev pub log_sinks : {K : Type 0} → Option (OrderLog K) → List K
log_sinks None = []
log_sinks (Some log) = log.sink ∷ []

abbrev pub output_sinks : {T K : Type 0} → List (Output T K) → List K
output_sinks {T} {K} outputs = map (λ (o : Output T K). o.sink) outputs

abbrev pub sinks_of : {T K : Type 0} → LoggedOutputs T K → List K
sinks_of taker = log_sinks taker.log ++ output_sinks taker.outputs.outputs.items

module _ {K : Type 0} (held : K → Option (List ℕ)) (faults : K → ℕ) where
  -- a log without entries over its sink, if it has one
  abbrev pub IsNewLog : Option K → Option (OrderLog K) → Type 0
  IsNewLog None log = log ≡ None
  IsNewLog (Some sink) log = (new : OrderLog K) × (log ≡ Some new) × Stands held faults sink [] None new

  -- Nothing was taken yet: over these sinks stand a log, if there is one, and an output for each of the makers of texts, in
  -- order; and these intermediates before them.
  pub record IsNew {T : Type 0} (sinks : List K) (works : List StageWork) (texts : List T) (taker : LoggedOutputs T K) : Type 0 where
    pub log_sink : Option K
    pub over : sinks ≡ option_to_list log_sink ++ output_sinks taker.outputs.outputs.items
    pub log : IsNewLog log_sink taker.log
    pub make : map (λ (o : Output T K). o.texts) taker.outputs.outputs.items ≡ texts
    pub go_on : AllByRecursion (λ (o : Output T K). o.fault ≡ None) taker.outputs.outputs.items
    pub behind : taker.outputs.stages ≡ works
    pub none_wanting : taker.outputs.wanting ≡ None

module _ {S T K : Type 0} (left : S → Option (List Scripted)) (faults : S → ℕ) (stands : OutputConf → List Element → List Item → T → Type 0) (held : K → Option (List ℕ)) (total : K → Option ℕ) (sink_faults : K → ℕ) where
  -- between, over what was opened, the inputs had all ended, with what became of their entries
  pub record HandedOn (conf : Conf) (texts : List T) (sources : List S) (sinks : List K) (xs : List (Input S)) (taker : LoggedOutputs T K) : Type 0 where
    pub entries : List Entry
    pub so_far : SoFar left faults (inputs_of conf) entries sources xs
    pub ended : list_all (λ (x : Input S). is_some x.end) xs ≡ true
    pub first : LoggedOutputs T K
    pub is_new : IsNew held sink_faults sinks (works_of conf.stages) texts first
    pub took : Took stands held total sink_faults entries first taker

  pub record RanOver (conf : Conf) (texts : List T) (xs : List (Input S)) (taker : LoggedOutputs T K) (old new : Seen) : Type 0 where
    pub sources : List S
    pub sinks : List K
    pub all_open : Seen
    pub out : AreOut left faults held sink_faults conf sources sinks old all_open
    pub half_closed : Seen
    pub handed : HandedOn conf texts sources sinks xs taker
    pub sinks_back : SinksBack held sink_faults (sink_names (described_parties conf)) (sinks_of taker) all_open half_closed
    pub sources_back : SourcesBack left faults (places_of conf.inputs) (sources_of xs) half_closed new
