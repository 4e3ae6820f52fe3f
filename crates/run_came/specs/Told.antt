-- What is noted of a run, and what came of it.
use Rattle.std.specs.Prelude.{ℕ, ◌≡◌, List, [], Option, length, map}
use Rattle.arrival_spec.specs.declared.event.Scripted.{Scripted}
use Rattle.config_spec.specs.declared.conf.Conf.{Conf}
use Rattle.config_spec.specs.declared.conf.OutputConf.{OutputConf}
use Rattle.text_spec.specs.declared.element.Element.{Element}
use Rattle.run_spec.specs.Work.{Item}
use Rattle.site_io.specs.Seen.{Seen}
use Rattle.call_spec.specs.Pairs.{Each}
use Rattle.call_spec.specs.Came.{RunCame}
use Rattle.call_spec.specs.Came.Came.{Ran}
use Rattle.call_spec.specs.Leaves.{Comes}
use Rattle.call_spec.specs.Lines.{ends_of}
use Rattle.call_spec.specs.Plan.Plan.{Described}
use Rattle.pipeline_message.specs.declared.run_counts.RunCounts.{RunCounts}
use Rattle.logged_outputs.specs.declared.logged.LoggedOutputs.{LoggedOutputs}
use Rattle.logged_outputs.specs.declared.output.Output.{Output}
use Rattle.run_input.specs.declared.input.Input.{Input}
use Rattle.run_input.specs.Inputs.{CountsAll}
use Rattle.run_entries.specs.Came.{end_or}
use Rattle.run_entries.specs.Totals.{sums}
use Rattle.run_lines.specs.declared.ended.Ended.{Ended}
use Rattle.run_lines.specs.Rows.{meant_counts}
use Rattle.run_came.specs.Ends.{log_fault, wanting}

-- what was noted of inputs that have ended, of the log, of so many intermediates and of the outputs behind them
pub record IsNoted {S T K : Type 0} (stages : ℕ) (xs : List (Input S)) (taker : LoggedOutputs T K) (ended : Ended) : Type 0 where
  pub inputs : ended.inputs.items ≡ map (λ (x : Input S). end_or x.end) xs
  pub log : ended.log ≡ log_fault taker.log
  pub stages_are : ended.stages.items ≡ wanting stages taker.outputs.wanting
  pub outputs : ended.outputs.items ≡ map (λ (o : Output T K). o.fault) taker.outputs.outputs.items
  pub counts : (cs : List RunCounts) × Each (λ _ (x : Input S) c. CountsAll x c) 0 xs cs × (ended.counts ≡ sums cs)

-- it is the run of a description that is told of
pub record TellsRun (conf : Conf) (run : RunCame) (ended : Ended) : Type 0 where
  pub inputs : ended.inputs.items ≡ ends_of run
  pub log : ended.log ≡ run.log
  pub stages : ended.stages.items ≡ run.stages
  pub outputs : ended.outputs.items ≡ run.outputs
  pub counts : meant_counts ended.counts ≡ run.counts
  pub inputs_long : length ended.inputs.items ≡ length conf.inputs
  pub stages_long : length ended.stages.items ≡ length conf.stages
  pub outputs_long : length ended.outputs.items ≡ length conf.outputs

module _ {S T : Type 0} (left : S → Option (List Scripted)) (faults : S → ℕ) (stands : OutputConf → List Element → List Item → T → Type 0) where
  -- What comes of a run each of whose outputs has its texts made so, and what is told of it. Nothing was said yet.
  abbrev pub CameToRun : Conf → List T → Ended → Seen → Seen → Type 0
  CameToRun conf texts ended old new = (run : RunCame) × TellsRun conf run ended × (new.say ≡ old.say)
      × ((rows : List Element) → Each (λ _ output makes. stands output rows [] makes) 0 conf.outputs texts → Comes left faults (Described conf rows) (Ran run) old new)
