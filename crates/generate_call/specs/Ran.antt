-- What came of generated load, and what its run begins with.
use Rattle.std.specs.Prelude.{ℕ, ◌≡◌, false, List, [], ◌∷◌, Some, None, length, replicate}
use Rattle.std.specs.List.{AllByRecursion}
use Rattle.text_spec.specs.Builtin.{builtin_rows}
use Rattle.site_io.specs.declared.tally_sink.TallySink.{TallySink}
use Rattle.load_spec.specs.Load.{load_events}
use Rattle.load_gen.specs.declared.source.LoadSource.{LoadSource}
use Rattle.load_gen.specs.Left.{load_left, load_faults}
use Rattle.call_spec.specs.Came.{RunCame}
use Rattle.call_spec.specs.Leaves.{LoadLeaves}
use Rattle.call_spec.specs.Load.{load_conf}
use Rattle.run_input.specs.declared.input.Input.{Input}
use Rattle.run_inputs.specs.Made.{AreMade}
use Rattle.run_came.specs.Told.{TellsRun}
use Rattle.output_texts.specs.declared.texts.OutputTexts.{OutputTexts}
use Rattle.described_run.specs.declared.taker.Ready.{Ready}
use Rattle.described_run.specs.Ready.{IsReady}
use Rattle.collect_call.specs.Runs.{AreMade as AreMakers}
use Rattle.generate_call.specs.declared.load.Load.{Load}

-- how many octets a sink was given
abbrev pub total_of : TallySink → ℕ
total_of sink = sink.total

-- room for what comes of a run
pub record HasRoom (load : Load) : Type 0 where
  pub inputs : length load.ended.inputs.items ≡ length load_conf.inputs
  pub stages : load.ended.stages.items ≡ replicate (length load_conf.stages) false
  pub outputs : length load.ended.outputs.items ≡ length load_conf.outputs
  pub lengths : length load.lengths.items ≡ length load_conf.outputs

-- an input over a source that has all events of the load, and a sink for each output that was given nothing
pub record IsOver (number count : ℕ) (xs : List (Input LoadSource)) (sinks : List TallySink) (ready : Ready OutputTexts TallySink) : Type 0 where
  pub source : LoadSource
  pub events : load_left source ≡ load_events number count
  pub made : AreMade (λ s. Some (load_left s)) load_faults load_conf (source ∷ []) xs
  pub long : length sinks ≡ length load_conf.outputs
  pub fresh : AllByRecursion (λ k. total_of k ≡ 0) sinks
  pub ready_for : IsReady load_conf ready
  pub makers : AreMakers builtin_rows load_conf.outputs ready.texts.items

-- what came of it, and what is told of that
pub record CameToLoad (number count : ℕ) (load : Load) : Type 0 where
  pub run : RunCame
  pub tells : TellsRun load_conf run load.ended
  pub leaves : LoadLeaves number count run load.lengths.items
  pub as_many : length load.lengths.items ≡ length load_conf.outputs
