-- What is made ready for a run before anything is opened, and outputs that have begun.
use Rattle.std.specs.Prelude.{◌≡◌, ◌≤◌, [], None, length, vec_capacity}
use Rattle.config_spec.specs.declared.conf.Conf.{Conf}
use Rattle.logged_outputs.specs.declared.output.Output.{Output}
use Rattle.stage_chain.specs.Behind.{works_of}
use Rattle.described_run.specs.declared.taker.Ready.{Ready}

-- an output that has begun
abbrev pub output_over : {T K : Type 0} → T → K → Output T K
output_over texts sink = record { texts = texts; sink = sink; fault = None }

-- the intermediates of a description, a maker of texts for each of its outputs, and room for as many
pub record IsReady {T K : Type 0} (conf : Conf) (ready : Ready T K) : Type 0 where
  pub works : ready.stages ≡ works_of conf.stages
  pub makers : length ready.texts.items ≡ length conf.outputs
  pub empty : ready.room.items ≡ []
  pub room : length ready.texts.items ≤ vec_capacity ready.room
