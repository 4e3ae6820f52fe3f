-- The names and the paths of instances, as they are gathered.
use Rattle.std.specs.Prelude.{List, map}
use Rattle.config_spec.specs.declared.marked.Marked.{Marked}
use Rattle.config_spec.specs.declared.conf.InputConf.{InputConf}
use Rattle.config_spec.specs.declared.conf.StageConf.{StageConf}
use Rattle.config_spec.specs.declared.conf.OutputConf.{OutputConf}
use Rattle.config_spec.specs.Repeats.{plain}

abbrev pub inputs_named : List InputConf → List Marked
inputs_named inputs = map (λ input. plain input.spec.name) inputs

abbrev pub stages_named : List StageConf → List Marked
stages_named stages = map (λ stage. plain stage.name) stages

abbrev pub outputs_named : List OutputConf → List Marked
outputs_named outputs = map (λ output. plain output.name) outputs

abbrev pub outputs_written : List OutputConf → List Marked
outputs_written outputs = map (λ output. plain output.path) outputs
