-- The lines of what could not be opened.
use Rattle.std.specs.Prelude.{ℕ, List, Some, flat_map, map, take, drop}
use Rattle.config_spec.specs.declared.conf.InputConf.{InputConf}
use Rattle.config_spec.specs.declared.conf.OutputConf.{OutputConf}
use Rattle.call_spec.specs.declared.end.InputEnd.TheVariants as end
use Rattle.call_spec.specs.declared.end.OutputFault.TheVariants as fault
use Rattle.call_spec.specs.Lines.{input_line, output_line as fault_line, names_of}
use Rattle.call_spec.specs.Plan.{input_party, output_party}

-- the line of the input of this index whose source failed, if there is one
abbrev pub source_line : List InputConf → ℕ → List ℕ
source_line inputs i = flat_map (λ name. input_line name end.Failed) (take 1 (drop i (names_of (map input_party inputs))))

-- and of an output's sink
abbrev pub output_line : List OutputConf → ℕ → List ℕ
output_line outputs j = flat_map (λ name. fault_line name (Some fault.Failed)) (take 1 (drop j (names_of (map output_party outputs))))
