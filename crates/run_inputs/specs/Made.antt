-- The inputs of a description over their sources.
use Rattle.std.specs.Prelude.{ℕ, [], List, Option, map}
use Rattle.arrival_spec.specs.declared.event.Scripted.{Scripted}
use Rattle.config_spec.specs.declared.conf.Conf.{Conf}
use Rattle.result_spec.specs.Result.{inputs_of}
use Rattle.call_spec.specs.Pairs.{Each}
use Rattle.run_input.specs.declared.input.Input.{Input}
use Rattle.run_input.specs.Inputs.{HasGiven}

-- the sources of inputs, in order
abbrev pub sources_of : {S : Type 0} → List (Input S) → List S
sources_of xs = map (λ x. x.inlet.source) xs

-- the inputs of a description, each over its source, gave nothing yet
abbrev pub AreMade : {S : Type 0} → (S → Option (List Scripted)) → (S → ℕ) → Conf → List S → List (Input S) → Type 0
AreMade left faults conf sources xs = Each (λ k first x. HasGiven left faults first (inputs_of conf k) k [] [] x) 0 sources xs
