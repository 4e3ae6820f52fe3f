-- What is said of a run that is told of.
use Rattle.std.proofs.Common.{◌≡◌, List, [], ◌∷◌, ◌++◌, map, max, refl, ap, ◌∙◌}
use Rattle.config_spec.specs.declared.conf.Conf.{Conf}
use Rattle.config_spec.specs.declared.conf.InputConf.{InputConf}
use Rattle.config_spec.specs.declared.conf.OutputConf.{OutputConf}
use Rattle.text_spec.specs.declared.element.Element.{Element}
use Rattle.call_spec.specs.Came.{InputCame, RunCame}
use Rattle.call_spec.specs.Came.Came.{Ran}
use Rattle.call_spec.specs.Lines.{input_line, lines_by, lines_of, log_line, names_of, output_line, stage_line}
use Rattle.call_spec.specs.Plan.{input_party, output_party}
use Rattle.call_spec.specs.Plan.Plan.{Described}
use Rattle.call_spec.specs.Status.{end_code, fault_code, output_code, run_code, stage_code, worst}
use Rattle.call_spec.specs.Summary.{summary_text}
use Rattle.run_lines.specs.declared.ended.Ended.{Ended}
use Rattle.run_lines.specs.Ended.{ended_code, input_name, output_name, run_text, stage_name}
use Rattle.run_came.specs.Told.{TellsRun}

inputs_named : (inputs : List InputConf) → map input_name inputs ≡ names_of (map input_party inputs)
inputs_named [] = refl
inputs_named (c ∷ inputs) = ap (λ l. input_name c ∷ l) (inputs_named inputs)

pub outputs_named : (outputs : List OutputConf) → map output_name outputs ≡ names_of (map output_party outputs)
outputs_named [] = refl
outputs_named (c ∷ outputs) = ap (λ l. output_name c ∷ l) (outputs_named outputs)

codes_of : (cames : List InputCame) → map end_code (map (λ (c : InputCame). c.end) cames) ≡ map (λ (c : InputCame). end_code c.end) cames
codes_of [] = refl
codes_of (c ∷ cames) = ap (λ l. end_code c.end ∷ l) (codes_of cames)

pub lines_told : (conf : Conf) (rows : List Element) (run : RunCame) (ended : Ended) → TellsRun conf run ended → run_text conf ended ≡ lines_of (Described conf rows) (Ran run)
lines_told conf rows run ended t = λ i.
    (lines_by input_line (inputs_named conf.inputs i) (t.inputs i)
    ++ (log_line conf.order_log (t.log i) ++ (lines_by stage_line (map stage_name conf.stages) (t.stages i) ++ lines_by output_line (outputs_named conf.outputs i) (t.outputs i))))
    ++ summary_text (t.counts i)

pub code_told : (conf : Conf) (run : RunCame) (ended : Ended) → TellsRun conf run ended → ended_code ended ≡ run_code run
code_told conf run ended t =
    let codes = ap (map end_code) t.inputs ∙ codes_of run.inputs in
    λ i. max (worst (codes i)) (max (fault_code (t.log i)) (max (worst (map stage_code (t.stages i))) (worst (map output_code (t.outputs i)))))
