-- What is said of a run that ended so, and its status.
use Rattle.std.specs.Prelude.{ℕ, List, ◌++◌, map, max}
use Rattle.config_spec.specs.declared.conf.Conf.{Conf}
use Rattle.config_spec.specs.declared.conf.InputConf.{InputConf}
use Rattle.config_spec.specs.declared.conf.StageConf.{StageConf}
use Rattle.config_spec.specs.declared.conf.OutputConf.{OutputConf}
use Rattle.call_spec.specs.Lines.{input_line, log_line, stage_line, octets_line, output_line, lines_by}
use Rattle.call_spec.specs.Status.{end_code, fault_code, output_code, stage_code, worst}
use Rattle.call_spec.specs.Summary.{summary_text}
use Rattle.run_lines.specs.declared.ended.Ended.{Ended}
use Rattle.run_lines.specs.Rows.{meant_counts}

abbrev pub input_name : InputConf → List ℕ
input_name conf = conf.spec.name

abbrev pub stage_name : StageConf → List ℕ
stage_name conf = conf.name

abbrev pub output_name : OutputConf → List ℕ
output_name conf = conf.name

-- the lines of its faults: those of the inputs, of the log, of the intermediates and of the outputs
abbrev pub fault_text : Conf → Ended → List ℕ
fault_text conf ended = lines_by input_line (map input_name conf.inputs) ended.inputs.items
    ++ (log_line conf.order_log ended.log ++ (lines_by stage_line (map stage_name conf.stages) ended.stages.items ++ lines_by output_line (map output_name conf.outputs) ended.outputs.items))

-- and behind them its summary
abbrev pub run_text : Conf → Ended → List ℕ
run_text conf ended = fault_text conf ended ++ summary_text (meant_counts ended.counts)

-- and of generated load how many octets each output has
abbrev pub load_text : Conf → Ended → List ℕ → List ℕ
load_text conf ended counts = run_text conf ended ++ lines_by octets_line (map output_name conf.outputs) counts

-- the greatest status that came
abbrev pub ended_code : Ended → ℕ
ended_code ended = max (worst (map end_code ended.inputs.items)) (max (fault_code ended.log) (max (worst (map stage_code ended.stages.items)) (worst (map output_code ended.outputs.items))))
