use Rattle.result_spec.proofs.TextLemmas.{nothing_text, one_flow_text, padded_flow_text, two_flows_text, variable_names_text, two_templates_text, repeated_element_text, options_text}
use Rattle.result_spec.proofs.texts.a_file_has_a_line_for_each_record.Goals as goal

pub returns : goal.returns
returns c = record { nothing = nothing_text; one_flow = one_flow_text; padded_flow = padded_flow_text; two_flows = two_flows_text; variable_names = variable_names_text; two_templates = two_templates_text; repeated_element = repeated_element_text; options = options_text }
