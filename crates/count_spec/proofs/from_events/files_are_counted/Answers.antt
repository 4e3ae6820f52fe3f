use Rattle.count_spec.proofs.EventLemmas.{one_flow_counted, torn_counted, variable_names_counted, empty_template_counted, two_templates_counted, two_inputs_counted}
use Rattle.count_spec.proofs.from_events.files_are_counted.Goals as goal

pub returns : goal.returns
returns c = record { one_flow = one_flow_counted; torn = torn_counted; variable_names = variable_names_counted; empty_template = empty_template_counted; two_templates = two_templates_counted; two_inputs = two_inputs_counted }
