use Rattle.result_spec.proofs.TextLemmas.{one_flow_viewed, without_options_result, skipped_viewed}
use Rattle.result_spec.proofs.texts.a_file_has_its_view.Goals as goal

pub returns : goal.returns
returns c = record { one_flow = one_flow_viewed; without_options = without_options_result; skipped = skipped_viewed }
