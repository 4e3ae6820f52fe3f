use Rattle.result_spec.proofs.LimitedLemmas.{both_come}
use Rattle.result_spec.proofs.limited.a_file_ends_at_its_last_template_id.Goals as goal

pub returns-clause-come : goal.returns-clause-come
returns-clause-come c = both_come
