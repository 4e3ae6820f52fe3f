use Rattle.result_spec.proofs.TimedLemmas.{some_by_domain, others_by_domain}
use Rattle.result_spec.proofs.timed.outputs_have_the_lines_of_their_domains.Goals as goal

pub returns : goal.returns
returns c = record { some = some_by_domain; others = others_by_domain }
