use Rattle.result_spec.proofs.ThroughLemmas.{run_read, sources_read}
use Rattle.result_spec.proofs.again.the_file_of_a_run_is_read_again.Goals as goal

pub returns : goal.returns
returns c = record { from_arrivals = run_read; from_sources = sources_read }
