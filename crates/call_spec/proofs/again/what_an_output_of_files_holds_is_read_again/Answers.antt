use Rattle.call_spec.proofs.AgainLemmas.{limited_read, whole_read}
use Rattle.call_spec.proofs.again.what_an_output_of_files_holds_is_read_again.Goals as goal

pub returns : goal.returns
returns c = record { whole = whole_read; limited = limited_read }
