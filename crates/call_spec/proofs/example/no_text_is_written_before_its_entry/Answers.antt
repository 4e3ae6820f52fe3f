use Rattle.call_spec.proofs.LogLemmas.{fewer, fewer_whole, more_whole}
use Rattle.call_spec.proofs.example.no_text_is_written_before_its_entry.Goals as goal

pub returns : goal.returns
returns c = record { fewer = fewer; fewer_whole = fewer_whole; more_whole = more_whole }
