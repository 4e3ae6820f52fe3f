use Rattle.result_spec.proofs.TimedLemmas.{by_time_text, lifetime_text, late_text}
use Rattle.result_spec.proofs.timed.export_times_decide_the_lines.Goals as goal

pub returns : goal.returns
returns c = record { by_time = by_time_text; lifetime = lifetime_text; late = late_text }
