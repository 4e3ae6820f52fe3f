use Rattle.input_lane.proofs.MarkLemmas.{counts_marks}
use Rattle.arrival_spec.specs.Run.{marks_of}
use Rattle.input_lane.proofs.law.an_input_counts_its_events.Goals as goal

pub returns : goal.returns
returns c = λ settings input taken out x over. counts_marks (marks_of settings input taken) x.state.tally over.counts
