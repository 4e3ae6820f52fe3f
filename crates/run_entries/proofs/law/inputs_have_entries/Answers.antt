use Rattle.run_entries.proofs.EndLemmas.{entries_of_all, input_ends, none_yet}
use Rattle.run_entries.proofs.law.inputs_have_entries.Goals as goal

pub returns-clause-begin : goal.returns-clause-begin
returns-clause-begin g c left faults all firsts xs e = none_yet left faults all firsts xs e

pub returns-clause-came : goal.returns-clause-came
returns-clause-came g c left faults conf entries firsts xs s ended = entries_of_all left faults conf entries firsts xs s ended

pub returns-clause-end : goal.returns-clause-end
returns-clause-end g c left faults all entries k pair x came some fresh = input_ends left faults all entries k pair x came some fresh
