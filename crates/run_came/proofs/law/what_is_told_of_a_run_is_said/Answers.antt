use Rattle.run_came.proofs.ToldLemmas.{code_told, lines_told}
use Rattle.run_came.proofs.law.what_is_told_of_a_run_is_said.Goals as goal

pub returns-clause-lines : goal.returns-clause-lines
returns-clause-lines c conf rows run ended t = lines_told conf rows run ended t

pub returns-clause-status : goal.returns-clause-status
returns-clause-status c conf run ended t = code_told conf run ended t
