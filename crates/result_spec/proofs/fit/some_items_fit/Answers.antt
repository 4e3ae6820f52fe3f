use Rattle.result_spec.proofs.FitLemmas.{some_fit}
use Rattle.result_spec.proofs.fit.some_items_fit.Goals as goal

pub returns : goal.returns
returns c = some_fit
