use Rattle.indexmap.proofs.CallerLemmas.{keys-with_value_at}
use Rattle.input_lane.proofs.links.bring_at.Goals as goal

pub returns-clause-keys : goal.returns-clause-keys
returns-clause-keys c = keys-with_value_at c.args.streams.now c.args.i c.bring.new.self
