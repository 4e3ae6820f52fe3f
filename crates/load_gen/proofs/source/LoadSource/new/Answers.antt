use Rattle.std.proofs.Common.{[], ◌∷◌, ◌++◌, map, ap}
use Rattle.arrival_spec.specs.declared.event.Scripted.TheVariants.{Opened, Bytes, Closed}
use Rattle.load_gen.proofs.LeftLemmas.{all_left}
use Rattle.load_gen.proofs.source.LoadSource.new.Goals as goal

pub returns-clause-left : goal.returns-clause-left
returns-clause-left c = ap (λ messages. Opened 0 ∷ (map (λ x. Bytes 0 x) messages ++ Closed 0 ∷ [])) (all_left c.args.number c.args.count)
