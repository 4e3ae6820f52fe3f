use Rattle.std.proofs.Common.{subst}
use Rattle.template_snapshot.specs.Entry.{AreInOrder}
use Rattle.template_snapshot.proofs.FrozenLemmas.{greatest_of}
use Rattle.template_snapshot.proofs.snapshot.Snapshot.get_is_the_greatest.Goals as goal

pub returns : goal.returns
returns c = greatest_of c.args.e c.args.id c.args.self.now (subst AreInOrder c.self.view_is c.self.invariant)
