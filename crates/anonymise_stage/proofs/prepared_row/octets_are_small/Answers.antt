use Rattle.std.proofs.Common.{arith}
use Rattle.anonymise_stage.proofs.RangeLemmas.{octets_fit}
use Rattle.anonymise_stage.proofs.prepared_row.octets_are_small.Goals as goal

pub returns : goal.returns
returns c = octets_fit c.args.octets.now (λ i. omega (arith, c.type_inv.octets i))
