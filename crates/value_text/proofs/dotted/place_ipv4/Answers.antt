use Rattle.std.proofs.Common.{arith}
use Rattle.value_text.proofs.DottedLemmas.{address_dotted}
use Rattle.value_text.proofs.dotted.place_ipv4.Goals as goal

pub returns-clause-grown : goal.returns-clause-grown
returns-clause-grown c = rw (← address_dotted c.args.value.now c.requires.four (λ i. omega (arith, c.type_inv.value i))) c.place_dotted.ensures.grown
