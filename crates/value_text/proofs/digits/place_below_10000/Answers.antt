use Rattle.std.proofs.Common.{arith}
use Rattle.itoa.proofs.Decimal.{decimal_pair}
use Rattle.value_text.proofs.DigitLemmas.{placed_more}
use Rattle.value_text.proofs.digits.place_below_10000.Goals as goal

pub returns-clause-grown : goal.returns-clause-grown
returns-clause-grown c = placed_more _ _ _ _ _ _ _ _ _ c.place_below_100-end.ensures.grown c.place_pair.ensures (decimal_pair c.args.number (omega (arith, c.if-number-lt100.false)) (omega (arith, c.requires.few)))
