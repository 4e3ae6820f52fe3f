use Rattle.std.proofs.Common.{arith}
use Rattle.itoa.proofs.Decimal.{decimal_four}
use Rattle.value_text.proofs.DigitLemmas.{placed_more, decimal_eight}
use Rattle.value_text.proofs.digits.place_u32.Goals as goal

pub returns-then-number-lt100000000-clause-grown : goal.returns-then-number-lt100000000-clause-grown
returns-then-number-lt100000000-clause-grown c =
    placed_more _ _ _ _ _ _ _ _ _ c.place_below_10000-end.ensures.grown c.place_four.ensures (decimal_four c.args.number (omega (arith, c.if-number-lt10000.false)) (omega (arith, c.ranges.number.fits)))

pub returns-clause-grown : goal.returns-clause-grown
returns-clause-grown c =
    placed_more _ _ _ _ _ _ _ _ _ c.place_below_10000-end-2.ensures.grown c.place_eight.ensures (decimal_eight c.args.number (omega (arith, c.if-number-lt100000000.false)) (omega (arith, c.ranges.number.fits)))
