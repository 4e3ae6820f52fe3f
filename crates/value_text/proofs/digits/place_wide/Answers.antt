use Rattle.std.proofs.Common.{refl, arith}
use Rattle.value_text.proofs.DigitLemmas.{placed_more, decimal_eight, decimal_sixteen}
use Rattle.value_text.proofs.digits.place_wide.Goals as goal

pub returns-then-high-clause-grown : goal.returns-then-high-clause-grown
returns-then-high-clause-grown c =
    placed_more _ _ _ _ _ _ _ _ _ c.place_u32-end.ensures.grown c.place_eight.ensures (decimal_eight c.args.number (omega (arith, c.requires.wide)) (omega (arith, c.ranges.number.fits)))

pub returns-clause-grown : goal.returns-clause-grown
returns-clause-grown c =
    let front = placed_more _ _ _ _ _ _ _ _ _ c.place_below_10000-end.ensures.grown c.place_eight-2.ensures refl in
    placed_more _ _ _ _ _ _ _ _ _ front c.place_eight-3.ensures (decimal_sixteen c.args.number (omega (arith, c.if-high.false)) (omega (arith, c.ranges.number.fits)))
