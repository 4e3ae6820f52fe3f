use Rattle.std.proofs.Common.{inl, inr, arith}
use Rattle.value_text.proofs.HexLemmas.{short_placed}
use Rattle.value_text.proofs.hexadecimal.place_short_pair.Goals as goal
use Rattle.value_text.proofs.hexadecimal.place_short_pair.Goals.{then-octet-lt16, else-octet-lt16}

pub returns-clause-grown : goal.returns-clause-grown
returns-clause-grown c =
    short_placed c.args.octet c.if-octet-lt16.zeros c.args.at c.args.text.now c.place_two.new.text (omega (arith, c.ranges.octet.fits)) (omega (arith, c.requires)) c.place_two.ensures
    (elim c.if-octet-lt16.branch [ then-octet-lt16 w ↦ inl (w.if-octet-lt16.true, w.zeros-is) | else-octet-lt16 w ↦ inr (w.if-octet-lt16.false, w.zeros-is) ])
