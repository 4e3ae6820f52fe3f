use Rattle.std.proofs.Common.{◌++◌, take, ap, ◌∙◌, sym, arith}
use Rattle.value_text.proofs.DigitLemmas.{placed_more}
use Rattle.value_text.proofs.HexLemmas.{hex_of_octet, hex_of_two}
use Rattle.value_text.proofs.groups.place_group.Goals as goal

pub returns-then-high-eq0-clause-grown : goal.returns-then-high-eq0-clause-grown
returns-then-high-eq0-clause-grown c = c.place_short_pair.ensures.grown ∙ ap (λ l. take c.args.at c.args.text.now ++ l) (sym (hex_of_octet c.args.group c.if-high-eq0.true))

pub returns-clause-grown : goal.returns-clause-grown
returns-clause-grown c =
    placed_more _ _ _ _ _ _ _ _ _ c.place_short_pair-end.ensures.grown c.place_hex_pair.ensures (hex_of_two c.args.group c.if-high-eq0.false (omega (arith, c.ranges.group.fits)))
