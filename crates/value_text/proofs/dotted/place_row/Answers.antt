use Rattle.std.proofs.Common.{◌++◌, take, ap, ◌∙◌, arith}
use Rattle.value_text.proofs.RowLemmas.{row_is}
use Rattle.value_text.proofs.dotted.place_row.Goals as goal

pub returns : goal.returns
returns c = c.place_quad.ensures ∙ ap (λ l. take c.args.at c.args.text.now ++ l) (row_is c.args.octet (omega (arith, c.ranges.octet.fits)))
