use Rattle.std.proofs.Common.{◌+◌, take, ap, ◌∙◌, arith}
use Rattle.value_text.proofs.RowLemmas.{row_digits, row_dotted}
use Rattle.value_text.proofs.dotted.place_octet.Goals as goal

pub returns-clause-digits : goal.returns-clause-digits
returns-clause-digits c =
    ap (λ k. take (c.args.at + k) c.place_row.new.text) c.digit_count.ensures
    ∙ row_digits c.args.octet c.args.at c.args.text.now c.place_row.new.text (omega (arith, c.ranges.octet.fits)) (omega (arith, c.requires)) c.place_row.ensures

pub returns-clause-dot : goal.returns-clause-dot
returns-clause-dot c =
    ap (λ k. take (c.args.at + k + 1) c.place_row.new.text) c.digit_count.ensures
    ∙ row_dotted c.args.octet c.args.at c.args.text.now c.place_row.new.text (omega (arith, c.ranges.octet.fits)) (omega (arith, c.requires)) c.place_row.ensures
