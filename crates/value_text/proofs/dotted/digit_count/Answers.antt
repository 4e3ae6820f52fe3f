use Rattle.std.proofs.Common.{arith}
use Rattle.value_text.proofs.RowLemmas.{count_is}
use Rattle.value_text.proofs.dotted.digit_count.Goals as goal

pub returns : goal.returns
returns c = count_is c.args.octet (omega (arith, c.ranges.octet.fits))
