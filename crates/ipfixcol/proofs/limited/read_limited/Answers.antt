use Rattle.std.proofs.Common.{ap, arith}
use Rattle.ipfixcol.proofs.Whole.{whole}
use Rattle.ipfixcol.proofs.limited.read_limited.Goals as goal

pub returns-else-len-gt-MOST-clause-whole : goal.returns-else-len-gt-MOST-clause-whole
returns-else-len-gt-MOST-clause-whole g c =
    whole _ (g.R.Read.remaining c.take-front.result.inner) c.take-front.result.limit c.new-bytes.result.items c.read_to_end.new.buf.items c.from_vec.result
    (ap g.R.Read.remaining c.take-front.ensures.inner) c.new-bytes.ensures.items c.in-Ok.ensures.bytes (omega (arith, c.take-front.ensures.limit)) c.from_vec.ensures
