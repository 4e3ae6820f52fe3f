use Rattle.std.proofs.Common.{◌++◌, take, ap, ◌∙◌, arith}
use Rattle.value_text.proofs.HexLemmas.{hex_pair_at}
use Rattle.value_text.proofs.hexadecimal.place_hex_pair.Goals as goal

pub returns : goal.returns
returns c = c.place_two.ensures ∙ ap (λ l. take c.args.at c.args.text.now ++ l) (hex_pair_at c.args.octet (omega (arith, c.ranges.octet.fits)))
