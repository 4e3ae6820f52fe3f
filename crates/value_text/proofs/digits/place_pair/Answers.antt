use Rattle.std.proofs.Common.{◌++◌, take, ap, ◌∙◌}
use Rattle.value_text.proofs.DigitLemmas.{pair_at}
use Rattle.value_text.proofs.digits.place_pair.Goals as goal

pub returns : goal.returns
returns c = c.place_two.ensures ∙ ap (λ l. take c.args.at c.args.text.now ++ l) (pair_at c.args.number c.requires.few)
