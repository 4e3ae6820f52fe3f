use Rattle.std.proofs.Common.{◌++◌, take, ap, sym, ◌∙◌, arith}
use Rattle.std.proofs.lemmas.Fmt.{decimal_digit}
use Rattle.itoa.proofs.Decimal.{decimal_two}
use Rattle.value_text.proofs.digits.place_below_100.Goals as goal

pub returns-then-number-lt10-clause-grown : goal.returns-then-number-lt10-clause-grown
returns-then-number-lt10-clause-grown c = c.place_one.ensures ∙ ap (λ l. take c.args.at c.args.text.now ++ l) (sym (decimal_digit c.args.number c.if-number-lt10.true))

pub returns-clause-grown : goal.returns-clause-grown
returns-clause-grown c = c.place_pair.ensures ∙ ap (λ l. take c.args.at c.args.text.now ++ l) (sym (decimal_two c.args.number (omega (arith, c.if-number-lt10.false)) c.requires.few))
