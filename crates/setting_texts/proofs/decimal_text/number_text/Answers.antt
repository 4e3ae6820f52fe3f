use Rattle.std.proofs.Common.{◌≡◌, sym, nat_le, true, false, arith}
use Rattle.std.proofs.lemmas.Bool.Decides.{nat_tests}
use Rattle.config_spec.specs.Texts.{are_digits}
use Rattle.setting_texts.proofs.NumberLemmas.{number_parsed, number_not}
use Rattle.setting_texts.proofs.decimal_text.number_text.Goals as goal

pub returns-then-not-are_digits-clause-value : goal.returns-then-not-are_digits-clause-value
returns-then-not-are_digits-clause-value c = sym (number_not _ _ (grind arith))

pub returns-then-number-most-clause-value : goal.returns-then-number-most-clause-value
returns-then-number-most-clause-value c =
    let digits : are_digits c.args.text.now ≡ true = grind arith in
    let known = rw c.in-Ok.is at (number_parsed c.args.most c.args.text.now c.parse.result c.parse.ensures.value.0 digits (omega arith)) in
    let small : nat_le c.in-Ok.number c.args.most ≡ true = grind (arith, nat_tests) in
    sym (rw small at known)

pub returns-else-number-most-clause-value : goal.returns-else-number-most-clause-value
returns-else-number-most-clause-value c =
    let digits : are_digits c.args.text.now ≡ true = grind arith in
    let known = rw c.in-Ok.is at (number_parsed c.args.most c.args.text.now c.parse.result c.parse.ensures.value.0 digits (omega arith)) in
    let large : nat_le c.in-Ok.number c.args.most ≡ false = grind (arith, nat_tests) in
    sym (rw large at known)

pub returns-in-Err-clause-value : goal.returns-in-Err-clause-value
returns-in-Err-clause-value c =
    let digits : are_digits c.args.text.now ≡ true = grind arith in
    sym (rw c.in-Err.is at (number_parsed c.args.most c.args.text.now c.parse.result c.parse.ensures.value.0 digits (omega arith)))
