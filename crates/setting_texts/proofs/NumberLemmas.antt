-- A decimal number beside what `parse` says of it.
use Rattle.std.proofs.Common.{◌≡◌, ◌<◌, ◌^◌, ℕ, List, Some, None, Result, Ok, Err, MatchResult, true, false, cond, nat_le, arith, rules}
use Rattle.std.proofs.lemmas.Bool.Decides.{nat_tests}
use Rattle.std.proofs.lemmas.Str.Parse.{IsNumeralModel, numerals_by_value, parse_digits}
use Rattle.std.specs.Str.Parse.{ParsesUnsigned, digits_value}
use Rattle.config_spec.specs.Texts.{are_digits, number_text}

own : IsNumeralModel (λ ds. are_digits ds ≡ true) (digits_value 10)
own = numerals_by_value _ (search rules)

pub number_parsed : {E : Type 0} (most : ℕ) (text : List ℕ) (r : Result ℕ E) → ParsesUnsigned 64 10 text r → are_digits text ≡ true → most < 2 ^ 64
    → MatchResult r (λ n. number_text most text ≡ cond (nat_le n most) (Some n) None) (λ e. number_text most text ≡ None)
unfolding number_text
number_parsed {E} most text (Ok n) h digits small =
    let (p, e) = parse_digits own {E = E} 64 text (Ok n) h digits in
    grind (arith, nat_tests)
number_parsed {E} most text (Err e) h digits small =
    let no = parse_digits own {E = E} 64 text (Err e) h digits in
    grind (arith, nat_tests)

pub number_not : (most : ℕ) (text : List ℕ) → are_digits text ≡ false → number_text most text ≡ None
unfolding number_text
number_not most text h = grind (arith, nat_tests)
