-- Numbers beside the texts that they are printed as.
use Rattle.std.proofs.Common.{◌≡◌, ◌≢◌, ◌<◌, ◌≤◌, ◌^◌, ℕ, Bool, true, false, List, [], ◌∷◌, Option, Some, None, length, get_or, nat_le, nat_lt, cond, inl, inr, refl, ap, sym, subst, ◌∙◌, arith, rules}
use Rattle.std.specs.Prelude.{◌==◌, ◌&&◌}
use Rattle.std.specs.Fmt.{decimal}
use Rattle.std.specs.Str.Parse.{digits_value}
use Rattle.std.proofs.lemmas.Bool.{cases_Bool, cases_lt, and_parts, le-leb, leb-true, lt-ltb, ltb-true, ne_eqb, true≢false}
use Rattle.std.proofs.lemmas.Str.Parse.{IsNumeralModel, numerals_by_value}
use Rattle.std.proofs.lemmas.Fmt.{digits_decimal, digits_value-decimal, decimal_nonempty, first_decimal, decimal_digit, decimal-digits_value}
use Rattle.config_spec.specs.Texts.{are_digits, number_text}
use Rattle.words_spec.specs.Numbers.{has_needless_zero, at_least, number_between}

own : IsNumeralModel (λ ds. are_digits ds ≡ true) (digits_value 10)
own = numerals_by_value _ (search rules)

-- the first digit of a number is 0 in the text of 0 alone
no_zero : (word : List ℕ) → (get_or word 0 0 ≢ 48) → has_needless_zero word ≡ false
no_zero [] other = refl
no_zero (first ∷ []) other = refl
no_zero (first ∷ second ∷ rest) other = ne_eqb first 48 other

pub printed_plain : (n : ℕ) → n < 2 ^ 64 → has_needless_zero (decimal n) ≡ false
printed_plain n small = elim (cases_lt 0 n) [
  | inl some ↦ let first = first_decimal n some small in no_zero (decimal n) (λ e. absurd (omega arith))
  | inr none ↦ ap has_needless_zero (decimal_digit n (omega arith))
]

-- a text of digits is a number up to the most
text_number : (most : ℕ) (word : List ℕ) → 0 < length word → are_digits word ≡ true → digits_value 10 word ≤ most → number_text most word ≡ Some (digits_value 10 word)
unfolding number_text
text_number most word some digits small = rw (lt-ltb 0 (length word) some, digits, le-leb (digits_value 10 word) most small) refl

pub printed_number : (least most n : ℕ) → n < 2 ^ 64 → least ≤ n → n ≤ most → number_between least most (decimal n) ≡ Some n
printed_number least most n small low high =
    let value : digits_value 10 (decimal n) ≡ n = digits_value-decimal own n small in
    let text : number_text most (decimal n) ≡ Some n =
    text_number most (decimal n) (decimal_nonempty n small) (digits_decimal own n small) (subst (λ v. v ≤ most) (sym value) high) ∙ ap (λ (v : ℕ). Some v) value in
    ap (λ b. cond b None (at_least least (number_text most (decimal n)))) (printed_plain n small)
    ∙ (ap (at_least least) text ∙ ap (λ b. cond b (Some n) None) (le-leb least n low))

-- what a number that was found says of its text
record IsNumber (least most n : ℕ) (word : List ℕ) : Type 0 where
  plain : has_needless_zero word ≡ false
  low : least ≤ n
  high : n ≤ most
  some : 0 < length word
  digits : are_digits word ≡ true
  value : digits_value 10 word ≡ n

if_some : (b : Bool) (x n : ℕ) → cond b (Some x) None ≡ Some n → (b ≡ true) × (x ≡ n)
if_some true x n e = (refl, cc)
if_some false x n e = absurd cc

some_text : (most n : ℕ) (word : List ℕ) → number_text most word ≡ Some n → ((0 < length word) × (are_digits word ≡ true)) × ((digits_value 10 word ≡ n) × (n ≤ most))
unfolding number_text
some_text most n word e =
    let found = if_some ((nat_lt 0 (length word) && are_digits word) && nat_le (digits_value 10 word) most) (digits_value 10 word) n e in
    let both = and_parts (nat_lt 0 (length word) && are_digits word) (nat_le (digits_value 10 word) most) found.0 in
    let front = and_parts (nat_lt 0 (length word)) (are_digits word) both.0 in
    ((ltb-true 0 (length word) front.0, front.1), (found.1, subst (λ v. v ≤ most) found.1 (leb-true (digits_value 10 word) most both.1)))

is_number : (least most n : ℕ) (word : List ℕ) → number_between least most word ≡ Some n → IsNumber least most n word
is_number least most n word e = elim (cases_Bool (has_needless_zero word)) [
  | inl zero ↦ absurd (let f = ap (λ b. cond b None (at_least least (number_text most word))) (sym zero) ∙ e in cc)
  | inr plain ↦ by_text (number_text most word) refl plain (ap (λ b. cond b None (at_least least (number_text most word))) (sym plain) ∙ e)
]
  where
    by_text : (found : Option ℕ) → number_text most word ≡ found → has_needless_zero word ≡ false → at_least least found ≡ Some n → IsNumber least most n word
    by_text None is plain f = absurd cc
    by_text (Some m) is plain f =
        let h = if_some (nat_le least m) m n f in
        let t = some_text most n word (is ∙ ap (λ (v : ℕ). Some v) h.1) in
        record { plain = plain; low = subst (λ v. least ≤ v) h.1 (leb-true least m h.0); high = t.1.1; some = t.0.0; digits = t.0.1; value = t.1.0 }

pub least_kept : (least most n : ℕ) (word : List ℕ) → number_between least most word ≡ Some n → least ≤ n
least_kept least most n word e = (is_number least most n word e).low

pub most_kept : (least most n : ℕ) (word : List ℕ) → number_between least most word ≡ Some n → n ≤ most
most_kept least most n word e = (is_number least most n word e).high

one_digit : (word : List ℕ) → has_needless_zero word ≡ false → 0 < length word → get_or word 0 0 ≡ 48 → length word ≡ 1
one_digit [] plain some zero = absurd (omega arith)
one_digit (first ∷ []) plain some zero = refl
one_digit (first ∷ second ∷ rest) plain some zero = absurd (true≢false (ap (λ f. f == 48) (sym zero) ∙ plain))

pub only_printed : (least most n : ℕ) (word : List ℕ) → most < 2 ^ 64 → number_between least most word ≡ Some n → word ≡ decimal n
only_printed least most n word small e =
    let is = is_number least most n word e in
    let high = is.high in
    let value = is.value in
    sym (decimal-digits_value own word is.digits is.some (one_digit word is.plain is.some) (omega arith)) ∙ ap decimal value
