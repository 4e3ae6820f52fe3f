-- What is left of a piece that was put into the room: the digits of an octet, and of a number.
use Rattle.std.proofs.Common.{◌≡◌, ℕ, zero, suc, ◌+◌, ◌*◌, ◌<◌, ◌≤◌, inl, inr, Bool, true, ◌&&◌, List, [], ◌∷◌, ◌++◌, get_or, length, take, refl, ap, sym, ◌∙◌, arith}
use Rattle.std.specs.Prelude.{nat_eq}
use Rattle.std.specs.Str.{bytes_eq}
use Rattle.std.proofs.Math.Seq.{take-append-add, take-append_seam}
use Rattle.std.proofs.lemmas.List.{take-take, length-take-le}
use Rattle.std.proofs.lemmas.Slice.Eq.{bytes_eq-Decides}
use Rattle.std.proofs.lemmas.Bool.{and_parts, eqb-true}
use Rattle.value_text.specs.declared.dotted.TheConstants.{ROWS, DIGIT_COUNTS}
use Rattle.value_text.specs.Dotted.{octet_digits, marked, row}
use Rattle.value_text.proofs.DottedLemmas.{below_or_last, at_most_three}

-- the front of a piece
pub cut : (at k m : ℕ) (old new piece : List ℕ) → at ≤ length old → k ≤ m → take (at + m) new ≡ take at old ++ piece → take (at + k) new ≡ take at old ++ take k piece
cut at k m old new piece le less e =
    let first : take (at + k) new ≡ take (at + k) (take at old ++ piece) = sym (take-take (at + k) (at + m) new (omega (arith, less))) ∙ ap (λ l. take (at + k) l) e in
    let place : at + k ≡ length (take at old) + k = ap (λ n. n + k) (sym (length-take-le at old le)) in
    first ∙ ap (λ n. take n (take at old ++ piece)) place ∙ take-append-add (take at old) piece k

-- so many numbers have their digits and a dot in their rows
have_rows : ℕ → Bool
have_rows zero = true
have_rows (suc n) = bytes_eq (take (length (octet_digits n) + 1) (row n)) (marked n 46) && have_rows n

octets_have_rows : have_rows 256 ≡ true
unfolding have_rows
octets_have_rows = refl

each_has_row : (k n : ℕ) → have_rows k ≡ true → n < k → take (length (octet_digits n) + 1) (row n) ≡ marked n 46
unfolding have_rows
each_has_row zero n all lt = absurd (omega arith)
each_has_row (suc k) n all lt =
    let parts = and_parts _ _ all in
    elim (below_or_last n k lt) [
      | inl e ↦ (bytes_eq-Decides (take (length (octet_digits n) + 1) (row n)) (marked n 46)).0 (ap (λ m. bytes_eq (take (length (octet_digits m) + 1) (row m)) (marked m 46)) e ∙ parts.0)
      | inr l ↦ each_has_row k n parts.1 l
    ]

-- the row of an octet begins with its digits and a dot
pub row_dotted : (n at : ℕ) (old new : List ℕ) → n < 256 → at ≤ length old → take (at + 4) new ≡ take at old ++ row n → take (at + length (octet_digits n) + 1) new ≡ take at old ++ marked n 46
row_dotted n at old new lt le e =
    let k = length (octet_digits n) in
    let whole : take (at + (k + 1)) new ≡ take at old ++ take (k + 1) (row n) = cut at (k + 1) 4 old new (row n) le (omega (arith, at_most_three n)) e in
    let place : at + k + 1 ≡ at + (k + 1) = omega arith in
    ap (λ m. take m new) place ∙ whole ∙ ap (λ l. take at old ++ l) (each_has_row 256 n octets_have_rows lt)

pub row_digits : (n at : ℕ) (old new : List ℕ) → n < 256 → at ≤ length old → take (at + 4) new ≡ take at old ++ row n → take (at + length (octet_digits n)) new ≡ take at old ++ octet_digits n
row_digits n at old new lt le e =
    let k = length (octet_digits n) in
    let whole : take (at + (k + 1)) new ≡ take at old ++ marked n 46 = ap (λ m. take m new) (let p : at + (k + 1) ≡ at + k + 1 = omega arith in p) ∙ row_dotted n at old new lt le e in
    cut at k (k + 1) old new (marked n 46) le (omega arith) whole ∙ ap (λ l. take at old ++ l) (take-append_seam (octet_digits n) (46 ∷ []))

-- so many rows are their four octets
are_rows : ℕ → Bool
are_rows zero = true
are_rows (suc n) = bytes_eq (get_or ROWS (4 * n) 0 ∷ get_or ROWS (4 * n + 1) 0 ∷ get_or ROWS (4 * n + 2) 0 ∷ get_or ROWS (4 * n + 3) 0 ∷ []) (row n) && are_rows n

all_rows : are_rows 256 ≡ true
unfolding are_rows
all_rows = refl

each_row : (k n : ℕ) → are_rows k ≡ true → n < k → get_or ROWS (4 * n) 0 ∷ get_or ROWS (4 * n + 1) 0 ∷ get_or ROWS (4 * n + 2) 0 ∷ get_or ROWS (4 * n + 3) 0 ∷ [] ≡ row n
unfolding are_rows
each_row zero n all lt = absurd (omega arith)
each_row (suc k) n all lt =
    let parts = and_parts _ _ all in
    let octets : ℕ → List ℕ = λ m. get_or ROWS (4 * m) 0 ∷ get_or ROWS (4 * m + 1) 0 ∷ get_or ROWS (4 * m + 2) 0 ∷ get_or ROWS (4 * m + 3) 0 ∷ [] in
    elim (below_or_last n k lt) [
      | inl e ↦ (bytes_eq-Decides (octets n) (row n)).0 (ap (λ m. bytes_eq (octets m) (row m)) e ∙ parts.0)
      | inr l ↦ each_row k n parts.1 l
    ]

pub row_is : (n : ℕ) → n < 256 → get_or ROWS (4 * n) 0 ∷ get_or ROWS (4 * n + 1) 0 ∷ get_or ROWS (4 * n + 2) 0 ∷ get_or ROWS (4 * n + 3) 0 ∷ [] ≡ row n
row_is n lt = each_row 256 n all_rows lt

-- so many numbers have as many digits as the table says
are_counts : ℕ → Bool
are_counts zero = true
are_counts (suc n) = nat_eq (get_or DIGIT_COUNTS n 0) (length (octet_digits n)) && are_counts n

all_counts : are_counts 256 ≡ true
unfolding are_counts
all_counts = refl

each_is_counted : (k n : ℕ) → are_counts k ≡ true → n < k → get_or DIGIT_COUNTS n 0 ≡ length (octet_digits n)
unfolding are_counts
each_is_counted zero n all lt = absurd (omega arith)
each_is_counted (suc k) n all lt =
    let parts = and_parts _ _ all in
    elim (below_or_last n k lt) [
      | inl e ↦ ap (λ m. get_or DIGIT_COUNTS m 0) e ∙ (eqb-true _ _ parts.0 ∙ ap (λ m. length (octet_digits m)) (sym e))
      | inr l ↦ each_is_counted k n parts.1 l
    ]

pub count_is : (n : ℕ) → n < 256 → get_or DIGIT_COUNTS n 0 ≡ length (octet_digits n)
count_is n lt = each_is_counted 256 n all_counts lt
