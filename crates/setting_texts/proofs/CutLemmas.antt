-- A text and its first mark.
use Rattle.std.proofs.Common.{◌≡◌, ◌<◌, ℕ, List, Option, Some, None, MatchOption, option_map, Bor, true, false, nat_lt, ◌==◌, length, arith}
use Rattle.std.proofs.lemmas.Bool.Decides.{nat_tests}
use Rattle.std.specs.List.{position_or_len, before_first, after_first}
use Rattle.config_spec.specs.Texts.{cut}

pub cut_once : (mark : ℕ) (text : List ℕ) (r : Option (Bor (List ℕ) × Bor (List ℕ)))
    → MatchOption r (position_or_len (λ b. b == mark) text ≡ length text) (λ x. (position_or_len (λ b. b == mark) text < length text) × (x.0.now ≡ before_first (λ b. b == mark) text) × (x.1.now ≡ after_first (λ b. b == mark) text))
    → option_map (λ parts. (parts.0.now, parts.1.now)) r ≡ cut mark text
unfolding cut
cut_once mark text None h =
    let no : nat_lt (position_or_len (λ b. b == mark) text) (length text) ≡ false = grind (arith, nat_tests) in
    rw no
cut_once mark text (Some x) h =
    let yes : nat_lt (position_or_len (λ b. b == mark) text) (length text) ≡ true = grind (arith, nat_tests) in
    rw (yes, h.1, h.2)
