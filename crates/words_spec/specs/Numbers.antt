-- Words that are numbers.
use Rattle.std.specs.Prelude.{ℕ, ◌==◌, if◌then◌else◌, nat_le, Bool, false, List, ◌∷◌, Option, Some, None}
use Rattle.config_spec.specs.Texts.{number_text}

-- a 0 stands before another digit
abbrev pub has_needless_zero : List ℕ → Bool
has_needless_zero (first ∷ second ∷ rest) = first == 48
has_needless_zero word = false

abbrev pub at_least : ℕ → Option ℕ → Option ℕ
at_least least None = None
at_least least (Some n) = if nat_le least n then Some n else None

-- a number in decimal digits without a needless zero, from the first number to the second
abbrev pub number_between : ℕ → ℕ → List ℕ → Option ℕ
number_between least most word = if has_needless_zero word then None else at_least least (number_text most word)
