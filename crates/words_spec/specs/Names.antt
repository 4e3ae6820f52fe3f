-- Words that name files, and the option before the name of a description.
use Rattle.std.specs.Prelude.{ℕ, Bool, false, not, ◌||◌, ◌==◌, if◌then◌else◌, List, [], ◌∷◌, length, take, drop, Option, Some, None, option_and_then, codes, bytes_eq}

-- a name has an octet, and doesn't begin with `-`
abbrev pub is_name : List ℕ → Bool
is_name [] = false
is_name (first ∷ rest) = not (first == 45)

unfoldable pub short_option : List ℕ
short_option = codes "-c"

unfoldable pub long_option : List ℕ
long_option = codes "--config"

unfoldable pub option_start : List ℕ
option_start = codes "--config="

abbrev pub is_option : List ℕ → Bool
is_option word = bytes_eq word short_option || bytes_eq word long_option

-- what follows the start of a word, if it has that start
abbrev pub rest_of : List ℕ → List ℕ → Option (List ℕ)
rest_of start word = if bytes_eq (take (length start) word) start then Some (drop (length start) word) else None

-- what follows `--config=`
abbrev pub option_rest : List ℕ → Option (List ℕ)
option_rest word = rest_of option_start word

abbrev pub if_name : List ℕ → Option (List ℕ)
if_name word = if is_name word then Some word else None

-- `-c FILE`, `--config FILE` or `--config=FILE`, with the name of FILE
abbrev pub file_name : List (List ℕ) → Option (List ℕ)
file_name [] = None
file_name (both ∷ []) = option_and_then if_name (option_rest both)
file_name (option ∷ name ∷ []) = if is_option option then if_name name else None
file_name words = None
