-- What the words of the command line, without the program's name, ask for.
use Rattle.std.specs.Prelude.{ℕ, ◌&&◌, if◌then◌else◌, List, [], ◌∷◌, Option, Some, None, codes, bytes_eq}
use Rattle.words_spec.specs.Names.{is_name, file_name}
use Rattle.words_spec.specs.Numbers.{number_between}

pub data Command : Type 0 where
  -- `direct IN OUT`
  Direct : List ℕ → List ℕ → Command
  -- `check -c FILE`
  Check : List ℕ → Command
  -- `collect -c FILE`
  Collect : List ℕ → Command
  -- `generate NUMBER COUNT`
  Generate : ℕ → ℕ → Command
  -- all other words
  Refused : Command

unfoldable pub direct_word : List ℕ
direct_word = codes "direct"

unfoldable pub check_word : List ℕ
check_word = codes "check"

unfoldable pub collect_word : List ℕ
collect_word = codes "collect"

unfoldable pub generate_word : List ℕ
generate_word = codes "generate"

-- two names
abbrev pub direct_of : List (List ℕ) → Command
direct_of (place ∷ out ∷ []) = if is_name place && is_name out then Direct place out else Refused
direct_of words = Refused

-- a command with the name of its description
abbrev pub of_file : (List ℕ → Command) → Option (List ℕ) → Command
of_file command None = Refused
of_file command (Some file) = command file

-- NUMBER is up to 2 ^ 64 - 1
abbrev pub stream_number : List ℕ → Option ℕ
stream_number word = number_between 0 18446744073709551615 word

-- COUNT is from 1 to 1,000,000
abbrev pub stream_count : List ℕ → Option ℕ
stream_count word = number_between 1 1000000 word

abbrev pub of_numbers : Option ℕ → Option ℕ → Command
of_numbers (Some number) (Some count) = Generate number count
of_numbers (Some number) None = Refused
of_numbers None count = Refused

-- two numbers
abbrev pub generate_of : List (List ℕ) → Command
generate_of (number ∷ count ∷ []) = of_numbers (stream_number number) (stream_count count)
generate_of words = Refused

abbrev pub command_of : List (List ℕ) → Command
command_of [] = Refused
command_of (command ∷ words) =
    if bytes_eq command direct_word then direct_of words
    else (if bytes_eq command check_word then of_file Check (file_name words)
    else (if bytes_eq command collect_word then of_file Collect (file_name words)
    else (if bytes_eq command generate_word then generate_of words else Refused)))
