-- Example words.
use Rattle.std.specs.Prelude.{ℕ, ◌≡◌, List, [], ◌∷◌, map, codes}
use Rattle.words_spec.specs.Commands.{command_of}
use Rattle.words_spec.specs.Commands.Command.{Refused}

-- each of these lists is refused
abbrev pub AreRefused : List (List (List ℕ)) → Type 0
AreRefused lists = map command_of lists ≡ map (λ words. Refused) lists

-- no command, other words for one, and words that are too few or too many
abbrev pub bad_commands : List (List (List ℕ))
bad_commands = []
    ∷ (codes "help" ∷ [])
    ∷ (codes "--help" ∷ [])
    ∷ (codes "--" ∷ codes "direct" ∷ codes "a" ∷ codes "b" ∷ [])
    ∷ (codes "Direct" ∷ codes "a" ∷ codes "b" ∷ [])
    ∷ (codes "direct" ∷ [])
    ∷ (codes "direct" ∷ codes "a" ∷ [])
    ∷ (codes "direct" ∷ codes "a" ∷ codes "b" ∷ codes "c" ∷ [])
    ∷ (codes "check" ∷ [])
    ∷ (codes "collect" ∷ [])
    ∷ (codes "generate" ∷ [])
    ∷ (codes "generate" ∷ codes "7" ∷ [])
    ∷ (codes "generate" ∷ codes "7" ∷ codes "3" ∷ codes "1" ∷ [])
    ∷ []

-- a name without octets, or that begins with `-`
abbrev pub bad_names : List (List (List ℕ))
bad_names = (codes "direct" ∷ codes "" ∷ codes "b" ∷ [])
    ∷ (codes "direct" ∷ codes "a" ∷ codes "" ∷ [])
    ∷ (codes "direct" ∷ codes "-" ∷ codes "b" ∷ [])
    ∷ (codes "direct" ∷ codes "a" ∷ codes "-b" ∷ [])
    ∷ (codes "check" ∷ codes "-c" ∷ codes "" ∷ [])
    ∷ (codes "check" ∷ codes "-c" ∷ codes "-f" ∷ [])
    ∷ (codes "check" ∷ codes "--config=" ∷ [])
    ∷ (codes "collect" ∷ codes "--config=-f" ∷ [])
    ∷ []

-- other options, one without its name, two of them, and a name without one
abbrev pub bad_options : List (List (List ℕ))
bad_options = (codes "check" ∷ codes "f" ∷ [])
    ∷ (codes "check" ∷ codes "-c" ∷ [])
    ∷ (codes "check" ∷ codes "-cf" ∷ [])
    ∷ (codes "check" ∷ codes "-c=f" ∷ [])
    ∷ (codes "check" ∷ codes "-config" ∷ codes "f" ∷ [])
    ∷ (codes "check" ∷ codes "--config=f" ∷ codes "g" ∷ [])
    ∷ (codes "check" ∷ codes "-c" ∷ codes "f" ∷ codes "-c" ∷ codes "f" ∷ [])
    ∷ (codes "collect" ∷ codes "--" ∷ codes "-c" ∷ codes "f" ∷ [])
    ∷ (codes "collect" ∷ codes "-C" ∷ codes "f" ∷ [])
    ∷ []

-- words that are no numbers, or none in the range
abbrev pub bad_numbers : List (List (List ℕ))
bad_numbers = (codes "generate" ∷ codes "" ∷ codes "1" ∷ [])
    ∷ (codes "generate" ∷ codes "+1" ∷ codes "1" ∷ [])
    ∷ (codes "generate" ∷ codes "-1" ∷ codes "1" ∷ [])
    ∷ (codes "generate" ∷ codes "1_0" ∷ codes "1" ∷ [])
    ∷ (codes "generate" ∷ codes " 1" ∷ codes "1" ∷ [])
    ∷ (codes "generate" ∷ codes "0x1" ∷ codes "1" ∷ [])
    ∷ (codes "generate" ∷ codes "01" ∷ codes "1" ∷ [])
    ∷ (codes "generate" ∷ codes "00" ∷ codes "1" ∷ [])
    ∷ (codes "generate" ∷ codes "18446744073709551616" ∷ codes "1" ∷ [])
    ∷ (codes "generate" ∷ codes "1" ∷ codes "0" ∷ [])
    ∷ (codes "generate" ∷ codes "1" ∷ codes "01" ∷ [])
    ∷ (codes "generate" ∷ codes "1" ∷ codes "1000001" ∷ [])
    ∷ (codes "generate" ∷ codes "1" ∷ codes "x" ∷ [])
    ∷ []
