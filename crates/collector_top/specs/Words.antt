-- What words ask for, as the code has it.
use Rattle.std.specs.Prelude.{ℕ, ◌≤◌, ⊤}
use Rattle.words_spec.specs.Commands.{Command as Meant}
use Rattle.words_spec.specs.Commands.Command.{Direct, Check, Collect, Generate, Refused}
use Rattle.collector_top.specs.declared.words.Command.{Command}
use Rattle.collector_top.specs.declared.words.Command.TheVariants as asked

-- the command that is meant
abbrev pub told : Command → Meant
told (asked.Direct place out) = Direct place.now out.now
told (asked.Check file) = Check file.now
told (asked.Collect file) = Collect file.now
told (asked.Generate number count) = Generate number count
told asked.Refused = Refused

-- load has 1 to 1,000,000 messages
abbrev pub HasCount : Command → Type 0
HasCount (asked.Direct place out) = ⊤
HasCount (asked.Check file) = ⊤
HasCount (asked.Collect file) = ⊤
HasCount (asked.Generate number count) = (1 ≤ count) × (count ≤ 1000000)
HasCount asked.Refused = ⊤
