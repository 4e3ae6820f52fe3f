-- What the one input of `direct` is, and what it is in text.
use Rattle.std.specs.Prelude.{ℕ, true, List, [], ◌∷◌}
use Rattle.col_base.specs.declared.base.Transport.TheVariants.{File}
use Rattle.arrival_spec.specs.declared.event.Scripted.{Scripted}
use Rattle.arrival_spec.specs.Settings.{Settings}
use Rattle.text_spec.specs.Builtin.{builtin_rows}
use Rattle.run_spec.specs.Result.{IsText}
use Rattle.call_spec.specs.Came.{InputCame}

-- its settings: a file, read to its end, with the defaults of a description
abbrev pub file_settings : Settings
file_settings = record { transport = File; life = record { template = 1800; options = 1800; late = 1800 }; idle = 600; stop_after = 0 }

-- the text of one file: a line for each record, options records too, by the built-in elements
abbrev pub IsFileText : List Scripted → List ℕ → Type 0
IsFileText given text = IsText file_settings true builtin_rows given text

-- the text of the one input
abbrev pub FileText : List InputCame → List ℕ → Type 0
FileText [] text = ⊥
FileText (c ∷ []) text = IsFileText c.given text
FileText (c ∷ (d ∷ more)) text = ⊥
