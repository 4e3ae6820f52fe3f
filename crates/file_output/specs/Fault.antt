-- What is said of a limit.
use Rattle.std.specs.Prelude.{ℕ}
use Rattle.file_output.specs.declared.fault.FileFault.{FileFault}
use Rattle.file_output.specs.declared.fault.FileFault.TheVariants.{Limit, NoMemory}

-- where a limit is met, this holds of the number that was needed
abbrev pub AtLimit : (ℕ → Type 0) → FileFault → Type 0
AtLimit P (Limit n) = P n
AtLimit P NoMemory = Unit {0}
