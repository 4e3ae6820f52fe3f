-- The first of several faults, and how faults are printed.
use Rattle.std.specs.Prelude.{◌≡◌, List, ℕ, [], ◌∷◌, ◌++◌, codes, Option, None}
use Rattle.std.specs.Option.{option_or}
use Rattle.config_spec.specs.declared.fault.ConfFault.{ConfFault}
use Rattle.config_spec.specs.declared.fault.ConfFault.TheVariants.{NotToml, UnknownKey, Missing, WrongType, OutOfRange, UnknownPlugin, DuplicateName, NoInput, NoOutput, NoOrderLog, NoMemory}

-- want of memory may come at any call
abbrev pub IsMemory : ConfFault → Type 0
IsMemory fault = fault ≡ NoMemory

-- the first fault of some things in order, each of which may have one
abbrev pub first_fault : List (Option ConfFault) → Option ConfFault
first_fault [] = None
first_fault (found ∷ more) = option_or found (first_fault more)

-- how a fault is printed
unfoldable pub fault_text : ConfFault → List ℕ
fault_text NotToml = codes "not TOML"
fault_text (UnknownKey path) = codes "unknown key " ++ path
fault_text (Missing path) = codes "missing " ++ path
fault_text (WrongType path) = codes "wrong type " ++ path
fault_text (OutOfRange path) = codes "out of range " ++ path
fault_text (UnknownPlugin path) = codes "unknown plugin " ++ path
fault_text (DuplicateName name) = codes "duplicate name " ++ name
fault_text NoInput = codes "no input"
fault_text NoOutput = codes "no output"
fault_text NoOrderLog = codes "no order log"
fault_text NoMemory = codes "no memory"
