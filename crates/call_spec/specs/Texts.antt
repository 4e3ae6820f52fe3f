-- What the texts of a description and its element tables come to: one has a fault or failed, or none.
use Rattle.std.specs.Prelude.{ℕ, ◌≡◌, ◌⊎◌, ⊤, List, [], ◌∷◌, ◌++◌, Result, Ok, Err, IfSome}
use Rattle.text_spec.specs.declared.element.Element.{Element}
use Rattle.config_spec.specs.declared.conf.Conf.{Conf}
use Rattle.config_spec.specs.Description.{description}
use Rattle.element_spec.specs.declared.fault.TableFault.{TableFault}
use Rattle.element_spec.specs.Table.{element_table}
use Rattle.site_io.specs.Seen.{TextSeen}
use Rattle.call_spec.specs.Pairs.{Each}
use Rattle.call_spec.specs.Came.{Refusal, Came}
use Rattle.call_spec.specs.Came.Refusal.{NoText, BadDescription, BadElements, NoSource, NoLog, NoOutput, NoMemory}
use Rattle.call_spec.specs.Came.Came.{BadWords, Fine, Refused, Ran}

-- the octets of a text, where they are told
abbrev pub IsText : (List ℕ → TextSeen) → List ℕ → List ℕ → Type 0
IsText text name octets = IfSome (text name).octets (λ known. octets ≡ known)

-- the octets of the texts of these names, in order
abbrev pub AreTexts : (List ℕ → TextSeen) → List (List ℕ) → List (List ℕ) → Type 0
AreTexts text names all = Each (λ _ name octets. IsText text name octets) 0 names all

-- FILE has this description
abbrev pub Describes : (List ℕ → TextSeen) → List ℕ → Conf → Type 0
Describes text file conf = (octets : List ℕ) × IsText text file octets × (description octets ≡ Ok conf)

-- these element files, behind the built-in rows, have these rows
abbrev pub HasTable : (List ℕ → TextSeen) → List (List ℕ) → List Element → Type 0
HasTable text names rows = (all : List (List ℕ)) × AreTexts text names all × (element_table all ≡ Ok rows)

-- the element files before this one have no fault
pub record Reaches (text : List ℕ → TextSeen) (names : List (List ℕ)) (name : List ℕ) : Type 0 where
  pub before : List (List ℕ)
  pub after : List (List ℕ)
  pub whole : names ≡ before ++ name ∷ after
  pub rows : List Element
  pub table : HasTable text before rows

-- nor does their table, and with this one it has this fault
pub record Breaks (text : List ℕ → TextSeen) (names : List (List ℕ)) (name : List ℕ) (fault : TableFault) : Type 0 where
  pub before : List (List ℕ)
  pub after : List (List ℕ)
  pub whole : names ≡ before ++ name ∷ after
  pub all : List (List ℕ)
  pub last : List ℕ
  pub are : AreTexts text before all
  pub is : IsText text name last
  pub rows : List Element
  pub table : element_table all ≡ Ok rows
  pub broken : element_table (all ++ last ∷ []) ≡ Err fault

-- what came of FILE and the element files that its description names: the first fault, or none; want of memory may come at any place
abbrev pub Judges : (List ℕ → TextSeen) → List ℕ → Result (Unit {0}) Refusal → Type 0
Judges text file (Ok done) = (conf : Conf) × Describes text file conf × ((rows : List Element) × HasTable text conf.elements rows)
Judges text file (Err (NoText name)) = (name ≡ file) ⊎ ((conf : Conf) × Describes text file conf × Reaches text conf.elements name)
Judges text file (Err (BadDescription fault)) = (octets : List ℕ) × IsText text file octets × (description octets ≡ Err fault)
Judges text file (Err (BadElements name fault)) = (conf : Conf) × Describes text file conf × Breaks text conf.elements name fault
Judges text file (Err (NoSource i)) = ⊥
Judges text file (Err NoLog) = ⊥
Judges text file (Err (NoOutput j)) = ⊥
Judges text file (Err NoMemory) = ⊤
