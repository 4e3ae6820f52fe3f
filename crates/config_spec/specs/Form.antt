-- What every description keeps: the ranges, the lengths and the forms of its values, but for the lengths of
-- paths and addresses.
use Rattle.std.specs.Prelude.{◌≡◌, ◌≤◌, ◌*◌, ◌⊎◌, ℕ, List, length, true, is_some, ◌↔◌}
use Rattle.std.specs.List.{AllByRecursion}
use Rattle.col_base.specs.declared.base.Lifetimes.{Lifetimes}
use Rattle.config_spec.specs.declared.domains.DomainRange.{DomainRange}
use Rattle.config_spec.specs.declared.domains.DomainSet.{DomainSet}
use Rattle.config_spec.specs.declared.domains.DomainSet.TheVariants as D
use Rattle.config_spec.specs.declared.tables.Prefix.{Prefix}
use Rattle.config_spec.specs.declared.tables.Pair.{Pair}
use Rattle.config_spec.specs.declared.tables.Test.{Test}
use Rattle.config_spec.specs.declared.tables.Test.TheVariants as Is
use Rattle.config_spec.specs.declared.tables.Rule.{Rule}
use Rattle.config_spec.specs.declared.tables.FilterTable.{FilterTable}
use Rattle.config_spec.specs.declared.tables.AnonRow.{AnonRow}
use Rattle.config_spec.specs.declared.tables.AnonTable.{AnonTable}
use Rattle.config_spec.specs.declared.conf.Conf.{Conf}
use Rattle.config_spec.specs.declared.conf.InputConf.{InputConf}
use Rattle.config_spec.specs.declared.conf.StageConf.{StageConf}
use Rattle.config_spec.specs.declared.conf.StageWork.{StageWork}
use Rattle.config_spec.specs.declared.conf.StageWork.TheVariants as W
use Rattle.config_spec.specs.declared.conf.OutputConf.{OutputConf}
use Rattle.config_spec.specs.declared.conf.OutputKind.{OutputKind}
use Rattle.config_spec.specs.declared.conf.OutputKind.TheVariants as O
use Rattle.config_spec.specs.Keys.{most}
use Rattle.config_spec.specs.Fits.{is_name}

-- from the first to the second number
abbrev pub IsWithin : ℕ → ℕ → ℕ → Type 0
IsWithin low high n = (low ≤ n) × (n ≤ high)

abbrev pub IsSeconds : ℕ → Type 0
IsSeconds n = IsWithin 1 1000000000 n

pub record IsLife (life : Lifetimes) : Type 0 where
  pub template : IsSeconds life.template
  pub options : IsSeconds life.options
  pub late : IsSeconds life.late

pub record IsInput (input : InputConf) : Type 0 where
  pub name : is_name input.spec.name ≡ true
  pub stop_after : input.stop_after ≤ most
  pub life : IsLife input.life
  pub idle : IsSeconds input.idle

abbrev pub IsPair : Pair → Type 0
IsPair pair = pair.id ≤ 32767

-- as many octets as an address has
abbrev pub IsAddress : List ℕ → Type 0
IsAddress octets = (length octets ≡ 4) ⊎ (length octets ≡ 16)

pub record IsPrefix (prefix : Prefix) : Type 0 where
  pub octets : IsAddress prefix.octets
  pub bits : prefix.bits ≤ 8 * length prefix.octets

abbrev pub IsTest : Test → Type 0
IsTest Is.Present = Unit {0}
IsTest (Is.Equal value) = value ≤ most
IsTest (Is.Between low high) = (low ≤ high) × (high ≤ most)
IsTest (Is.Prefix prefix) = IsPrefix prefix

pub record IsRule (rule : Rule) : Type 0 where
  pub id : rule.id ≤ 32767
  pub test : IsTest rule.test

pub record IsFilter (table : FilterTable) : Type 0 where
  pub few : length table.rules ≤ 1024
  pub rules : AllByRecursion IsRule table.rules

pub record IsAnonRow (row : AnonRow) : Type 0 where
  pub from : IsPrefix row.from
  pub to : length row.to ≡ length row.from.octets

pub record IsAnonymiser (table : AnonTable) : Type 0 where
  pub some : IsWithin 1 64 (length table.fields)
  pub fields : AllByRecursion IsPair table.fields
  pub cut4 : table.cut4 ≤ 32
  pub cut6 : table.cut6 ≤ 128
  pub few : length table.rows ≤ 4096
  pub rows : AllByRecursion IsAnonRow table.rows

abbrev pub IsWork : StageWork → Type 0
IsWork (W.Filter table) = IsFilter table
IsWork (W.Anonymise table) = IsAnonymiser table

pub record IsStage (stage : StageConf) : Type 0 where
  pub name : is_name stage.name ≡ true
  pub work : IsWork stage.work

-- 1 to 64 ranges, none of which is empty
pub record AreRanges (ranges : List DomainRange) : Type 0 where
  pub some : IsWithin 1 64 (length ranges)
  pub ordered : AllByRecursion (λ range. range.low ≤ range.high) ranges

abbrev pub IsDomainSet : DomainSet → Type 0
IsDomainSet D.All = Unit {0}
IsDomainSet (D.Only ranges) = AreRanges ranges
IsDomainSet (D.Except ranges) = AreRanges ranges

abbrev pub IsOutputKind : OutputKind → Type 0
IsOutputKind (O.Json options) = Unit {0}
IsOutputKind (O.Ipfix last) = IsWithin 256 65535 last
IsOutputKind O.View = Unit {0}

pub record IsOutput (output : OutputConf) : Type 0 where
  pub name : is_name output.name ≡ true
  pub kind : IsOutputKind output.kind
  pub domains : IsDomainSet output.domains

-- what every description keeps
pub record IsConf (conf : Conf) : Type 0 where
  pub ring : IsWithin 1 4096 conf.ring
  pub slots : IsWithin 1 65536 conf.slots
  pub few_elements : length conf.elements ≤ 16
  pub few_inputs : length conf.inputs ≤ 16
  pub inputs : AllByRecursion IsInput conf.inputs
  pub few_stages : length conf.stages ≤ 16
  pub stages : AllByRecursion IsStage conf.stages
  pub few_outputs : length conf.outputs ≤ 32
  pub outputs : AllByRecursion IsOutput conf.outputs

-- what every description has: an input, an output, and an order log exactly where there are two or more inputs
pub record HasParts (conf : Conf) : Type 0 where
  pub inputs : 1 ≤ length conf.inputs
  pub outputs : 1 ≤ length conf.outputs
  pub log : (is_some conf.order_log ≡ true) ↔ (2 ≤ length conf.inputs)
