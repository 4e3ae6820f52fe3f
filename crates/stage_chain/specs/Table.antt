-- The table of an intermediate, and what it is prepared to.
use Rattle.config_spec.specs.declared.conf.StageWork.{StageWork}
use Rattle.config_spec.specs.declared.conf.StageWork.TheVariants as W
use Rattle.anonymise_stage.specs.Table.{Holds}
use Rattle.stage_chain.specs.declared.stage.Table.{Table}
use Rattle.stage_chain.specs.declared.stage.Table.TheVariants.{Filter, Anonymise}

-- what the intermediate does
abbrev pub work_of : Table → StageWork
work_of (Filter table) = W.Filter table
work_of (Anonymise table rows) = W.Anonymise table

-- the rows of an anonymiser are those of its table
abbrev pub HasRows : Table → Type 0
HasRows (Filter table) = Unit {0}
HasRows (Anonymise table rows) = Holds table rows
