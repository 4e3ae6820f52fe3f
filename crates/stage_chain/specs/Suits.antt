-- What intermediates are prepared to for the records of one definition.
use Rattle.std.specs.Prelude.{List, [], ◌∷◌}
use Rattle.wire_spec.specs.declared.field.FieldSpec.{FieldSpec}
use Rattle.config_spec.specs.declared.conf.StageWork.{StageWork}
use Rattle.config_spec.specs.declared.conf.StageWork.TheVariants as W
use Rattle.filter_stage.specs.Prepared.{Suits as SuitsFilter}
use Rattle.anonymise_stage.specs.Prepared.{Suits as SuitsAnonymiser}
use Rattle.stage_chain.specs.declared.stage.PreparedStage.{PreparedStage}
use Rattle.stage_chain.specs.declared.stage.PreparedStage.TheVariants.{Filter, Anonymise}

-- it is prepared for records of these fields
abbrev pub SuitsStage : StageWork → List FieldSpec → PreparedStage → Type 0
SuitsStage (W.Filter table) fields (Filter prepared) = SuitsFilter table fields prepared
SuitsStage (W.Filter table) fields (Anonymise prepared) = ⊥
SuitsStage (W.Anonymise table) fields (Filter prepared) = ⊥
SuitsStage (W.Anonymise table) fields (Anonymise prepared) = SuitsAnonymiser table fields prepared

-- each of them is
abbrev pub AreSuited : List StageWork → List FieldSpec → List PreparedStage → Type 0
AreSuited [] fields [] = Unit {0}
AreSuited [] fields (p ∷ prepared) = ⊥
AreSuited (w ∷ works) fields [] = ⊥
AreSuited (w ∷ works) fields (p ∷ prepared) = SuitsStage w fields p × AreSuited works fields prepared
