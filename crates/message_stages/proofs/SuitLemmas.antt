-- Intermediates and what they are prepared to, one more of each.
use Rattle.std.proofs.Common.{List, [], ◌∷◌, ◌++◌}
use Rattle.wire_spec.specs.declared.field.FieldSpec.{FieldSpec}
use Rattle.config_spec.specs.declared.conf.StageWork.{StageWork}
use Rattle.stage_chain.specs.declared.stage.PreparedStage.{PreparedStage}
use Rattle.stage_chain.specs.Suits.{SuitsStage, AreSuited}

pub suited_more : (works : List StageWork) (fields : List FieldSpec) (prepared : List PreparedStage) (w : StageWork) (p : PreparedStage) → AreSuited works fields prepared → SuitsStage w fields p → AreSuited (works ++ w ∷ []) fields (prepared ++ p ∷ [])
suited_more [] fields [] w p s is = (is, tt)
suited_more [] fields (q ∷ prepared) w p s is = absurd s
suited_more (v ∷ works) fields [] w p s is = absurd s
suited_more (v ∷ works) fields (q ∷ prepared) w p s is = (s.0, suited_more works fields prepared w p s.1 is)
