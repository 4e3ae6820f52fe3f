-- A message behind all intermediates.
use Rattle.std.specs.Prelude.{◌≡◌, List, [], ◌∷◌}
use Rattle.config_spec.specs.declared.conf.StageConf.{StageConf}
use Rattle.config_spec.specs.declared.conf.StageWork.{StageWork}
use Rattle.result_spec.specs.Through.{items_through}
use Rattle.pipeline_message.specs.declared.message.Msg.{Msg}
use Rattle.pipeline_message.specs.Items.{items_of, IsSoundMessage}
use Rattle.stage_chain.specs.Behind.{works_of}

-- What is left of a message is sound, and stands for what the intermediates of a description make of its item.
pub record IsBehind (works : List StageWork) (message left : Msg) : Type 0 where
  pub sound : IsSoundMessage left
  pub items : (stages : List StageConf) → works_of stages ≡ works → items_of (left ∷ []) ≡ items_through stages (items_of (message ∷ []))
