-- What is left of a message, by its sets.
use Rattle.std.specs.Prelude.{◌≡◌, List, Some, map}
use Rattle.config_spec.specs.declared.conf.StageWork.{StageWork}
use Rattle.run_spec.specs.Work.Item.{Data}
use Rattle.pipeline_message.specs.declared.message.DataMessage.{DataMessage}
use Rattle.pipeline_message.specs.declared.message.Msg.{Msg}
use Rattle.pipeline_message.specs.Items.{item_of, set_of, IsSoundMessage}
use Rattle.stage_chain.specs.Behind.{sets_behind}

-- a sound message with the same numbers, and with the sets that are left
pub record IsLeftOf (works : List StageWork) (m : DataMessage) (left : Msg) : Type 0 where
  pub sound : IsSoundMessage left
  pub item : item_of left ≡ Some (Data m.session m.domain m.export m.seq (sets_behind works (map (set_of m.octets.value) m.sets.items)))
