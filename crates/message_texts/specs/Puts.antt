-- What a message that is put adds to the text of an output.
use Rattle.std.specs.Prelude.{ℕ, ◌≡◌, ⊤, List, [], ◌∷◌, ◌++◌, filter}
use Rattle.config_spec.specs.declared.conf.OutputConf.{OutputConf}
use Rattle.text_spec.specs.declared.element.Element.{Element}
use Rattle.run_spec.specs.Work.{Item}
use Rattle.result_spec.specs.Result.{Exceeds, text_by}
use Rattle.result_spec.specs.Through.{is_for}
use Rattle.pipeline_message.specs.declared.message.Msg.{Msg}
use Rattle.pipeline_message.specs.Items.{items_of}
use Rattle.message_texts.specs.declared.texts.TextFault.{TextFault}
use Rattle.message_texts.specs.declared.texts.TextFault.TheVariants as fault

-- of the items behind the intermediates those that come to an output, and its text of them
abbrev pub items_at : OutputConf → List Item → List Item
items_at output items = filter (is_for output.domains) items

abbrev pub text_at : List Element → OutputConf → List Item → List ℕ
text_at table output items = text_by table output.kind (items_at output items)

-- they need a number that the output may not use
abbrev pub ExceedsAt : OutputConf → List Item → Type 0
ExceedsAt output items = Exceeds output.kind (items_at output items)

module _ {T : Type 0} (stands : OutputConf → List Element → List Item → T → Type 0) where
  -- whatever items came before, those of one message more came, the text of the output grew by its own, and no limit is met
  pub record PutTo (last : T → List ℕ) (message : Msg) (output : OutputConf) (table : List Element) (items : List Item) (new : T) : Type 0 where
    pub stands_for : stands output table (items ++ items_of (message ∷ [])) new
    pub grows : text_at table output (items ++ items_of (message ∷ [])) ≡ text_at table output items ++ last new
    pub enough : ExceedsAt output (items ++ items_of (message ∷ [])) → ⊥

  abbrev pub Puts : (T → List ℕ) → Msg → T → T → Type 0
  Puts last message old new = (output : OutputConf) (table : List Element) (items : List Item) → stands output table items old → PutTo last message output table items new

  -- it stands for all that it stood for
  abbrev pub Keeps : T → T → Type 0
  Keeps old new = (output : OutputConf) (table : List Element) (items : List Item) → stands output table items old → stands output table items new

  -- a limit is met only where the items exceed it with those of the message
  abbrev pub MeetsLimit : TextFault → Msg → T → Type 0
  MeetsLimit fault.Limit message old = (output : OutputConf) (table : List Element) (items : List Item) → stands output table items old → ExceedsAt output (items ++ items_of (message ∷ []))
  MeetsLimit fault.NoMemory message old = ⊤
