-- What becomes of items: the intermediates leave something of each, and all outputs take that.
use Rattle.std.specs.Prelude.{ℕ, ◌≡◌, ◌<◌, List, [], ◌∷◌, ◌++◌, Option, None, MatchOption, length}
use Rattle.config_spec.specs.declared.conf.StageConf.{StageConf}
use Rattle.config_spec.specs.declared.conf.OutputConf.{OutputConf}
use Rattle.text_spec.specs.declared.element.Element.{Element}
use Rattle.run_spec.specs.Work.{Item}
use Rattle.result_spec.specs.Through.{items_through}
use Rattle.call_spec.specs.Pairs.{Each}
use Rattle.pipeline_message.specs.declared.message.Msg.{Msg}
use Rattle.pipeline_message.specs.Items.{items_of}
use Rattle.stage_chain.specs.Behind.{works_of}
use Rattle.logged_outputs.specs.declared.output.Output.{Output}
use Rattle.logged_outputs.specs.declared.outputs.Outputs.{Outputs}
use Rattle.logged_outputs.specs.Outputs.{OutputHas, PutsMessage}

module _ {T K : Type 0} (stands : OutputConf → List Element → List Item → T → Type 0) (held : K → Option (List ℕ)) (total : K → Option ℕ) (faults : K → ℕ) where
  -- an output that had begun to make its text has that of these items
  abbrev pub HasFrom : List Item → Output T K → Output T K → Type 0
  HasFrom items first now = (output : OutputConf) (table : List Element) → stands output table [] first.texts → first.fault ≡ None → OutputHas held total faults stands output table items first now

  -- each of them has
  abbrev pub AllHave : List Item → List (Output T K) → List (Output T K) → Type 0
  AllHave items firsts nows = Each (λ _ first now. HasFrom items first now) 0 firsts nows

  -- each takes one message more
  abbrev pub AllPut : Msg → List (Output T K) → List (Output T K) → Type 0
  AllPut message olds news = Each (λ _ old new. PutsMessage held total faults stands message old new) 0 olds news

  -- they have their text of a front of the items, and an intermediate wanted memory for the next
  pub record CutShort (stages : List StageConf) (items : List Item) (firsts nows : List (Output T K)) (k : ℕ) : Type 0 where
    pub is_stage : k < length stages
    pub front : List Item
    pub rest : List Item
    pub whole : items ≡ front ++ rest
    pub have : AllHave (items_through stages front) firsts nows

  -- what became of these items since it was so
  pub record ItemsWent (items : List Item) (first now : Outputs T K) : Type 0 where
    pub same : now.stages ≡ first.stages
    pub went : (stages : List StageConf) → works_of stages ≡ first.stages → MatchOption now.wanting (AllHave (items_through stages items) first.outputs.items now.outputs.items) (CutShort stages items first.outputs.items now.outputs.items)

  -- whatever items went before, those of one message more did
  abbrev pub PutsItems : Msg → Outputs T K → Outputs T K → Type 0
  PutsItems message old new = (first : Outputs T K) (items : List Item) → ItemsWent items first old → ItemsWent (items ++ items_of (message ∷ [])) first new
