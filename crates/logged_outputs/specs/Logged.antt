-- What became of entries.
use Rattle.std.specs.Prelude.{ℕ, ◌≡◌, List, ◌++◌, Option, None}
use Rattle.config_spec.specs.declared.conf.OutputConf.{OutputConf}
use Rattle.text_spec.specs.declared.element.Element.{Element}
use Rattle.run_spec.specs.Work.{Item}
use Rattle.logged_outputs.specs.Entries.{Entry, items_in}
use Rattle.logged_outputs.specs.declared.logged.LoggedOutputs.{LoggedOutputs}
use Rattle.logged_outputs.specs.Logs.{LogTook}
use Rattle.logged_outputs.specs.Behind.{ItemsWent}

module _ {T K : Type 0} (stands : OutputConf → List Element → List Item → T → Type 0) (held : K → Option (List ℕ)) (total : K → Option ℕ) (faults : K → ℕ) where
  -- the first of them are in the log, and the outputs have their texts of their items; the log ended at the next, if there
  -- is one
  pub record Took (entries : List Entry) (first now : LoggedOutputs T K) : Type 0 where
    pub front : List Entry
    pub rest : List Entry
    pub whole : entries ≡ front ++ rest
    pub logged : LogTook held faults front rest first.log now.log
    pub written : ItemsWent stands held total faults (items_in front) first.outputs now.outputs
