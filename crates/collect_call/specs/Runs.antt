-- What may come of a description that was read, and what a run wants first.
use Rattle.std.specs.Prelude.{ℕ, ◌≡◌, ⊤, List, []}
use Rattle.config_spec.specs.declared.conf.Conf.{Conf}
use Rattle.config_spec.specs.declared.conf.OutputConf.{OutputConf}
use Rattle.text_spec.specs.declared.element.Element.{Element}
use Rattle.site_io.specs.Seen.{TextSeen}
use Rattle.call_spec.specs.Pairs.{Each}
use Rattle.call_spec.specs.Came.{Came}
use Rattle.call_spec.specs.Came.Refusal.{NoText, BadDescription, BadElements, NoSource, NoLog, NoOutput, NoMemory}
use Rattle.call_spec.specs.Came.Came.{BadWords, Fine, Refused, Ran, Loaded}
use Rattle.call_spec.specs.Leaves.{sink_names}
use Rattle.call_spec.specs.Plan.{Plan, described_parties}
use Rattle.call_spec.specs.Plan.Plan.{Described}
use Rattle.stage_chain.specs.Behind.{works_of}
use Rattle.output_texts.specs.declared.texts.OutputTexts.{OutputTexts}
use Rattle.output_texts.specs.Texts.{Stands}
use Rattle.collect_call.specs.declared.prepare.Prepared.{Prepared}

-- what may come of a description: it is opened and run
abbrev pub IsOfRun : Came → Type 0
IsOfRun BadWords = ⊥
IsOfRun Fine = ⊥
IsOfRun (Refused (NoText name) n m) = ⊥
IsOfRun (Refused (BadDescription fault) n m) = ⊥
IsOfRun (Refused (BadElements name fault) n m) = ⊥
IsOfRun (Refused (NoSource i) n m) = ⊤
IsOfRun (Refused NoLog n m) = ⊤
IsOfRun (Refused (NoOutput j) n m) = ⊤
IsOfRun (Refused NoMemory n m) = ⊤
IsOfRun (Ran run) = ⊤
IsOfRun (Loaded run lengths) = ⊥

abbrev pub RunsOf : Conf → List Element → (List ℕ → TextSeen) → Plan → Came → Type 0
RunsOf conf rows text plan came = (plan ≡ Described conf rows) × IsOfRun came

-- each output has what makes its text, by these elements, to which nothing came yet
abbrev pub AreMade : List Element → List OutputConf → List OutputTexts → Type 0
AreMade rows outputs texts = Each (λ _ output t. Stands output rows [] t) 0 outputs texts

-- a description has its sink names, its intermediates, and what makes the text of each output
pub record IsPrepared (conf : Conf) (rows : List Element) (p : Prepared) : Type 0 where
  pub named : p.names.items ≡ sink_names (described_parties conf)
  pub works : p.stages ≡ works_of conf.stages
  pub makes : AreMade rows conf.outputs p.texts.items
