use Rattle.std.proofs.Common.{◌≡◌, ◌+◌, List, [], ◌∷◌, drop, ap, sym, ◌∙◌}
use Rattle.std.proofs.lemmas.List.{drop_more}
use Rattle.config_spec.specs.declared.conf.StageWork.{StageWork}
use Rattle.run_spec.specs.Records.{record_of}
use Rattle.stage_chain.specs.Behind.{records_behind}
use Rattle.stage_chain.proofs.BehindLemmas.{none_behind}
use Rattle.stage_chain.proofs.pass.passes_all.Goals as goal

pub returns-then-not-passes-clause-left : goal.returns-then-not-passes-clause-left
returns-then-not-passes-clause-left c =
    let works = c.args.stages.now in
    let def = c.args.def.now in
    let i = c.loop-index.index in
    let w = c.index-stages-index.result in
    let split : drop i works ≡ w ∷ drop (i + 1) works = drop_more works i w c.loop-index-test.true ∙ ap (λ (x : StageWork). x ∷ drop (i + 1) works) (sym c.index-stages-index.is) in
    c.loop-index.invariant.left
    ∙ (ap (λ (l : List StageWork). records_behind l def (record_of def.fields c.loop-index.rec ∷ [])) split
    ∙ (ap (records_behind (drop (i + 1) works) def) c.if-not-passes.ensures.left ∙ none_behind (drop (i + 1) works) def))
