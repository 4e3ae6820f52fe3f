use Rattle.std.proofs.Common.{◌≡◌, ◌+◌, ◌++◌, ◌∷◌, [], List, take, subst, sym, ap, ◌∙◌}
use Rattle.std.proofs.lemmas.List.{take_more, take_all}
use Rattle.config_spec.specs.declared.conf.StageWork.{StageWork}
use Rattle.stage_chain.specs.Suits.{AreSuited}
use Rattle.message_stages.proofs.prepare.prepare_stages.Goals as goal

pub loop-index-preserved : goal.loop-index-preserved
loop-index-preserved c =
    let works = c.args.stages.now in
    let i = c.loop-index.index in
    let w = c.index-stages-index.result in
    let more : take (i + 1) works ≡ take i works ++ w ∷ [] = take_more works i w c.loop-index-test.true ∙ ap (λ (x : StageWork). take i works ++ x ∷ []) (sym c.index-stages-index.is) in
    subst (λ (l : List StageWork). AreSuited l c.args.def.now.fields c.prepare_next.new.prepared.items) (sym more) (c.in-Ok.ensures (take i works) c.loop-index.invariant)

pub returns-clause-suit : goal.returns-clause-suit
returns-clause-suit c =
    subst (λ (l : List StageWork). AreSuited l c.args.def.now.fields c.loop-index.prepared.items) (take_all c.loop-index.index c.args.stages.now c.loop-index-test.false) c.loop-index.invariant
