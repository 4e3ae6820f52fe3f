use Rattle.std.proofs.Common.{◌++◌, ◌∷◌, [], sym, subst}
use Rattle.stage_chain.specs.Suits.{AreSuited}
use Rattle.message_stages.proofs.SuitLemmas.{suited_more}
use Rattle.message_stages.proofs.prepare.prepare_next.Goals as goal

pub returns : goal.returns
returns c = λ works s.
    subst (AreSuited (works ++ c.args.stage.now ∷ []) c.args.def.now.fields) (sym c.in_ok-push.ensures.items)
    (suited_more works c.args.def.now.fields c.args.prepared.now.items c.args.stage.now c.in_ok-one.one s c.in_ok-one.ensures)
