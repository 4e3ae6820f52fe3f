use Rattle.std.proofs.Common.{◌∷◌, [], subst}
use Rattle.template_manager.specs.Kinds.{touch_of}
use Rattle.message_decode.specs.Steps.{TakesTouches}
use Rattle.message_decode.proofs.TouchLemmas.{one_touch}
use Rattle.message_decode.proofs.touches.take_touch.Goals as goal

pub returns : goal.returns
returns c =
    let t = c.in_ok-taken in
    subst (λ x. TakesTouches c.args.export (x ∷ []) c.args.manager.now c.take.new.self c.args.counts.now c.count.new.counts) c.in_ok-touch.ensures
    (one_touch c.args.export (touch_of c.in_ok-touch.touch) c.args.manager.now c.take.new.self t.taken c.args.counts.now c.count.new.counts t.ensures.is t.ensures.ok c.take.ensures.kept c.count.ensures)
