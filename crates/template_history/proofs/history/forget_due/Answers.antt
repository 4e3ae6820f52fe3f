use Rattle.template_history.proofs.DueLemmas.{one_forgotten}
use Rattle.template_history.proofs.history.forget_due.Goals as goal

pub loop-id-preserved : goal.loop-id-preserved
loop-id-preserved c =
    one_forgotten c.args.before c.in-Some.id c.args.rows.now.entries c.loop-id.rows.entries c.forget.new.rows.entries c.loop-id.due c.next.new.self
    c.forget.ensures c.in-Some.ensures.next c.loop-id.invariant.0 c.loop-id.invariant.1
