use Rattle.std.proofs.Common.{◌∙◌, ap, sym}
use Rattle.arrival_spec.specs.Cutting.{Cut}
use Rattle.input_lane.proofs.CutLemmas.{cut_step, cutting_more}
use Rattle.input_lane.proofs.hand.cut.Goals as goal

pub loop-message-preserved : goal.loop-message-preserved
loop-message-preserved c =
    let t = rw c.in-Ok-Some.field-0-is at c.in-Ok-Some.ensures.answers in
    record {
      hand = cut_step c.args.key c.loop-message.cutter c.next.new.self c.in-Ok-Some.message c.loop-message.hand.items c.put_message.new.hand.items _ t c.in_ok-put_message-in-Ok-Some.ensures c.loop-message.invariant.hand;
      rest = sym (ap (λ (c : Cut). c.rest) (cutting_more c.loop-message.cutter c.next.new.self c.in-Ok-Some.message t)) ∙ c.loop-message.invariant.rest;
    }
