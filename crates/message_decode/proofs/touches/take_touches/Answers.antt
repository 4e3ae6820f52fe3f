use Rattle.std.proofs.Common.{◌++◌, ◌∷◌, []}
use Rattle.ipfix_reader.specs.Left.{kind_left, templates_left}
use Rattle.ipfix_reader.specs.Walk.{touch_by}
use Rattle.ipfix_reader.proofs.WalkLemmas.{touched_more}
use Rattle.message_decode.proofs.TouchLemmas.{touches_then}
use Rattle.message_decode.proofs.touches.take_touches.Goals as goal

pub loop-raw-preserved : goal.loop-raw-preserved
loop-raw-preserved c =
    let i = c.loop-raw.invariant in
    let raw = c.in-Some.raw in
    (i.0 ++ touch_by raw ∷ [], touched_more (kind_left c.next.new.self) (templates_left c.next.new.self) raw i.1 c.in-Some.ensures.steps, touches_then i.2 c.in_ok-take_touch.ensures)
