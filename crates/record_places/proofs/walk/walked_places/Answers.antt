use Rattle.std.proofs.Common.{◌++◌, ◌∷◌, [], ap, ◌∙◌, arith, rules}
use Rattle.record_iter.specs.Left.{fields_of_each, records_left}
use Rattle.record_iter.proofs.WalkLemmas.{records_none, records_more}
use Rattle.record_places.proofs.PlaceLemmas.{placed_more}
use Rattle.record_places.proofs.walk.walked_places.Goals as goal

pub loop-record-init : goal.loop-record-init
loop-record-init c =
    let e = c.into_iter-record-iterator.ensures.into_iter_gives in
    let l = c.in-Ok.ensures.left in
    let walk = c.into_iter-record-iterator.result in
    ([], records_none c.args.def.now.fields (fields_of_each walk) c.args.body.now (records_left walk) (ap fields_of_each e ∙ l.0) (ap records_left e ∙ l.1), search rules, omega arith)

pub loop-record-preserved : goal.loop-record-preserved
loop-record-preserved c =
    let i = c.loop-record.invariant in
    let it = c.next.new.self in
    let first = c.in-Some.record.now in
    let p = placed_more c.args.start c.loop-record.at c.loop-record.places.items i.0 first i.2 i.3 in
    (i.0 ++ first ∷ [], records_more (fields_of_each it) first (records_left it) i.1 c.in-Some.ensures.steps, c.in_ok-push.ensures.items ∙ p.0, p.1)
