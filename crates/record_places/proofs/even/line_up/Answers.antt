use Rattle.std.proofs.Common.{◌<◌, length, rules}
use Rattle.record_places.proofs.EvenLemmas.{lined_more}
use Rattle.record_places.proofs.even.line_up.Goals as goal

pub loop-place-preserved : goal.loop-place-preserved
loop-place-preserved c =
    let inside : c.loop-place.place-index < length c.loop-place.places = search rules in
    lined_more c.loop-place.places c.args.start c.args.len c.loop-place.place-index c.loop-place.at inside c.loop-place.invariant
