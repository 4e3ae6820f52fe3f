use Rattle.std.proofs.Common.{◌≡◌, ◌/◌, ◌<◌, length, subst}
use Rattle.record_places.specs.Places.{even_places}
use Rattle.record_places.proofs.EvenLemmas.{even_are_placed}
use Rattle.record_places.proofs.even.fixed_places.Goals as goal

pub returns : goal.returns
returns c =
    let least = c.min_len-len.ensures in
    let places = c.in_ok-places.places.items in
    even_are_placed c.args.def.now.fields c.requires.fixed (subst (λ n. 0 < n) least.is least.some) c.args.body.now c.args.start places
    (subst (λ n. places ≡ even_places c.args.start n (length c.args.body.now / n)) least.is c.in_ok-places.ensures)
