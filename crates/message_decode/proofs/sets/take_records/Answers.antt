use Rattle.std.proofs.Common.{◌<◌, subst}
use Rattle.wire_spec.specs.Record.{shortest}
use Rattle.message_decode.proofs.SetLemmas.{placed_adds, unplaced_adds}
use Rattle.message_decode.proofs.sets.take_records.Goals as goal

pub returns-in-Some : goal.returns-in-Some
returns-in-Some c =
    let least = c.min_len-least.ensures in
    let some : 0 < shortest c.deref.result.now.fields = subst (λ n. 0 < n) least.is least.some in
    let placed = rw c.deref-2.ensures at c.in_ok-places.ensures in
    let there = rw c.in-Some.is at placed in
    placed_adds c.put.result c.args.set c.args.def.now.value c.in-Some.places.items c.args.found.now c.put.new.found (rw c.deref.ensures at some) there c.put.ensures

pub returns-in-None : goal.returns-in-None
returns-in-None c =
    let least = c.min_len-least.ensures in
    let some : 0 < shortest c.deref.result.now.fields = subst (λ n. 0 < n) least.is least.some in
    let placed = rw c.deref-2.ensures at c.in_ok-places.ensures in
    let none = rw c.in-None.is at placed in
    unplaced_adds c.args.set c.args.def.now.value c.args.found.now c.skip.new.found (rw c.deref.ensures at some) none c.skip.ensures
