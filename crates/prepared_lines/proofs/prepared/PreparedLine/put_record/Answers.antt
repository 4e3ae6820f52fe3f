use Rattle.std.proofs.Common.{◌≡◌, true, List, length, sym, subst}
use Rattle.std.specs.List.{list_all}
use Rattle.wire_spec.specs.Record.{IsSomeRecord}
use Rattle.prepared_lines.specs.declared.member.Member.{Member}
use Rattle.prepared_lines.specs.declared.way.Way.{Way}
use Rattle.prepared_lines.specs.Line.{Line, is_within}
use Rattle.prepared_lines.specs.Way.{IsWay, IsPlaced}
use Rattle.prepared_lines.proofs.LineLemmas.{within_places, places_many}
use Rattle.prepared_lines.proofs.prepared.PreparedLine.put_record.Goals as goal

pub put_placed-requires-clause-within : goal.put_placed-requires-clause-within
put_placed-requires-clause-within c =
    let in_ = c.self.inside in
    let way : IsPlaced in_.fields.items in_.members.items in_.end c.in-Placed.line = subst (λ (w : Way). IsWay in_.fields.items in_.members.items in_.end w) c.in-Placed.is c.self.invariant.1 in
    let some : IsSomeRecord in_.fields.items c.args.rec.now = subst (λ (l : Line). IsSomeRecord l.fields c.args.rec.now) (sym c.self.view_is) c.requires in
    subst (λ (l : List Member). list_all (is_within (length c.in-Placed.line.places.items)) l ≡ true) (sym c.deref.ensures.value)
    (within_places (length in_.fields.items) c.in-Placed.line.places.items in_.members.items
    (places_many in_.fields.items c.args.rec.now c.in-Placed.line.places.items some.0 some.1 (way.stand c.args.rec.now some.0 some.1)) c.self.invariant.0)
