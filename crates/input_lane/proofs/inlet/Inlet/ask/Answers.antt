use Rattle.std.proofs.Common.{◌≡◌, ◌∙◌, ◌++◌, ◌∷◌, [], refl, sym, subst, ap, rules}
use Rattle.std.specs.Prelude.{Option}
use Rattle.arrival_spec.specs.declared.event.Scripted.{Scripted}
use Rattle.arrival_spec.specs.declared.event.Scripted.TheVariants as scripted
use Rattle.site_io.specs.Events.{TakesFirst, event_in}
use Rattle.input_lane.specs.Inlets.{IsKind}
use Rattle.input_lane.specs.Inlets.Asked.{Gave}
use Rattle.input_lane.proofs.StandLemmas.{gave_by, idle_reading, kind_is, look_reading, look_whole, room_whole, stands_behind}
use Rattle.input_lane.specs.declared.state.Reading.TheVariants as reading
use Rattle.input_lane.proofs.inlet.Inlet.ask.Goals as goal

pub returns-in-Look : goal.returns-in-Look
returns-in-Look g c =
    let is = subst (IsKind c.next.new.room c.in-Ok.event) (sym c.kind.ensures ∙ c.in-Look.is) (kind_is c.next.new.room c.in-Ok.event) in (
      Gave scripted.NotYet,
      tt,
      (subst (λ (o : Option Scripted). TakesFirst (g.S.Source.left c.args.self.now.source) (g.S.Source.left c.next.new.self) o) is c.in-Ok.ensures.takes, c.in-Ok.ensures.counts),
      (c.requires.0, refl),
      λ settings input taken out h. stands_behind settings (taken ++ scripted.NotYet ∷ []) _ reading.Open c.requires.0 tt,
      λ settings input taken out h.
          let s = idle_reading settings input taken out c.args.self.now.lane c.requires h in
          (look_reading settings input taken out c.args.self.now.lane s.0, look_whole settings input taken out s.1, c.requires.0),
    )

pub returns-in-Event : goal.returns-in-Event
returns-in-Event g c =
    let is = subst (IsKind c.next.new.room c.in-Ok.event) (sym c.kind.ensures ∙ c.in-Event.is) (kind_is c.next.new.room c.in-Ok.event) in
    let same : c.deref.result.now ≡ c.next.new.room = c.deref.ensures.value ∙ room_whole _ c.next.new.room c.args.self.now.room.items (search rules) (search rules) in (
      Gave is.0,
      tt,
      (subst (λ (o : Option Scripted). TakesFirst (g.S.Source.left c.args.self.now.source) (g.S.Source.left c.next.new.self) o) is.1 c.in-Ok.ensures.takes, c.in-Ok.ensures.counts),
      (c.requires.0, gave_by is.0 c.took.result is.2 c.took.ensures.look),
      λ settings input taken out h. c.took.ensures.stops is.0 is.2 settings input taken out (idle_reading settings input taken out c.args.self.now.lane c.requires h).0,
      λ settings input taken out h.
          let s = idle_reading settings input taken out c.args.self.now.lane c.requires h in
          c.took.ensures.took is.0 (ap (λ r. event_in r c.in-Ok.event) same ∙ is.1) is.2 settings input taken out s.0,
    )
