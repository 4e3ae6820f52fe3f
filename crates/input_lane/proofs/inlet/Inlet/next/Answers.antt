use Rattle.std.proofs.Common.{◌∙◌, sym, subst}
use Rattle.input_lane.specs.Inlets.{Asks, Causes}
use Rattle.input_lane.specs.declared.state.Reading.{Reading}
use Rattle.input_lane.proofs.StandLemmas.{empty_stands, empty_stops}
use Rattle.input_lane.proofs.inlet.Inlet.next.Goals as goal

pub returns-in-None : goal.returns-in-None
returns-in-None g c =
    let asked = c.ask.ensures.0 in
    let hands = c.in-None.ensures.hands in (
      asked,
      subst (λ s. Asks g.S.Source.left g.S.Source.faults asked s c.ask.new.self.source) c.waiting.ensures.source c.ask.ensures.2,
      subst (λ (r : Reading). Causes asked r c.ask.new.self.lane.reading c.ask.result) (hands.still ∙ sym hands.was) c.ask.ensures.3,
      empty_stops asked c.args.self.now.lane c.waiting.new.self.lane c.ask.new.self.lane hands c.ask.ensures.4,
      λ settings input taken out h. c.ask.ensures.5 settings input taken out (empty_stands c.args.self.now.lane c.waiting.new.self.lane hands settings input taken out h),
    )
