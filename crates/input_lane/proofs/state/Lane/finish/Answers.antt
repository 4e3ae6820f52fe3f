use Rattle.std.proofs.Common.{refl}
use Rattle.input_lane.specs.declared.state.Lane.{Lane}
use Rattle.input_lane.proofs.StandLemmas.{goes_on_stands, over_by, over_goes_on}
use Rattle.input_lane.proofs.state.Lane.finish.Goals as goal

pub returns-clause-ends : goal.returns-clause-ends
returns-clause-ends c = λ settings input taken out h.
    let x : Lane = record c.args.self.now { state = c.finish.new.self; reading = c.args.how } in
    c.over.ensures.answers settings input taken out (goes_on_stands settings input taken out x c.args.how (over_goes_on settings input taken out x c.args.how c.requires refl (over_by settings input taken out c.args.self.now x h c.finish.ensures)))
