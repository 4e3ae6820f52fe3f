use Rattle.std.proofs.Common.{refl, ap}
use Rattle.input_lane.specs.declared.state.State.{State}
use Rattle.input_lane.proofs.EventLemmas.{finished_by}
use Rattle.input_lane.proofs.state.State.finish.Goals as goal

pub returns : goal.returns
returns c = λ settings input s k.
    let u : State = record c.args.self.now { tally = record c.args.self.now.tally { torn = c.torn-self.result } } in
    finished_by settings input s c.args.self.now u k refl refl (ap (λ n. record c.args.self.now.tally { torn = n }) c.torn-self.ensures)
