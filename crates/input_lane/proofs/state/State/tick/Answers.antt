use Rattle.std.proofs.Common.{refl}
use Rattle.input_lane.specs.declared.state.State.{State}
use Rattle.input_lane.proofs.EventLemmas.{ticked_taken}
use Rattle.input_lane.proofs.state.State.tick.Goals as goal

pub returns : goal.returns
returns c = λ settings input s k.
    let u : State = record c.args.self.now { sessions = c.close_idle.new.sessions; hand = c.put.new.hand; seconds = c.args.seconds } in
    ticked_taken settings input c.args.seconds s c.args.self.now u c.close_idle.new.hand.items k c.in_ok-close_idle.ensures.0 c.in_ok-close_idle.ensures.1 c.in_ok-put.ensures refl refl refl refl refl
