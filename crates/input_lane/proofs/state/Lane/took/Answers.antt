use Rattle.std.proofs.Common.{◌∙◌, ◌≡◌, ◌<◌, ◌^◌, refl, ap, sym, rules, ◌++◌, ◌∷◌, []}
use Rattle.arrival_spec.specs.Run.{run_of, standing_after}
use Rattle.arrival_spec.specs.Mark.{arrivals_in}
use Rattle.input_lane.specs.Hands.{meant}
use Rattle.input_lane.specs.declared.state.Lane.{Lane}
use Rattle.input_lane.specs.Inlets.{IsReading, IsTaken}
use Rattle.input_lane.proofs.StandLemmas.{taken_more, taken_still, still_handed, within_more, none_whole, keeps_hand, full_more, stands_behind, ends_how}
use Rattle.input_lane.specs.declared.state.Reading.TheVariants as reading
use Rattle.input_lane.proofs.state.Lane.took.Goals as goal

pub returns-in-Some-clause-took : goal.returns-in-Some-clause-took
returns-in-Some-clause-took c = λ e at is settings input taken out r.
    let x : Lane = record c.args.self.now { state = c.take.new.self; taken = c.count_up-self.result } in
    let y : Lane = record x { state = record c.take.new.self { hand = c.pop_front.new.self } } in
    let k : IsTaken settings input (taken ++ e ∷ []) out x = taken_more settings input taken out e c.args.self.now x is r (c.in-Ok.ensures e at is) in
    let limit : c.args.self.now.stop_after < 2 ^ 64 = search rules in
    let within = within_more settings e taken c.args.self.now.taken c.count_up-self.result c.args.self.now.stop_after is r.told limit r.within c.count_up-self.ensures c.if-has_reached.ensures in
    let still : IsReading settings input (taken ++ e ∷ []) out x = taken_still settings input (taken ++ e ∷ []) out x x x k refl r.told within in
    still_handed settings input (taken ++ e ∷ []) out x y c.in-Some.came c.handed.result still c.in-Some.ensures.items c.requires.reading
    (keeps_hand settings input (standing_after settings input (taken ++ e ∷ [])) x.state y.state k.keeps refl refl refl refl refl) refl refl refl c.handed.ensures.handed

pub returns-in-None-clause-took : goal.returns-in-None-clause-took
returns-in-None-clause-took c = λ e at is settings input taken out r.
    let x : Lane = record c.args.self.now { state = c.take.new.self; taken = c.count_up-self.result } in
    let y : Lane = record x { state = record c.take.new.self { hand = c.pop_front.new.self } } in
    let k : IsTaken settings input (taken ++ e ∷ []) out x = taken_more settings input taken out e c.args.self.now x is r (c.in-Ok.ensures e at is) in
    let limit : c.args.self.now.stop_after < 2 ^ 64 = search rules in
    let within = within_more settings e taken c.args.self.now.taken c.count_up-self.result c.args.self.now.stop_after is r.told limit r.within c.count_up-self.ensures c.if-has_reached.ensures in
    let empty : c.take.new.self.hand.items ≡ [] = search rules in (
      record {
        told = r.told;
        keeps = keeps_hand settings input (standing_after settings input (taken ++ e ∷ [])) x.state y.state k.keeps refl refl refl refl refl;
        whole = ap (λ l. out ++ meant l) (sym c.in-None.ensures.items) ∙ k.whole;
        counts = k.counts;
        within = within;
      },
      none_whole out (arrivals_in (run_of settings input (taken ++ e ∷ [])).marks) c.take.new.self.hand.items empty k.whole,
      c.requires.reading,
    )

pub returns-then-has_reached-clause-took : goal.returns-then-has_reached-clause-took
returns-then-has_reached-clause-took c = λ e at is settings input taken out r.
    let x : Lane = record c.args.self.now { state = c.take.new.self; taken = c.count_up-self.result } in
    c.finish.ensures.ends settings input (taken ++ e ∷ []) out (taken_more settings input taken out e c.args.self.now x is r (c.in-Ok.ensures e at is))

pub returns-then-has_reached-clause-stops : goal.returns-then-has_reached-clause-stops
returns-then-has_reached-clause-stops c = λ e is settings input taken out r.
    let limit : c.args.self.now.stop_after < 2 ^ 64 = search rules in
    stands_behind settings (taken ++ e ∷ []) c.finish.new.self.reading reading.Ended (ends_how reading.Ended c.finish.new.self.reading c.finish.result c.finish.ensures.how)
    (full_more settings e taken c.args.self.now.taken c.count_up-self.result c.args.self.now.stop_after is r.told limit r.within c.count_up-self.ensures c.if-has_reached.ensures)
