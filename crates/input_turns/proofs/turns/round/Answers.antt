use Rattle.std.proofs.Common.{All, arith, refl, rules, [], subst, ◌∙◌}
use Rattle.std.proofs.lemmas.Bool.{or_parts}
use Rattle.std.proofs.lemmas.List.{length-set, take_all}
use Rattle.std.proofs.lemmas.List.Elements.{All-set}
use Rattle.run_input.specs.Inputs.{IsRight}
use Rattle.logged_outputs.specs.Logged.{Took}
use Rattle.logged_outputs.proofs.EntryLemmas.{takes_none}
use Rattle.input_turns.specs.Turns.{HadNothing}
use Rattle.input_turns.proofs.PlaceLemmas.{all_more_set}
use Rattle.input_turns.proofs.TurnLemmas.{all_none, turned_one}
use Rattle.input_turns.proofs.turns.round.Goals as goal

pub loop-i-init : goal.loop-i-init
loop-i-init g c = (c.requires, ([], all_none g.S.Source.left g.S.Source.faults c.args.inputs.now.items, takes_none (Took g.T.MessageTexts.stands g.K.Sink.held g.K.Sink.total g.K.Sink.faults) c.args.taker.now), λ none k d lt. absurd (omega arith), refl)

pub loop-i-preserved : goal.loop-i-preserved
loop-i-preserved g c = (
  All-set (IsRight g.S.Source.left g.S.Source.faults) c.loop-i.inputs.items c.loop-i.i c.turn-came.new.input c.turn-came.ensures.right c.loop-i.invariant.0,
  turned_one g.S.Source.left g.S.Source.faults (Took g.T.MessageTexts.stands g.K.Sink.held g.K.Sink.total g.K.Sink.faults) c.loop-i.i c.args.inputs.now.items c.loop-i.inputs.items c.index_mut.result.now c.index_mut.result.now c.turn-came.new.input
      c.args.taker.now c.loop-i.taker c.turn-came.new.taker (first_of (omega (arith, c.loop-i.inputs.ok.0), search rules)) c.index_mut.ensures.value c.loop-i.invariant.1 c.turn-came.ensures.turned,
  λ none. all_more_set (HadNothing g.S.Source.left g.S.Source.faults) c.loop-i.inputs.items c.loop-i.i c.turn-came.new.input (first_of (omega (arith, c.loop-i.inputs.ok.0), search rules)) (c.loop-i.invariant.2 (or_parts c.loop-i.came c.turn-came.result none).0) (c.turn-came.ensures.nothing (or_parts c.loop-i.came c.turn-came.result none).1),
  length-set c.loop-i.inputs.items c.loop-i.i c.turn-came.new.input ∙ c.loop-i.invariant.3,
)

pub returns-clause-nothing : goal.returns-clause-nothing
returns-clause-nothing g c none = subst (All (HadNothing g.S.Source.left g.S.Source.faults)) (take_all c.loop-i.i c.loop-i.inputs.items (let long = c.loop-i.invariant.3 in omega arith)) (c.loop-i.invariant.2 none)
