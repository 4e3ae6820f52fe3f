use Rattle.std.proofs.Common.{ℕ, inr, sym, subst, []}
use Rattle.logged_outputs.specs.Entries.{entries_of}
use Rattle.logged_outputs.specs.Logged.{Took}
use Rattle.logged_outputs.proofs.EntryLemmas.{takes_none}
use Rattle.run_input.specs.declared.input.InputAnswer.TheVariants as answer
use Rattle.run_input.proofs.NextLemmas.{brings_right}
use Rattle.input_turns.specs.Turns.{InputGives}
use Rattle.input_turns.proofs.TurnLemmas.{end_came, message_came, message_item, not_yet_came, nothing_came}
use Rattle.input_turns.proofs.turns.ask.Goals as goal

pub take-requires-clause-item : goal.take-requires-clause-item
take-requires-clause-item g c κs within = message_item g.S.Source.left g.S.Source.faults c.args.input.now c.next.new.self c.in-Message.message c.requires c.in-Message.ensures.brings

pub returns-in-Message-clause-turned : goal.returns-in-Message-clause-turned
returns-in-Message-clause-turned g c = (
  entries_of c.number-number.result c.in-Message.message,
  subst (λ (n : ℕ). InputGives g.S.Source.left g.S.Source.faults (entries_of n c.in-Message.message) c.args.input.now c.next.new.self) (sym c.number-number.ensures)
      (message_came g.S.Source.left g.S.Source.faults c.args.input.now c.next.new.self c.in-Message.message c.in-Message.ensures.brings),
  c.take.ensures,
)

pub returns-in-Nothing-clause-turned : goal.returns-in-Nothing-clause-turned
returns-in-Nothing-clause-turned g c = ([], nothing_came g.S.Source.left g.S.Source.faults c.args.input.now c.next.new.self c.in-Nothing.ensures.brings, takes_none (Took g.T.MessageTexts.stands g.K.Sink.held g.K.Sink.total g.K.Sink.faults) c.args.taker.now)

pub returns-in-NotYet-clause-turned : goal.returns-in-NotYet-clause-turned
returns-in-NotYet-clause-turned g c = ([], not_yet_came g.S.Source.left g.S.Source.faults c.args.input.now c.next.new.self c.in-NotYet.ensures.brings, takes_none (Took g.T.MessageTexts.stands g.K.Sink.held g.K.Sink.total g.K.Sink.faults) c.args.taker.now)

pub returns-in-Ended-clause-turned : goal.returns-in-Ended-clause-turned
returns-in-Ended-clause-turned g c = ([], end_came g.S.Source.left g.S.Source.faults c.args.input.now c.next.new.self c.in-Ended.ensures.brings, takes_none (Took g.T.MessageTexts.stands g.K.Sink.held g.K.Sink.total g.K.Sink.faults) c.args.taker.now)

pub returns-in-Message-clause-right : goal.returns-in-Message-clause-right
returns-in-Message-clause-right g c = brings_right g.S.Source.left g.S.Source.faults c.args.input.now c.next.new.self (answer.Message c.in-Message.message) c.requires c.in-Message.ensures.brings

pub returns-in-Nothing-clause-right : goal.returns-in-Nothing-clause-right
returns-in-Nothing-clause-right g c = brings_right g.S.Source.left g.S.Source.faults c.args.input.now c.next.new.self answer.Nothing c.requires c.in-Nothing.ensures.brings

pub returns-in-NotYet-clause-right : goal.returns-in-NotYet-clause-right
returns-in-NotYet-clause-right g c = brings_right g.S.Source.left g.S.Source.faults c.args.input.now c.next.new.self answer.NotYet c.requires c.in-NotYet.ensures.brings

pub returns-in-Ended-clause-right : goal.returns-in-Ended-clause-right
returns-in-Ended-clause-right g c = brings_right g.S.Source.left g.S.Source.faults c.args.input.now c.next.new.self answer.Ended c.requires c.in-Ended.ensures.brings

pub returns-in-NotYet-clause-nothing : goal.returns-in-NotYet-clause-nothing
returns-in-NotYet-clause-nothing g c same = inr (c.args.input.now, c.requires, c.in-NotYet.ensures.brings)
