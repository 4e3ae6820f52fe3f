use Rattle.std.proofs.Common.{◌≡◌, None, Some, true, List, ℕ, rules, subst, sym}
use Rattle.std.specs.Prelude.{is_some}
use Rattle.call_spec.specs.declared.end.OutputFault.{OutputFault}
use Rattle.logged_outputs.specs.Outputs.{PutsMessage, Wrote}
use Rattle.logged_outputs.proofs.OutputLemmas.{put_refused, put_stays, put_text}
use Rattle.logged_outputs.proofs.output.Output.put.Goals as goal

pub returns-then-is_some : goal.returns-then-is_some
returns-then-is_some g c =
    let some : is_some c.args.self.now.fault ≡ true = search rules in
    put_stays g.T.MessageTexts.stands g.K.Sink.held g.K.Sink.total g.K.Sink.faults c.args.message.now c.args.self.now some

pub returns-in-Ok : goal.returns-in-Ok
returns-in-Ok g c =
    let none : c.args.self.now.fault ≡ None = search rules in
    put_text g.T.MessageTexts.stands g.K.Sink.held g.K.Sink.total g.K.Sink.faults g.T.MessageTexts.last c.args.message.now c.args.self.now c.put.new.self c.write_text-self.new.sink c.write_text-self.result none c.in-Ok.ensures.ok
    (subst (λ (t : List ℕ). Wrote g.K.Sink.held g.K.Sink.total g.K.Sink.faults t c.args.self.now.sink c.write_text-self.new.sink c.write_text-self.result) c.text.ensures c.write_text-self.ensures)

pub returns-in-Err : goal.returns-in-Err
returns-in-Err g c =
    let none : c.args.self.now.fault ≡ None = search rules in
    subst (λ (f : OutputFault). PutsMessage g.K.Sink.held g.K.Sink.total g.K.Sink.faults g.T.MessageTexts.stands c.args.message.now c.args.self.now (record { texts = c.put.new.self; sink = c.args.self.now.sink; fault = Some f })) (sym c.fault_of.ensures)
    (put_refused g.T.MessageTexts.stands g.K.Sink.held g.K.Sink.total g.K.Sink.faults c.args.message.now c.args.self.now c.put.new.self c.in-Err.fault none c.in-Err.ensures.limit)
