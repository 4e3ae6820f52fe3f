use Rattle.std.proofs.Common.{◌∙◌, sym, refl}
use Rattle.pipeline_message.specs.Items.{item_of}
use Rattle.logged_outputs.specs.declared.logged.LoggedOutputs.{LoggedOutputs}
use Rattle.logged_outputs.proofs.LogLemmas.{item_is, take_unwritten, take_written}
use Rattle.logged_outputs.proofs.logged.LoggedOutputs.take.Goals as goal

pub returns-then-goes_on : goal.returns-then-goes_on
returns-then-goes_on g c =
    let i = item_is (item_of c.args.message.now) c.requires.item in
    take_written g.T.MessageTexts.stands g.K.Sink.held g.K.Sink.total g.K.Sink.faults c.args.input c.args.message.now i.0 c.args.self.now (record { log = c.enter-goes_on.new.log; outputs = c.put.new.self }) i.1 c.enter-goes_on.ensures.enters
    (sym c.enter-goes_on.ensures.goes_on ∙ c.if-goes_on.true) c.put.ensures

pub returns-else-goes_on : goal.returns-else-goes_on
returns-else-goes_on g c =
    let i = item_is (item_of c.args.message.now) c.requires.item in
    take_unwritten g.T.MessageTexts.stands g.K.Sink.held g.K.Sink.total g.K.Sink.faults c.args.input c.args.message.now i.0 c.args.self.now (record { log = c.enter-goes_on.new.log; outputs = c.args.self.now.outputs }) i.1 c.enter-goes_on.ensures.enters
    (sym c.enter-goes_on.ensures.goes_on ∙ c.if-goes_on.false) refl
