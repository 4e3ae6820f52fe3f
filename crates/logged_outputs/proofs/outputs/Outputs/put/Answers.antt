use Rattle.std.proofs.Common.{◌≡◌, Option, None, sym, subst, ◌∙◌, refl}
use Rattle.std.specs.Prelude.{unwrap_or}
use Rattle.pipeline_message.specs.declared.message.Msg.{Msg}
use Rattle.message_stages.specs.Behind.{IsBehind}
use Rattle.logged_outputs.proofs.LogLemmas.{none_of}
use Rattle.logged_outputs.proofs.BehindLemmas.{cut_before, cut_now, put_left}
use Rattle.logged_outputs.proofs.outputs.Outputs.put.Goals as goal

pub returns-then-is_some : goal.returns-then-is_some
returns-then-is_some g c =
    cut_before g.T.MessageTexts.stands g.K.Sink.held g.K.Sink.total g.K.Sink.faults c.args.message.now c.args.self.now (sym c.is_some.ensures ∙ c.if-is_some.true)

pub returns-in-Ok-None : goal.returns-in-Ok-None
returns-in-Ok-None g c =
    let was : c.args.self.now.wanting ≡ None = none_of c.args.self.now.wanting (sym c.is_some.ensures ∙ c.if-is_some.false) in
    put_left g.T.MessageTexts.stands g.K.Sink.held g.K.Sink.total g.K.Sink.faults c.args.message.now c.args.message.now c.args.self.now
    (record { stages = c.pass.new.self; wanting = c.args.self.now.wanting; outputs = c.put_to_all.new.outputs }) c.put_to_all.new.outputs.items c.in-Ok-None.ensures.same was was refl
    (subst (λ (o : Option Msg). IsBehind c.args.self.now.stages c.args.message.now (unwrap_or o c.args.message.now)) c.in-Ok-None.field-0-is c.in-Ok-None.ensures.ok) c.put_to_all.ensures

pub returns-in-Ok-Some : goal.returns-in-Ok-Some
returns-in-Ok-Some g c =
    let was : c.args.self.now.wanting ≡ None = none_of c.args.self.now.wanting (sym c.is_some.ensures ∙ c.if-is_some.false) in
    put_left g.T.MessageTexts.stands g.K.Sink.held g.K.Sink.total g.K.Sink.faults c.args.message.now c.in-Ok-Some.left c.args.self.now
    (record { stages = c.pass.new.self; wanting = c.args.self.now.wanting; outputs = c.put_to_all-in-Ok-Some.new.outputs }) c.put_to_all-in-Ok-Some.new.outputs.items c.in-Ok-Some.ensures.same was was refl
    (subst (λ (o : Option Msg). IsBehind c.args.self.now.stages c.args.message.now (unwrap_or o c.args.message.now)) c.in-Ok-Some.field-0-is c.in-Ok-Some.ensures.ok) c.put_to_all-in-Ok-Some.ensures

pub returns-in-Err : goal.returns-in-Err
returns-in-Err g c =
    let was : c.args.self.now.wanting ≡ None = none_of c.args.self.now.wanting (sym c.is_some.ensures ∙ c.if-is_some.false) in
    cut_now g.T.MessageTexts.stands g.K.Sink.held g.K.Sink.total g.K.Sink.faults c.args.message.now c.args.self.now
    _ c.in-Err.stage c.in-Err.ensures.same refl was refl c.in-Err.ensures.err
