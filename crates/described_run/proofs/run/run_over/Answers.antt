use Rattle.std.proofs.Common.{List, [], ap, length, sym, subst, ◌∙◌, arith}
use Rattle.run_came.specs.Told.{IsNoted}
use Rattle.run_input.specs.declared.input.Input.{Input}
use Rattle.call_spec.proofs.PairLemmas.{same_length}
use Rattle.result_spec.specs.Result.{inputs_of}
use Rattle.run_input.specs.Inputs.{HasGiven}
use Rattle.described_run.proofs.OverLemmas.{all_right, inputs_long, outputs_long, over, sinks_as_many, sinks_enough, sinks_long, sources_long}
use Rattle.described_run.proofs.run.run_over.Goals as goal

pub hand_on-taker-requires-clause-right : goal.hand_on-taker-requires-clause-right
hand_on-taker-requires-clause-right g c κs within = let o = c.requires.out in all_right g.S.Src.Source.left g.S.Src.Source.faults c.args.conf.now o.1 c.args.inputs.items o.3

pub hand_on-taker-requires-clause-some : goal.hand_on-taker-requires-clause-some
hand_on-taker-requires-clause-some g c κs within =
    let o = c.requires.out in
    let enough = sinks_enough g.S.Src.Source.left g.S.Src.Source.faults g.T.MessageTexts.stands g.S.Out.Sink.held g.S.Out.Sink.total g.S.Out.Sink.faults c.args.conf.now c.args.names.now c.requires.named o.1 c.args.room.sinks.items o.0 (g.S.Site.seen c.args.site.now) o.2 in
    let makers = c.requires.ready.makers in
    omega (arith, enough.0, makers)

pub hand_on-taker-requires-clause-few : goal.hand_on-taker-requires-clause-few
hand_on-taker-requires-clause-few g c κs within =
    let o = c.requires.out in
    let enough = sinks_enough g.S.Src.Source.left g.S.Src.Source.faults g.T.MessageTexts.stands g.S.Out.Sink.held g.S.Out.Sink.total g.S.Out.Sink.faults c.args.conf.now c.args.names.now c.requires.named o.1 c.args.room.sinks.items o.0 (g.S.Site.seen c.args.site.now) o.2 in
    let makers = c.requires.ready.makers in
    omega (arith, enough.1, makers)

pub note_all-requires-clause-inputs : goal.note_all-requires-clause-inputs
note_all-requires-clause-inputs g c κs within =
    let o = c.requires.out in
    let long = inputs_long g.S.Src.Source.left g.S.Src.Source.faults g.T.MessageTexts.stands g.S.Out.Sink.held g.S.Out.Sink.total g.S.Out.Sink.faults c.args.conf.now c.args.names.now c.requires.named o.1 c.args.room.sinks.items o.0 (g.S.Site.seen c.args.site.now) o.2
    c.args.ready.texts.items c.requires.ready.makers c.hand_on-taker.new.inputs.items c.hand_on-taker.result (c.hand_on-taker.ensures.handed c.args.conf.now o.1 c.requires.ready o.3) in
    c.requires.ends ∙ (sym long ∙ ap length (sym c.deref.ensures.value))

pub note_all-requires-clause-outputs : goal.note_all-requires-clause-outputs
note_all-requires-clause-outputs g c κs within =
    let o = c.requires.out in
    c.requires.outputs ∙ sym (outputs_long g.S.Src.Source.left g.S.Src.Source.faults g.T.MessageTexts.stands g.S.Out.Sink.held g.S.Out.Sink.total g.S.Out.Sink.faults c.args.conf.now c.args.names.now c.requires.named o.1 c.args.room.sinks.items o.0 (g.S.Site.seen c.args.site.now) o.2
    c.args.ready.texts.items c.requires.ready.makers c.hand_on-taker.new.inputs.items c.hand_on-taker.result (c.hand_on-taker.ensures.handed c.args.conf.now o.1 c.requires.ready o.3))

pub give_all_back-requires-clause-inputs : goal.give_all_back-requires-clause-inputs
give_all_back-requires-clause-inputs g c κs within =
    let o = c.requires.out in
    inputs_long g.S.Src.Source.left g.S.Src.Source.faults g.T.MessageTexts.stands g.S.Out.Sink.held g.S.Out.Sink.total g.S.Out.Sink.faults c.args.conf.now c.args.names.now c.requires.named o.1 c.args.room.sinks.items o.0 (g.S.Site.seen c.args.site.now) o.2
    c.args.ready.texts.items c.requires.ready.makers c.hand_on-taker.new.inputs.items c.hand_on-taker.result (c.hand_on-taker.ensures.handed c.args.conf.now o.1 c.requires.ready o.3)

pub give_all_back-requires-clause-sinks : goal.give_all_back-requires-clause-sinks
give_all_back-requires-clause-sinks g c κs within =
    let o = c.requires.out in
    sinks_as_many g.S.Src.Source.left g.S.Src.Source.faults g.T.MessageTexts.stands g.S.Out.Sink.held g.S.Out.Sink.total g.S.Out.Sink.faults c.args.conf.now c.args.names.now c.requires.named o.1 c.args.room.sinks.items o.0 (g.S.Site.seen c.args.site.now) o.2
    c.args.ready.texts.items c.requires.ready.makers c.hand_on-taker.new.inputs.items c.hand_on-taker.result (c.hand_on-taker.ensures.handed c.args.conf.now o.1 c.requires.ready o.3)

pub give_all_back-requires-clause-sources_room : goal.give_all_back-requires-clause-sources_room
give_all_back-requires-clause-sources_room g c κs within =
    let o = c.requires.out in
    let long = inputs_long g.S.Src.Source.left g.S.Src.Source.faults g.T.MessageTexts.stands g.S.Out.Sink.held g.S.Out.Sink.total g.S.Out.Sink.faults c.args.conf.now c.args.names.now c.requires.named o.1 c.args.room.sinks.items o.0 (g.S.Site.seen c.args.site.now) o.2
    c.args.ready.texts.items c.requires.ready.makers c.hand_on-taker.new.inputs.items c.hand_on-taker.result (c.hand_on-taker.ensures.handed c.args.conf.now o.1 c.requires.ready o.3) in
    let was = same_length (λ k first x. HasGiven g.S.Src.Source.left g.S.Src.Source.faults first (inputs_of c.args.conf.now k) k [] [] x) 0 o.1 c.args.inputs.items o.3 in
    let sources = sources_long g.S.Src.Source.left g.S.Src.Source.faults g.T.MessageTexts.stands g.S.Out.Sink.held g.S.Out.Sink.total g.S.Out.Sink.faults c.args.conf.now c.args.names.now c.requires.named o.1 c.args.room.sinks.items o.0 (g.S.Site.seen c.args.site.now) o.2 in
    omega (arith, long, was, sources, c.requires.sources_room)

pub give_all_back-requires-clause-sinks_room : goal.give_all_back-requires-clause-sinks_room
give_all_back-requires-clause-sinks_room g c κs within =
    let o = c.requires.out in
    let long = sinks_long g.S.Src.Source.left g.S.Src.Source.faults g.T.MessageTexts.stands g.S.Out.Sink.held g.S.Out.Sink.total g.S.Out.Sink.faults c.args.conf.now c.args.names.now c.requires.named o.1 c.args.room.sinks.items o.0 (g.S.Site.seen c.args.site.now) o.2 in
    omega (arith, long, c.hand_on-taker.ensures.room)

pub returns : goal.returns
returns g c old firsts out e =
    let back = c.give_all_back.ensures in
    over g.S.Src.Source.left g.S.Src.Source.faults g.T.MessageTexts.stands g.S.Out.Sink.held g.S.Out.Sink.total g.S.Out.Sink.faults c.args.conf.now c.args.names.now c.requires.named firsts c.args.room.sinks.items old (g.S.Site.seen c.args.site.now) out c.args.ready.texts.items c.requires.ready.makers
    c.hand_on-taker.new.inputs.items c.hand_on-taker.result (c.hand_on-taker.ensures.handed c.args.conf.now firsts c.requires.ready e) c.note_all.new.ended back.0 (g.S.Site.seen c.give_all_back.new.site) c.requires.distinct back.1 back.2
    (subst (λ (l : List (Input g.row.S-Src.Denot)). IsNoted (length c.args.conf.now.stages) l c.hand_on-taker.result c.note_all.new.ended) c.deref.ensures.value (c.note_all.ensures (length c.args.conf.now.stages) c.requires.stages))
