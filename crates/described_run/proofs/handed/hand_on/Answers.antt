use Rattle.described_run.proofs.OverLemmas.{handed_on}
use Rattle.described_run.proofs.handed.hand_on.Goals as goal

pub returns-clause-handed : goal.returns-clause-handed
returns-clause-handed g c conf firsts ready e =
    handed_on g.S.Source.left g.S.Source.faults g.T.MessageTexts.stands g.K.Sink.held g.K.Sink.total g.K.Sink.faults conf c.args.ready.stages c.args.ready.texts.items firsts c.args.sinks.now.items c.args.inputs.now.items c.ask_all.new.inputs.items
    c.begin-taker.result c.ask_all.new.taker ready.works e c.begin-taker.ensures.new c.ask_all.ensures.ended c.ask_all.ensures.follows
