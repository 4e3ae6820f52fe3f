use Rattle.std.proofs.Common.{None, Some, ◌∙◌}
use Rattle.file_lines.proofs.RunLemmas.{waiting_none, waiting_taken, waiting_then}
use Rattle.file_lines.proofs.run.work_waiting.Goals as goal

pub returns-in-Some-take_answer-clause-works : goal.returns-in-Some-take_answer-clause-works
returns-in-Some-take_answer-clause-works g c =
    waiting_then g.K.Sink.held g.K.Sink.faults c.args.inlet.now.lane c.loop-answer.inlet.lane c.waiting.new.self.lane c.args.sessions.now c.loop-answer.sessions c.take_answer.new.sessions c.args.texts.now c.loop-answer.texts c.take_answer.new.texts
    c.args.sink.now c.loop-answer.sink c.take_answer.new.sink (Some c.in-Some-take_answer.end) c.loop-answer.invariant.works
    (waiting_taken g.K.Sink.held g.K.Sink.faults c.loop-answer.inlet.lane c.waiting.new.self.lane c.in-Some.answer c.loop-answer.sessions c.take_answer.new.sessions c.loop-answer.texts c.take_answer.new.texts c.loop-answer.sink c.take_answer.new.sink
    (Some c.in-Some-take_answer.end) c.in-Some.ensures.hands.0 c.in-Some.ensures.hands.1 c.in-Some-take_answer.ensures)

pub loop-answer-preserved : goal.loop-answer-preserved
loop-answer-preserved g c = record {
  source = c.in-Some.ensures.source ∙ c.loop-answer.invariant.source;
  works = waiting_then g.K.Sink.held g.K.Sink.faults c.args.inlet.now.lane c.loop-answer.inlet.lane c.waiting.new.self.lane c.args.sessions.now c.loop-answer.sessions c.take_answer.new.sessions c.args.texts.now c.loop-answer.texts c.take_answer.new.texts
      c.args.sink.now c.loop-answer.sink c.take_answer.new.sink None c.loop-answer.invariant.works
      (waiting_taken g.K.Sink.held g.K.Sink.faults c.loop-answer.inlet.lane c.waiting.new.self.lane c.in-Some.answer c.loop-answer.sessions c.take_answer.new.sessions c.loop-answer.texts c.take_answer.new.texts c.loop-answer.sink c.take_answer.new.sink
      None c.in-Some.ensures.hands.0 c.in-Some.ensures.hands.1 c.in-None.ensures);
}

pub returns-clause-works : goal.returns-clause-works
returns-clause-works g c =
    waiting_then g.K.Sink.held g.K.Sink.faults c.args.inlet.now.lane c.loop-answer.inlet.lane c.waiting.new.self.lane c.args.sessions.now c.loop-answer.sessions c.loop-answer.sessions c.args.texts.now c.loop-answer.texts c.loop-answer.texts
    c.args.sink.now c.loop-answer.sink c.loop-answer.sink None c.loop-answer.invariant.works
    (waiting_none g.K.Sink.held g.K.Sink.faults c.loop-answer.inlet.lane c.waiting.new.self.lane c.loop-answer.sessions c.loop-answer.texts c.loop-answer.sink c.in_default.ensures.hands)
