use Rattle.std.proofs.Common.{None, Some, refl, ap, sym, subst, ◌∙◌, ◌≡◌}
use Rattle.std.specs.Prelude.{IfNone, Option}
use Rattle.call_spec.specs.Files.{file_settings}
use Rattle.input_lane.specs.Inlets.{and_given}
use Rattle.run_input.specs.Standing.{end_by}
use Rattle.file_lines.proofs.RunLemmas.{answer_worked, open_stands, steps_over, steps_worked}
use Rattle.file_lines.proofs.run.read_one.Goals as goal

if_none : {X : Type 0} {P : Type 0} (o : Option X) → IfNone o P → o ≡ None → P
if_none {X} {P} o i e = subst (λ (x : Option X). IfNone x P) e i

pub returns-then-is_over : goal.returns-then-is_over
returns-then-is_over g c = λ given first first_sink lt so.
    let e = c.ask-answer.ensures in
    let said = e.5 file_settings 0 given so.working.out (open_stands given so.working.out c.args.inlet.now.lane so.working.reads_on so.working.stands) in
    steps_over g.S.Source.left g.S.Source.faults g.K.Sink.held g.K.Sink.faults given first c.args.inlet.now first_sink c.args.sink.now c.args.sessions.now c.args.texts.now so lt e.0 c.ask-answer.new.self c.ask-answer.result e.1 e.2 e.3 said e.4 (sym c.is_over.ensures ∙ c.if-is_over.true) c.end_of.result (c.end_of.ensures ∙ ap end_by c.fault.ensures)

pub returns-in-Some : goal.returns-in-Some
returns-in-Some g c = λ given first first_sink lt so.
    let e = c.ask-answer.ensures in
    let said = e.5 file_settings 0 given so.working.out (open_stands given so.working.out c.args.inlet.now.lane so.working.reads_on so.working.stands) in
    let on = sym c.is_over.ensures ∙ c.if-is_over.false in
    steps_worked g.S.Source.left g.S.Source.faults g.K.Sink.held g.K.Sink.faults given first c.args.inlet.now first_sink c.args.sink.now c.args.sessions.now c.args.texts.now so lt e.0 c.ask-answer.new.self c.ask-answer.result e.1 e.2 e.3 said on c.ask-answer.new.self refl c.take_answer.new.sessions c.take_answer.new.texts c.take_answer.new.sink (Some c.in-Some.end) (λ none. absurd (cc))
    (answer_worked g.S.Source.left g.S.Source.faults g.K.Sink.held g.K.Sink.faults given first c.args.inlet.now first_sink c.args.sink.now c.args.sessions.now c.args.texts.now so lt e.0 c.ask-answer.new.self c.ask-answer.result e.1 e.2 e.3 said on c.take_answer.new.sessions c.take_answer.new.texts c.take_answer.new.sink (Some c.in-Some.end) c.in-Some.ensures)

pub returns-in-None : goal.returns-in-None
returns-in-None g c = λ given first first_sink lt so.
    let e = c.ask-answer.ensures in
    let said = e.5 file_settings 0 given so.working.out (open_stands given so.working.out c.args.inlet.now.lane so.working.reads_on so.working.stands) in
    let on = sym c.is_over.ensures ∙ c.if-is_over.false in
    let w = answer_worked g.S.Source.left g.S.Source.faults g.K.Sink.held g.K.Sink.faults given first c.args.inlet.now first_sink c.args.sink.now c.args.sessions.now c.args.texts.now so lt e.0 c.ask-answer.new.self c.ask-answer.result e.1 e.2 e.3 said on c.take_answer.new.sessions c.take_answer.new.texts c.take_answer.new.sink None c.in-None.ensures in
    steps_worked g.S.Source.left g.S.Source.faults g.K.Sink.held g.K.Sink.faults given first c.args.inlet.now first_sink c.args.sink.now c.args.sessions.now c.args.texts.now so lt e.0 c.ask-answer.new.self c.ask-answer.result e.1 e.2 e.3 said on c.work_waiting.new.inlet c.work_waiting.ensures.source c.work_waiting.new.sessions c.work_waiting.new.texts c.work_waiting.new.sink c.work_waiting.result (λ none. (if_none c.work_waiting.result c.work_waiting.ensures.idle none, w.reads_on))
    (c.work_waiting.ensures.works (and_given e.0 given) (g.K.Sink.held first_sink) (g.K.Sink.faults first_sink) w)
