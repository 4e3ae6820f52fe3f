use Rattle.std.proofs.Common.{None, subst, sym}
use Rattle.session_table.specs.declared.arrival.Arrival.{Arrival}
use Rattle.parser_lane.specs.Parsers.{arrival_of}
use Rattle.file_lines.specs.Work.{WorksOff}
use Rattle.file_lines.proofs.WorkLemmas.{close_writes, open_writes, tick_writes}
use Rattle.file_lines.proofs.work.work_off.Goals as goal

pub returns-in-Ok : goal.returns-in-Ok
returns-in-Ok g c =
    subst (λ (a : Arrival). WorksOff g.K.Sink.held g.K.Sink.faults (arrival_of a) c.args.sessions.now c.open.new.self c.args.texts.now c.args.texts.now c.args.sink.now c.args.sink.now None) (sym c.in-SessionOpen.is)
    (open_writes g.K.Sink.held g.K.Sink.faults c.in-SessionOpen.key c.in-SessionOpen.field-1 c.args.sessions.now c.open.new.self c.args.texts.now c.args.sink.now (c.in-Ok.ensures c.in-SessionOpen.field-1 c.args.texts.now))

pub returns-in-SessionClose : goal.returns-in-SessionClose
returns-in-SessionClose g c =
    subst (λ (a : Arrival). WorksOff g.K.Sink.held g.K.Sink.faults (arrival_of a) c.args.sessions.now c.close.new.self c.args.texts.now c.args.texts.now c.args.sink.now c.args.sink.now None) (sym c.in-SessionClose.is)
    (close_writes g.K.Sink.held g.K.Sink.faults c.in-SessionClose.key c.args.sessions.now c.close.new.self c.args.texts.now c.args.sink.now (c.close.ensures c.args.texts.now))

pub returns-in-Periodic : goal.returns-in-Periodic
returns-in-Periodic g c =
    subst (λ (a : Arrival). WorksOff g.K.Sink.held g.K.Sink.faults (arrival_of a) c.args.sessions.now c.args.sessions.now c.args.texts.now c.args.texts.now c.args.sink.now c.args.sink.now None) (sym c.in-Periodic.is)
    (tick_writes g.K.Sink.held g.K.Sink.faults c.in-Periodic.field-0 c.in-Periodic.field-1 c.args.sessions.now c.args.texts.now c.args.sink.now)
