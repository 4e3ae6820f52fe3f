use Rattle.std.proofs.Common.{subst, Option}
use Rattle.arrival_spec.specs.Arrival.Arrival.{Raw}
use Rattle.site_io.specs.declared.outside.OutsideFault.{OutsideFault}
use Rattle.file_lines.specs.Texts.{KeepsFault}
use Rattle.file_lines.proofs.TextLemmas.{keeps_wrote}
use Rattle.file_lines.proofs.WorkLemmas.{put_writes}
use Rattle.file_lines.proofs.work.write_message.Goals as goal

pub returns-in-Ok-clause-ok : goal.returns-in-Ok-clause-ok
returns-in-Ok-clause-ok g c =
    put_writes g.K.Sink.held g.K.Sink.faults (Raw c.args.key c.args.octets.now) c.args.sessions.now c.take.new.self c.args.texts.now c.clear.new.self c.take.new.texts c.flush.new.self c.args.sink.now c.flush.new.sink c.clear.ensures c.in-Ok.ensures.ok c.flush.ensures

pub returns-in-Err-clause-err : goal.returns-in-Err-clause-err
returns-in-Err-clause-err g c = λ text first count has.
    keeps_wrote first (g.K.Sink.held c.args.sink.now) count (g.K.Sink.faults c.args.sink.now) text c.args.texts.now.fault c.take.new.texts.fault
    (subst (λ (f : Option OutsideFault). KeepsFault f c.take.new.texts.fault) c.clear.ensures.fault c.in-Err.ensures.err) has
