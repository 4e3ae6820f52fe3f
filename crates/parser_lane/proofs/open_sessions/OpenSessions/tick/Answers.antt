use Rattle.std.proofs.Common.{refl}
use Rattle.pipeline_message.specs.declared.message.Msg.TheVariants.{Periodic}
use Rattle.parser_lane.proofs.ArrivalLemmas.{tick_worked}
use Rattle.parser_lane.proofs.open_sessions.OpenSessions.tick.Goals as goal

pub returns : goal.returns
returns c = tick_worked c.args.input c.args.seconds c.args.self.now (Periodic c.args.input c.args.seconds) refl tt
