use Rattle.std.proofs.Common.{refl, true}
use Rattle.pipeline_message.specs.declared.message.Msg.TheVariants.{SessionMsg}
use Rattle.parser_lane.proofs.ArrivalLemmas.{open_worked}
use Rattle.parser_lane.specs.declared.open_sessions.OpenSessions.{OpenSessions}
use Rattle.parser_lane.proofs.open_sessions.OpenSessions.open.Goals as goal

pub returns-clause-ok : goal.returns-clause-ok
returns-clause-ok c =
    let old = c.args.self.now in
    let new : OpenSessions = record old { rows = c.insert.new.self } in
    open_worked c.args.key c.args.transport old new c.new-domains.result (SessionMsg (record { key = c.args.key; transport = c.args.transport; opened = true })) refl tt refl refl refl (λ k. c.in_ok-insert.ensures.updates.0 k) c.new-domains.ensures
