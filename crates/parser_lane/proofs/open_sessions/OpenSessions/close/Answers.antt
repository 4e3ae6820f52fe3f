use Rattle.std.proofs.Common.{refl, false}
use Rattle.pipeline_message.specs.declared.message.Msg.TheVariants.{SessionMsg}
use Rattle.parser_lane.proofs.ArrivalLemmas.{close_worked}
use Rattle.parser_lane.specs.declared.open_sessions.OpenSessions.{OpenSessions}
use Rattle.parser_lane.proofs.open_sessions.OpenSessions.close.Goals as goal

pub returns : goal.returns
returns c =
    let old = c.args.self.now in
    let new : OpenSessions = record old { rows = c.swap_remove-domains.new.self } in
    close_worked c.args.key old new (SessionMsg (record { key = c.args.key; transport = old.transport; opened = false })) refl tt refl refl refl (λ k. c.swap_remove-domains.ensures.updates.0 k)
