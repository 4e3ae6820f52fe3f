use Rattle.std.proofs.Common.{refl, subst, ◌∙◌, List, ℕ}
use Rattle.wire_spec.specs.Message.{FirstFault}
use Rattle.parser_lane.specs.declared.open_sessions.OpenSessions.{OpenSessions}
use Rattle.parser_lane.specs.Parsers.{IsMadeOf}
use Rattle.parser_lane.proofs.ArrivalLemmas.{item_of_none, malformed_worked}
use Rattle.parser_lane.proofs.open_sessions.OpenSessions.take.Goals as goal

pub returns-in_ok-msg-in-Err-clause-ok : goal.returns-in_ok-msg-in-Err-clause-ok
returns-in_ok-msg-in-Err-clause-ok c =
    let old = c.args.self.now in
    let new : OpenSessions = record old { counts = c.malformed-self.result } in
    let zero = c.no_header.ensures in
    let first : FirstFault c.args.octets.now.value c.in-Err.field-0 = subst (λ (l : List ℕ). FirstFault l c.in-Err.field-0) (c.as_slice.ensures ∙ c.deref.ensures) c.in-Err.ensures in
    malformed_worked c.args.key c.args.octets.now.value old new c.in-Err.field-0 c.in_ok-msg-in-Err.msg first
    (item_of_none c.in_ok-msg-in-Err.msg c.args.key c.args.octets.now.value c.no_header.result.domain c.no_header.result.export c.no_header.result.seq c.new.result.items c.in_ok-msg-in-Err.ensures.item zero.0 zero.1 zero.2 c.new.ensures.items)
    (subst (λ l. IsMadeOf c.args.octets.now.value l c.in_ok-msg-in-Err.msg) c.new.ensures.items c.in_ok-msg-in-Err.ensures.made) refl refl refl
    c.malformed-self.ensures
