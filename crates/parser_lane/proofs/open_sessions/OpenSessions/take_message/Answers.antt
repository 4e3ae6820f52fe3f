use Rattle.std.proofs.Common.{◌≤◌, arith, length, refl, sym, subst, ◌∙◌, List, ℕ}
use Rattle.ipfix_reader.specs.Octets.{octets_of}
use Rattle.wire_spec.specs.Content.{Says}
use Rattle.wire_spec.proofs.ContentLemmas.{some_says}
use Rattle.session_domains.specs.Session.{Takes}
use Rattle.parser_lane.specs.declared.open_sessions.OpenSessions.{OpenSessions}
use Rattle.parser_lane.specs.Parsers.{IsMadeOf}
use Rattle.parser_lane.proofs.ArrivalLemmas.{item_of_some, well_worked}
use Rattle.parser_lane.proofs.RoomLemmas.{short_message}
use Rattle.parser_lane.proofs.open_sessions.OpenSessions.take_message.Goals as goal

pub returns-clause-ok : goal.returns-clause-ok
returns-clause-ok c =
    let old = c.args.self.now in
    let of = c.requires.of in
    let octets = c.args.octets.now.value in
    let said = some_says (octets_of c.args.message) c.requires.whole.0 c.requires.whole.1 in
    let m = said.0 in
    let says = said.1 in
    let most : length octets ≤ 65535 = subst (λ (l : List ℕ). length l ≤ 65535) of (short_message (octets_of c.args.message) m says c.header-header.result.length c.header-header.ensures.length (omega arith)) in
    let t = c.in_ok-fate.ensures in
    let h = c.header-header.ensures in
    let new : OpenSessions = record old { rows = c.take_in_session.new.rows; counts = c.counted-counts.result } in
    let item = item_of_some c.in_ok-msg.msg c.args.key octets m c.header-header.result.domain c.header-header.result.export c.header-header.result.seq c.sets_of.result.items _ c.in_ok-msg.ensures.item (h.domain ∙ sym says.domain) (h.export ∙ sym says.export)
    (h.seq ∙ sym says.sequence) c.sets_of.ensures in
    let made = subst (λ l. IsMadeOf octets l c.in_ok-msg.msg) c.sets_of.ensures c.in_ok-msg.ensures.made in
    well_worked c.args.key octets old new t.before t.after c.in_ok-fate.fate c.in_ok-msg.msg m (subst (λ (l : List ℕ). Says l m) of says) most t.found t.updates (subst (λ (l : List ℕ). Takes l t.before t.after c.in_ok-fate.fate) of t.takes) item made refl refl
    c.counted-counts.ensures
