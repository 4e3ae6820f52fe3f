use Rattle.std.proofs.Common.{◌∙◌, ℕ, Some, List, [], ◌∷◌, ◌++◌, refl, sym, ap, rules}
use Rattle.std.specs.Prelude.{find}
use Rattle.arrival_spec.specs.Sessions.{is_datagrams}
use Rattle.session_table.specs.Rows.{conn_is}
use Rattle.session_table.specs.Table.{Table}
use Rattle.input_lane.specs.Links.{Link}
use Rattle.input_lane.proofs.FindLemmas.{not_known, present}
use Rattle.input_lane.proofs.EventLemmas.{opened_again, opens_taken, refused_taken, strayed}
use Rattle.input_lane.proofs.state.State.opened.Goals as goal

pub returns-then-has : goal.returns-then-has
returns-then-has c = λ settings input s k.
    let x = present c.args.conn s c.args.self.now.links c.if-has.ensures.0 k.links c.if-has.ensures.1 in
    let stream = ap is_datagrams k.transport ∙ (sym c.has_datagrams.ensures ∙ c.if-has_datagrams.false) in
    strayed settings input s _ c.args.self.now c.stray-then-has.new.self c.args.self.now.links (opened_again settings input c.args.conn s x.0 stream x.1) k refl c.stray-then-has.ensures

pub returns-in_ok-put-in-New : goal.returns-in_ok-put-in-New
returns-in_ok-put-in-New c = λ settings input s k.
    let stream = ap is_datagrams k.transport ∙ (sym c.has_datagrams.ensures ∙ c.if-has_datagrams.false) in
    let new = rw c.in-New.is at c.in_ok-key.ensures.ok in
    let row : List ℕ → Link = λ r. record { conn = c.args.conn; session = Some c.in-New.key.number; rest = r } in
    let links = c.in_ok-open-in-New.ensures ∙ ap (λ r. c.args.self.now.links ++ row r ∷ []) c.new.ensures.rest in
    opens_taken settings input c.args.conn s c.args.self.now _ c.in-New.key k stream c.if-has.ensures new refl refl refl links c.in_ok-put-in-New.ensures (search rules)

pub returns-in_ok-open-in-Refused : goal.returns-in_ok-open-in-Refused
returns-in_ok-open-in-Refused c = λ settings input s k.
    let stream = ap is_datagrams k.transport ∙ (sym c.has_datagrams.ensures ∙ c.if-has_datagrams.false) in
    let new = rw c.in-Refused.is at c.in_ok-key.ensures.ok in
    refused_taken settings input c.args.conn s c.args.self.now _ k stream c.if-has.ensures new refl refl refl c.in_ok-open-in-Refused.ensures refl (search rules)

pub returns-in-Known : goal.returns-in-Known
returns-in-Known c = λ settings input s k.
    let known = rw c.in-Known.is at c.in_ok-key.ensures.ok in
    absurd (not_known c.args.conn s c.args.self.now.links known.0.1.0 k.links c.if-has.ensures (ap (λ (o : Table). find (conn_is c.args.conn) o.conns) (sym k.sessions) ∙ known.0.1.1))
