use Rattle.std.proofs.Common.{◌∙◌, sym, ap, map, option_map, Some}
use Rattle.std.specs.Prelude.{find}
use Rattle.std.specs.List.{list_all}
use Rattle.session_table.specs.Rows.{peer_is, peer_row, heard_row, is_later, session_of_peer}
use Rattle.session_table.proofs.RowLemmas.{has}
use Rattle.session_table.proofs.PeerLemmas.{hears, unheard, unknown, all_heard_later}
use Rattle.session_table.proofs.peers.Peers.hear.Goals as goal

pub returns-in_err-i-clause-found : goal.returns-in_err-i-clause-found
returns-in_err-i-clause-found c = has session_of_peer c.from_residual.result (find (peer_is c.args.key) c.args.self.now) (c.from_residual.ensures
    ∙ (sym (unknown c.args.key (map peer_row c.self.inside.heard.entries) (sym c.place_of.ensures.is ∙ c.in_err-i.was)) ∙ ap (λ rows. option_map session_of_peer (find (peer_is c.args.key) rows)) c.self.view_is))

pub returns-in_err-i-clause-heard : goal.returns-in_err-i-clause-heard
returns-in_err-i-clause-heard c =
    sym (ap (map (heard_row c.args.key c.args.now)) (sym c.self.view_is) ∙ (unheard c.args.key c.args.now (map peer_row c.self.inside.heard.entries) (sym c.place_of.ensures.is ∙ c.in_err-i.was) ∙ c.self.view_is))

pub invariant_of-self : goal.invariant_of-self
invariant_of-self c =
    let h = hears c.args.key c.args.now c.session_at-session.result c.self.inside.heard.entries c.in_ok-i.i c.place_of.ensures.apart (sym c.place_of.ensures.is ∙ c.in_ok-i.was) c.session_at-session.ensures in
    (λ j. list_all (is_later (c.min-self-inside.ensures j)) (h.heard j))
    ∙ all_heard_later c.args.key c.self.inside.oldest c.args.now (map peer_row c.self.inside.heard.entries) c.self.invariant

pub returns-clause-found : goal.returns-clause-found
returns-clause-found c =
    let h = hears c.args.key c.args.now c.session_at-session.result c.self.inside.heard.entries c.in_ok-i.i c.place_of.ensures.apart (sym c.place_of.ensures.is ∙ c.in_ok-i.was) c.session_at-session.ensures in
    has session_of_peer (Some c.session_at-session.result) (find (peer_is c.args.key) c.args.self.now) (h.found ∙ ap (λ rows. option_map session_of_peer (find (peer_is c.args.key) rows)) c.self.view_is)

pub returns-clause-heard : goal.returns-clause-heard
returns-clause-heard c =
    let h = hears c.args.key c.args.now c.session_at-session.result c.self.inside.heard.entries c.in_ok-i.i c.place_of.ensures.apart (sym c.place_of.ensures.is ∙ c.in_ok-i.was) c.session_at-session.ensures in
    h.heard ∙ ap (map (heard_row c.args.key c.args.now)) c.self.view_is
