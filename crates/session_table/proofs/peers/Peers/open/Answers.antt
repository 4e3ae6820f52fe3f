use Rattle.std.proofs.Common.{◌≡◌, ◌∙◌, ap, map, ◌++◌, ◌∷◌, [], refl}
use Rattle.std.specs.Prelude.{find}
use Rattle.std.specs.List.{list_all}
use Rattle.arrival_spec.specs.Sessions.{same_peer}
use Rattle.indexmap.proofs.CallerLemmas.{insert_entry-new}
use Rattle.session_table.specs.Rows.{peer_is, peer_row, is_later}
use Rattle.session_table.proofs.PeerLemmas.{no_entry, peer_joins, one_more_later}
use Rattle.session_table.proofs.peers.Peers.open.Goals as goal

joined : (c : goal.After-self-1) → map peer_row c.insert.new.self.entries ≡ map peer_row c.self.inside.heard.entries ++ record { key = c.args.key; session = c.args.session; last = c.args.now } ∷ []
joined c = ap (map peer_row) (c.in_ok-insert.ensures.entries
    ∙ insert_entry-new same_peer c.self.inside.heard c.args.key (record { session = c.args.session; last = c.args.now })
    (no_entry c.args.key c.self.inside.heard.entries (ap (find (peer_is c.args.key)) c.self.view_is ∙ c.requires)))
    ∙ peer_joins c.self.inside.heard.entries c.args.key c.args.session c.args.now

pub invariant_of-self-2 : goal.invariant_of-self-2
invariant_of-self-2 c = (λ j. list_all (is_later (c.min-self-inside.ensures j)) (joined c j))
    ∙ one_more_later c.self.inside.oldest c.args.now (record { key = c.args.key; session = c.args.session; last = c.args.now }) refl (map peer_row c.self.inside.heard.entries) c.self.invariant

pub returns-clause-ok : goal.returns-clause-ok
returns-clause-ok c = joined c ∙ ap (λ rows. rows ++ record { key = c.args.key; session = c.args.session; last = c.args.now } ∷ []) c.self.view_is
