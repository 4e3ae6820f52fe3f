use Rattle.std.proofs.Common.{◌∙◌, ap, map, ◌++◌, ◌∷◌, [], nat_eq}
use Rattle.std.specs.Prelude.{find}
use Rattle.session_table.specs.Rows.{conn_row, conn_is}
use Rattle.indexmap.proofs.CallerLemmas.{insert_entry-new}
use Rattle.session_table.proofs.ConnLemmas.{no_session, row_joins}
use Rattle.session_table.proofs.connections.Connections.open.Goals as goal

-- src/connections.rt:49:5
pub returns-clause-ok : goal.returns-clause-ok
returns-clause-ok c =
    ap (map conn_row) (c.in_ok-insert.ensures.entries
    ∙ insert_entry-new nat_eq c.self.inside.sessions c.args.conn c.args.session
    (no_session c.args.conn c.self.inside.sessions.entries (ap (find (conn_is c.args.conn)) c.self.view_is ∙ c.requires)))
    ∙ (row_joins c.self.inside.sessions.entries c.args.conn c.args.session ∙ ap (λ rows. rows ++ record { conn = c.args.conn; session = c.args.session } ∷ []) c.self.view_is)
