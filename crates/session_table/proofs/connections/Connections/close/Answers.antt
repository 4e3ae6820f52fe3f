use Rattle.std.proofs.Common.{◌∙◌, ap, map, not, filter, option_map}
use Rattle.std.specs.Prelude.{find}
use Rattle.session_table.specs.Rows.{conn_row, conn_is, session_of_conn}
use Rattle.session_table.proofs.RowLemmas.{has}
use Rattle.session_table.proofs.ConnLemmas.{session_found, session_goes}
use Rattle.session_table.proofs.connections.Connections.close.Goals as goal

-- src/connections.rt:59:5
pub returns-clause-found : goal.returns-clause-found
returns-clause-found c = has session_of_conn c.shift_remove.result (find (conn_is c.args.conn) c.args.self.now)
    (c.shift_remove.ensures.value ∙ (session_found c.args.conn c.self.inside.sessions.entries ∙ ap (λ rows. option_map session_of_conn (find (conn_is c.args.conn) rows)) c.self.view_is))

-- src/connections.rt:59:5
pub returns-clause-others : goal.returns-clause-others
returns-clause-others c = ap (map conn_row) c.shift_remove.ensures.entries
    ∙ (session_goes c.args.conn c.self.inside.sessions.entries c.self.invariant ∙ ap (filter (λ x. not (conn_is c.args.conn x))) c.self.view_is)
