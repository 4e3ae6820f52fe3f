use Rattle.std.proofs.Common.{◌∙◌, ap, option_map}
use Rattle.std.specs.Prelude.{find}
use Rattle.session_table.specs.Rows.{conn_is, session_of_conn}
use Rattle.session_table.proofs.RowLemmas.{has}
use Rattle.session_table.proofs.ConnLemmas.{session_found}
use Rattle.session_table.proofs.connections.Connections.session.Goals as goal

-- src/connections.rt:42:5
pub returns : goal.returns
returns c = has session_of_conn c.copied.result (find (conn_is c.args.conn) c.args.self.now) (c.copied.ensures ∙ (c.get.ensures.value ∙ (session_found c.args.conn c.self.inside.sessions.entries ∙ ap (λ rows. option_map session_of_conn (find (conn_is c.args.conn) rows)) c.self.view_is)))
