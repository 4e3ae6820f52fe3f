use Rattle.std.proofs.Common.{◌∙◌}
use Rattle.session_table.proofs.PeerLemmas.{place_seen, rows_apart}
use Rattle.session_table.proofs.peers.place_of.Goals as goal

pub returns-clause-is : goal.returns-clause-is
returns-clause-is c = c.get_index_of.ensures.index ∙ place_seen c.args.key c.args.heard.now.entries

pub returns-clause-apart : goal.returns-clause-apart
returns-clause-apart c = rows_apart c.args.heard.now.entries c.get_index_of.ensures.unique
