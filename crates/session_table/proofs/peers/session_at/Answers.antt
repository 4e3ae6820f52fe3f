use Rattle.session_table.proofs.PeerLemmas.{session_seen}
use Rattle.session_table.proofs.peers.session_at.Goals as goal

pub returns : goal.returns
returns c = session_seen c.args.heard.now.entries c.args.i c.index.result.now c.index.ensures
