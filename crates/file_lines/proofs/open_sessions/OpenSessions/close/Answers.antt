use Rattle.file_lines.proofs.OpenLemmas.{close_works}
use Rattle.file_lines.proofs.open_sessions.OpenSessions.close.Goals as goal

pub returns : goal.returns
returns c = λ texts. close_works c.args.key c.args.self.now (record c.args.self.now { rows = c.swap_remove-session.new.self }) texts (λ k. c.swap_remove-session.ensures.updates.0 k)
