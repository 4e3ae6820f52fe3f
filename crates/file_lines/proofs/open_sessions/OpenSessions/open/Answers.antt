use Rattle.file_lines.proofs.OpenLemmas.{open_works}
use Rattle.file_lines.proofs.open_sessions.OpenSessions.open.Goals as goal

pub returns : goal.returns
returns c = λ transport texts.
    open_works c.args.key transport c.args.self.now (record c.args.self.now { rows = c.insert.new.self }) (record { domains = c.new.result; forms = c.new-2.result }) texts (λ k. c.in_ok-insert.ensures.updates.0 k) c.new.ensures
