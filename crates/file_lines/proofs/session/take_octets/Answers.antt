use Rattle.file_lines.proofs.SessionLemmas.{next_malformed}
use Rattle.file_lines.proofs.session.take_octets.Goals as goal

pub returns-in-Err-clause-ok : goal.returns-in-Err-clause-ok
returns-in-Err-clause-ok c = λ key. next_malformed key c.args.octets.now c.args.domains.now c.in-Err.field-0 c.args.texts.now c.in-Err.ensures
