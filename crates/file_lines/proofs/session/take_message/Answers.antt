use Rattle.std.proofs.Common.{sym, ◌∙◌}
use Rattle.wire_spec.proofs.ContentLemmas.{some_says}
use Rattle.file_lines.proofs.SessionLemmas.{next_by, next_crowded}
use Rattle.file_lines.proofs.session.take_message.Goals as goal

pub returns-in-Ok-true-clause-ok : goal.returns-in-Ok-true-clause-ok
returns-in-Ok-true-clause-ok c =
    let a = rw c.in-Ok-true.field-0-test at c.in-Ok-true.ensures.ok in
    next_by c.take_sets.result c.args.message.octets.now c.header-header.result.domain c.args.domains.now c.admit.new.self c.take_sets.new.domains c.args.texts.now c.take_sets.new.texts c.header-header.ensures.domain a c.take_sets.ensures.ok

pub returns-in-Ok-false-clause-ok : goal.returns-in-Ok-false-clause-ok
returns-in-Ok-false-clause-ok c =
    let said = some_says c.args.message.octets.now c.requires.0 c.requires.1 in
    let a = rw c.in-Ok-false.field-0-test at c.in-Ok-false.ensures.ok in
    λ key. next_crowded key c.args.message.octets.now c.header-header.result.domain c.args.domains.now c.admit.new.self said.0 c.args.texts.now said.1 (c.header-header.ensures.domain ∙ sym said.1.domain) a
