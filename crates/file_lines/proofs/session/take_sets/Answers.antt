use Rattle.std.proofs.Common.{ap, subst, ◌∙◌, Option}
use Rattle.ipfix_reader.specs.Left.{sets_left}
use Rattle.file_lines.proofs.SessionLemmas.{taken_none, taken_more, taken_all}
use Rattle.file_lines.proofs.session.take_sets.Goals as goal

pub loop-set-init : goal.loop-set-init
loop-set-init c =
    let e = c.into_iter-set-iterator.ensures.into_iter_gives in
    let f = c.sets-set-items.ensures.rest in
    let same = ap sets_left e ∙ f in
    taken_none _ _ _ _ _ same c.requires

pub loop-set-preserved : goal.loop-set-preserved
loop-set-preserved c =
    taken_more c.args.message.octets.now (sets_left c.loop-set.set-iterator) (sets_left c.next.new.self) c.loop-set.set-iterator.at c.next.new.self.at c.args.header.domain c.in-Some.set c.args.domains.now c.loop-set.domains c.take_set.new.domains
    c.args.texts.now c.loop-set.texts c.take_set.new.texts c.loop-set.invariant c.in-Some.ensures.steps.0.0 c.in-Ok.ensures.ok

pub returns-clause-ok : goal.returns-clause-ok
returns-clause-ok c =
    taken_all c.args.message.octets.now (sets_left c.loop-set.set-iterator) (sets_left c.next.new.self) c.loop-set.set-iterator.at c.next.new.self.at c.args.header.domain c.args.domains.now c.loop-set.domains c.args.texts.now c.loop-set.texts
    c.args.message.whole c.loop-set.invariant c.in-None.ensures.steps.0.0
