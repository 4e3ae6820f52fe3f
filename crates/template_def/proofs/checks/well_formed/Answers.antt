use Rattle.std.proofs.lemmas.Bool.{both_ways}
use Rattle.template_def.proofs.ReadLemmas.{formed, not_formed}
use Rattle.template_def.proofs.checks.well_formed.Goals as goal

pub returns-then-some : goal.returns-then-some
returns-then-some c =
    let e = c.in-Some.ensures in
    formed c.args.scope c.in-Some.count c.args.specs.now e.whole (e.some.0 c.if-some.true)

pub returns-else-some : goal.returns-else-some
returns-else-some c =
    let e = c.in-Some.ensures in
    (λ t. absurd (both_ways c.in-Some.some c.if-some.false t), not_formed c.args.scope c.in-Some.count c.args.specs.now c.in-Some.some e.whole e.some.1)
