use Rattle.std.proofs.Common.{List, ℕ, drop, length, refl, ap, subst, ◌∙◌, arith, length-drop, drop-drop}
use Rattle.ipfix_reader.specs.Walk.{AreSomeSets}
use Rattle.ipfix_reader.proofs.LeftLemmas.{set_given}
use Rattle.ipfix_reader.proofs.set_walk.SetsIterator.next.Goals as goal

pub first_set-set-requires-clause-whole : goal.first_set-set-requires-clause-whole
first_set-set-requires-clause-whole c = rw c.behind-rest.ensures c.args.self.now.whole

pub invariant_of-self-clause-inside : goal.invariant_of-self-clause-inside
invariant_of-self-clause-inside c =
    let l = ap length c.behind-rest.ensures ∙ length-drop c.args.self.now.at c.args.self.now.message.now in
    let inside = c.first_set-set.ensures.inside in
    let least = c.first_set-set.ensures.least in
    let before = c.args.self.now.inside in
    (omega arith, omega arith, omega arith)

pub invariant_of-self-clause-whole : goal.invariant_of-self-clause-whole
invariant_of-self-clause-whole c =
    let n = length c.first_set-set.result.now in
    let m = c.args.self.now.message.now in
    subst (λ (o : List ℕ). ∥ AreSomeSets o ∥₁) (ap (drop n) c.behind-rest.ensures ∙ drop-drop n c.args.self.now.at m) c.first_set-set.ensures.rest

pub returns-clause-steps : goal.returns-clause-steps
returns-clause-steps c = (
  set_given c.args.self.now.message.now c.args.self.now.at c.behind-rest.result.now c.first_set-set.result.now _ c.behind-rest.ensures c.first_set-set.ensures.is
      (record { sized = c.first_set-set.ensures.sized; id = c.be16.ensures; at = refl; body = c.body_of.ensures }),
  refl,
)
