use Rattle.std.proofs.Common.{◌≡◌, ◌+◌, ◌-◌, ◌<◌, ◌∙◌, length, arith, length-set}
use Rattle.wire_spec.specs.declared.field.FieldSpec.{FieldSpec}
use Rattle.json_output.proofs.ChainLemmas.{first_step, next_step}
use Rattle.json_output.proofs.chains.Chains.new.Goals as goal

pub loop-at-preserved : goal.loop-at-preserved
loop-at-preserved c =
    let fields = c.args.fields.now in
    let at = c.loop-at.at in
    let d : FieldSpec = record { pen = 0; id = 0; len = 0 } in
    let next : at - 1 + 1 ≡ at = omega arith in
    let inside : at - 1 < length fields = omega arith in
    record {
      long = length-set c.loop-at.next.items (at - 1) c.in-Ok.later ∙ c.loop-at.invariant.long;
      first = first_step fields at (at - 1) d c.loop-at.first.entries c.insert.new.self.entries next inside c.loop-at.invariant.first (λ pair. c.in-Ok.ensures.updates.0 (pair.pen, pair.id));
      next = next_step fields at (at - 1) d c.loop-at.next.items c.in-Ok.later next inside c.loop-at.invariant.long (c.in-Ok.ensures.old ∙ c.loop-at.invariant.first _) c.loop-at.invariant.next;
    }
