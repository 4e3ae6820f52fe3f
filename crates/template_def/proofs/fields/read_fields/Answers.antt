use Rattle.template_def.proofs.ReadLemmas.{left_more, left_none}
use Rattle.wire_spec.specs.Content.{fields_of}
use Rattle.wire_spec.specs.Specifiers.{IsField}
use Rattle.wire_spec.proofs.RowLemmas.{items_more}
use Rattle.template_def.proofs.fields.read_fields.Goals as goal

pub loop-field-preserved : goal.loop-field-preserved
loop-field-preserved c =
    let i = c.loop-field.invariant in
    let b = c.in-Some.ensures in
    rw c.in_ok-push.ensures.items (record {
      left = λ count e. left_more (fields_of count c.args.specs.now) c.loop-field.fields.items c.loop-field.rest.now c.in-Some.after.now c.in-Some.field (i.left count e) b;
      kept = items_more IsField c.loop-field.fields.items c.in-Some.field i.kept b.kept;
    })

pub returns-clause-are : goal.returns-clause-are
returns-clause-are c = λ count e. left_none (fields_of count c.args.specs.now) c.loop-field.fields.items c.loop-field.rest.now c.in_default.ensures (c.loop-field.invariant.left count e)
