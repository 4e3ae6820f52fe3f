use Rattle.std.proofs.Common.{List, length, ap, ◌∙◌}
use Rattle.wire_spec.specs.declared.field.FieldSpec.{FieldSpec}
use Rattle.wire_spec.specs.Record.{shortest}
use Rattle.wire_spec.specs.Size.{are_fixed}
use Rattle.wire_spec.specs.Specifiers.{specifiers}
use Rattle.template_def.proofs.ReadLemmas.{few_fields, definition_kept}
use Rattle.template_def.proofs.definition.Definition.read.Goals as goal

pub shortest-min_len-requires : goal.shortest-min_len-requires
shortest-min_len-requires c =
    let w = c.requires.well_formed in
    rw c.deref.ensures.value (few_fields w.0 c.args.specs.now c.in_ok-fields.fields.items c.args.kind w.1.whole c.requires.short (c.in_ok-fields.ensures.are w.0 w.1.whole))

pub written_len-specs_len-requires : goal.written_len-specs_len-requires
written_len-specs_len-requires c =
    let w = c.requires.well_formed in
    rw c.deref-2.ensures.value (few_fields w.0 c.args.specs.now c.in_ok-fields.fields.items c.args.kind w.1.whole c.requires.short (c.in_ok-fields.ensures.are w.0 w.1.whole))

pub invariant_of-result : goal.invariant_of-result
invariant_of-result c =
    let w = c.requires.well_formed in
    let k = definition_kept c.args.kind c.args.scope w.0 c.args.specs.now c.in_ok-fields.fields.items w.1 c.requires.short (c.in_ok-fields.ensures.are w.0 w.1.whole) c.in_ok-fields.ensures.kept in
    record {
      kept = k;
      least = c.shortest-min_len.ensures ∙ ap shortest c.deref.ensures.value;
      written = c.written_len-specs_len.ensures ∙ ap (λ (l : List FieldSpec). length (specifiers l)) c.deref-2.ensures.value;
      fixed = c.are_fixed-is_fixed.ensures ∙ ap are_fixed c.deref-3.ensures.value;
    }
