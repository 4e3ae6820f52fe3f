use Rattle.std.proofs.Common.{◌+◌, ap, sym, ◌∙◌, subst, drop, get_or, take, ◌++◌, List}
use Rattle.std.proofs.lemmas.List.{drop_more}
use Rattle.wire_spec.specs.declared.field.FieldSpec.{FieldSpec}
use Rattle.wire_spec.specs.Record.{IsSomeRecord}
use Rattle.act_spec.specs.Anonymise.{hidden_octets}
use Rattle.anonymise_stage.proofs.StepLemmas.{one_field, record_left, inside_left, field_there}
use Rattle.anonymise_stage.proofs.walk.hide.Goals as goal

pub hide_field-at-requires-clause-whole : goal.hide_field-at-requires-clause-whole
hide_field-at-requires-clause-whole c =
    let all = c.fields-field-items.result.now in
    let i = c.loop-field.field-index in
    let d : FieldSpec = record { pen = 0; id = 0; len = 0 } in
    let split = drop_more all i d c.loop-field-test.true in
    field_there (get_or all i d) (drop (i + 1) all) (drop c.loop-field.at c.loop-field.rec) (subst (λ (fs : List FieldSpec). IsSomeRecord fs (drop c.loop-field.at c.loop-field.rec)) split c.loop-field.invariant.rest)

pub loop-field-preserved : goal.loop-field-preserved
loop-field-preserved c =
    let all = c.fields-field-items.result.now in
    let i = c.loop-field.field-index in
    let d : FieldSpec = record { pen = 0; id = 0; len = 0 } in
    let f = get_or all i d in
    let old = c.loop-field.rec in
    let at = c.loop-field.at in
    let new = c.hide_field-at.new.rec in
    let to = c.hide_field-at.result in
    let t = c.args.table.now in
    let split = drop_more all i d c.loop-field-test.true in
    let step = c.hide_field-at.ensures in
    let inside = c.loop-field.invariant.inside in
    record {
      left = one_field t f (drop (i + 1) all) at old new to inside step
          ∙ (ap (λ (fs : List FieldSpec). take at old ++ hidden_octets t fs (drop at old)) (sym split) ∙ c.loop-field.invariant.left);
      inside = inside_left t f at old new to inside step;
      rest = record_left t f (drop (i + 1) all) at old new to inside step (subst (λ (fs : List FieldSpec). IsSomeRecord fs (drop at old)) split c.loop-field.invariant.rest);
    }
