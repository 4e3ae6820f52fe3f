use Rattle.std.proofs.Common.{◌≡◌, ◌+◌, ◌++◌, ◌∙◌, sym, subst, ap, List, Bool, false, drop, take, get_or}
use Rattle.std.specs.Prelude.{map}
use Rattle.std.proofs.lemmas.List.{drop_more, get_or-map}
use Rattle.wire_spec.specs.declared.field.FieldSpec.{FieldSpec}
use Rattle.wire_spec.specs.Record.{IsSomeRecord}
use Rattle.config_spec.specs.declared.tables.AnonTable.{AnonTable}
use Rattle.act_spec.specs.Anonymise.{hidden_octets, is_listed}
use Rattle.anonymise_stage.specs.Step.{IsFieldHidden}
use Rattle.anonymise_stage.specs.Table.{Holds}
use Rattle.anonymise_stage.proofs.StepLemmas.{one_field, record_left, inside_left, field_there}
use Rattle.anonymise_stage.proofs.prepared.hide_listed.Goals as goal

pub hide_field-at-requires-clause-whole : goal.hide_field-at-requires-clause-whole
hide_field-at-requires-clause-whole c =
    let all = c.args.fields.now in
    let i = c.loop-index.index in
    let d : FieldSpec = record { pen = 0; id = 0; len = 0 } in
    let split = drop_more all i d c.loop-index-test.true in
    field_there (get_or all i d) (drop (i + 1) all) (drop c.loop-index.at c.loop-index.rec)
    (subst (λ (fs : List FieldSpec). IsSomeRecord fs (drop c.loop-index.at c.loop-index.rec)) split c.loop-index.invariant.rest)

pub loop-index-preserved : goal.loop-index-preserved
loop-index-preserved c =
    let all = c.args.fields.now in
    let i = c.loop-index.index in
    let d : FieldSpec = record { pen = 0; id = 0; len = 0 } in
    let f = get_or all i d in
    let old = c.loop-index.rec in
    let at = c.loop-index.at in
    let new = c.hide_field-at.new.rec in
    let to = c.hide_field-at.result in
    let split = drop_more all i d c.loop-index-test.true in
    let step : (table : AnonTable) → Holds table c.args.rows.now → c.args.listed.now ≡ map (is_listed table) all → IsFieldHidden table f at old new to = λ table h l. c.hide_field-at.ensures table h (ap (λ (bs : List Bool). get_or bs i false) l ∙ get_or-map (is_listed table) all i d false c.loop-index-test.true) in
    let some = c.requires.holds in
    let inside = c.loop-index.invariant.inside in
    record {
      left = λ table h l. one_field table f (drop (i + 1) all) at old new to inside (step table h l)
          ∙ (ap (λ (fs : List FieldSpec). take at old ++ hidden_octets table fs (drop at old)) (sym split) ∙ c.loop-index.invariant.left table h l);
      inside = inside_left some.0 f at old new to inside (step some.0 some.1 some.2);
      rest = record_left some.0 f (drop (i + 1) all) at old new to inside (step some.0 some.1 some.2) (subst (λ (fs : List FieldSpec). IsSomeRecord fs (drop at old)) split c.loop-index.invariant.rest);
    }
