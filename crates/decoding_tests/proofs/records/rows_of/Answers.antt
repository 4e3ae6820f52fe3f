use Rattle.std.proofs.Common.{◌≡◌, ◌++◌, List, ℕ, [], ◌∷◌, ap, sym, ◌∙◌}
use Rattle.std.specs.Prelude.{flat_map}
use Rattle.std.proofs.lemmas.List.{append-nil}
use Rattle.std.proofs.lemmas.List.Concat.{flat_map-append}
use Rattle.wire_spec.specs.declared.field.FieldSpec.{FieldSpec}
use Rattle.wire_spec.specs.Record.{IsRecord}
use Rattle.record_iter.specs.Left.{records_left, fields_of_each}
use Rattle.decoding_tests.specs.Shown.{Placed, row_of, values_of, HaveAllValues}
use Rattle.record_iter.proofs.WalkLemmas.{records_none, records_more}
use Rattle.decoding_tests.proofs.records.rows_of.Goals as goal

-- one more record with its values
all_more : (fields : List FieldSpec) (list : List (List ℕ)) (placed : List (List Placed)) (rec : List ℕ) (p : List Placed) → HaveAllValues fields list placed → IsRecord fields rec (values_of p) → HaveAllValues fields (list ++ rec ∷ []) (placed ++ p ∷ [])
all_more fields [] [] rec p h r = (r, tt)
all_more fields [] (q ∷ placed) rec p h r = absurd h
all_more fields (x ∷ list) [] rec p h r = absurd h
all_more fields (x ∷ list) (q ∷ placed) rec p h r = (h.0, all_more fields list placed rec p h.1 r)

rows_more : (rows new : List ℕ) (placed : List (List Placed)) (p : List Placed) → rows ≡ flat_map (flat_map row_of) placed → new ≡ rows ++ flat_map row_of p → new ≡ flat_map (flat_map row_of) (placed ++ p ∷ [])
rows_more rows new placed p e f =
    f
    ∙ (ap (λ x. x ++ flat_map row_of p) e
    ∙ (ap (λ x. flat_map (flat_map row_of) placed ++ x) (sym (append-nil (flat_map row_of p))) ∙ sym (flat_map-append (flat_map row_of) placed (p ∷ []))))

pub loop-rec-init : goal.loop-rec-init
loop-rec-init c =
    let e = c.into_iter-rec-iterator.ensures.into_iter_gives in
    let l = c.in-Ok.ensures.left in
    let walk = c.into_iter-rec-iterator.result in
    ([], [], records_none c.args.def.now.fields (fields_of_each walk) c.args.body.now (records_left walk) (ap fields_of_each e ∙ l.0) (ap records_left e ∙ l.1), tt, c.new-rows.ensures.items)

pub loop-rec-preserved : goal.loop-rec-preserved
loop-rec-preserved c =
    let i = c.loop-rec.invariant in
    let it = c.next.new.self in
    let rec = c.in-Some.rec.now in
    let p = c.in_ok-push_fields.ensures in (
      i.0 ++ rec ∷ [],
      i.1 ++ p.0 ∷ [],
      records_more (fields_of_each it) rec (records_left it) i.2 c.in-Some.ensures.steps,
      all_more c.args.def.now.fields i.0 i.1 rec p.0 i.3 p.1,
      rows_more c.loop-rec.rows.items c.push_fields.new.rows.items i.1 p.0 i.4 p.2,
    )
