use Rattle.std.proofs.Common.{◌≡◌, ◌++◌, List, ℕ, [], ◌∷◌, ap, sym, subst, ◌∙◌, append_assoc}
use Rattle.std.specs.Prelude.{flat_map}
use Rattle.std.proofs.lemmas.List.{append-nil, map-append}
use Rattle.std.proofs.lemmas.List.Concat.{flat_map-append}
use Rattle.record_iter.specs.Left.{fields_left, octets_left, place_of}
use Rattle.record_iter.specs.Walk.{HaveValues}
use Rattle.decoding_tests.specs.Shown.{Placed, row_of}
use Rattle.record_iter.proofs.WalkLemmas.{values_more}
use Rattle.decoding_tests.proofs.records.push_fields.Goals as goal

-- one row more
rows_more : (before rows new : List ℕ) (placed : List Placed) (p : Placed) → rows ≡ before ++ flat_map row_of placed → new ≡ rows ++ row_of p → new ≡ before ++ flat_map row_of (placed ++ p ∷ [])
rows_more before rows new placed p e f =
    f
    ∙ (ap (λ x. x ++ row_of p) e
    ∙ (append_assoc before (flat_map row_of placed) (row_of p)
    ∙ ap (λ x. before ++ x) (ap (λ x. flat_map row_of placed ++ x) (sym (append-nil (row_of p))) ∙ sym (flat_map-append row_of placed (p ∷ [])))))

pub loop-field-preserved : goal.loop-field-preserved
loop-field-preserved c =
    let i = c.loop-field.invariant in
    let f = c.in-Some.field in
    let it = c.next.new.self in
    let p : Placed = (f.at, f.value.now) in
    let h = values_more (fields_left it) (place_of it) (octets_left it) f i.1 c.in-Some.ensures.steps in (
      i.0 ++ p ∷ [],
      subst (λ (v : List (List ℕ)). HaveValues c.args.def.now.fields c.args.rec.now (fields_left it) (place_of it) (octets_left it) v) (sym (map-append (λ (q : Placed). q.1) i.0 (p ∷ []))) h,
      rows_more c.args.rows.now.items c.loop-field.rows.items c.push_value.new.rows.items i.0 p i.2 c.in_ok-push_value.ensures,
    )
