use Rattle.std.proofs.Common.{◌<◌, length, ap, sym, subst, ◌∙◌}
use Rattle.std.specs.Prelude.{◌&&◌, IfSome, Option, ℕ}
use Rattle.anonymise_stage.specs.declared.prepared_row.PreparedRow.{PreparedRow}
use Rattle.anonymise_stage.specs.Segments.{row_at, covers_at, has_more}
use Rattle.anonymise_stage.proofs.SegmentLemmas.{better_found, no_better}
use Rattle.anonymise_stage.proofs.segment.best_place.Goals.{then-is_better, else-is_better}
use Rattle.anonymise_stage.proofs.segment.best_place.Goals as goal

pub loop-place-preserved : goal.loop-place-preserved
loop-place-preserved c =
    let rows = c.args.rows.now in
    let i = c.loop-place.place in
    let d = c.index-rows-place.result in
    let found = c.loop-place.found in
    let inv = c.loop-place.invariant in
    let same = ap (λ (r : PreparedRow). covers_at c.args.octets c.args.number r && has_more (row_at rows found) r) (sym c.index-rows-place.is) ∙ sym c.is_better.ensures in
    elim c.if-is_better.branch [
      | then-is_better w ↦ record {
        so_far = ap (row_at rows) w.found-is ∙ better_found c.args.octets c.args.number rows i d found c.loop-place-test.true inv.so_far (same ∙ w.if-is_better.true);
        inside = subst (λ (f : Option ℕ). IfSome f (λ place. place < length rows)) (sym w.found-is) c.loop-place-test.true;
      }
      | else-is_better w ↦ record {
        so_far = ap (row_at rows) w.found-is ∙ no_better c.args.octets c.args.number rows i d found c.loop-place-test.true inv.so_far (same ∙ w.if-is_better.false);
        inside = subst (λ (f : Option ℕ). IfSome f (λ place. place < length rows)) (sym w.found-is) inv.inside;
      }
    ]
