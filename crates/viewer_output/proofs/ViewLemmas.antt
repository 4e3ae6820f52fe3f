-- The line of a record, prepared and put.
use Rattle.std.proofs.Common.{◌≡◌, ℕ, List, [], ◌++◌, length, ap, sym, subst, ◌∙◌}
use Rattle.std.specs.Prelude.{zip}
use Rattle.std.specs.List.{join_by}
use Rattle.wire_spec.specs.declared.field.FieldSpec.{FieldSpec}
use Rattle.wire_spec.specs.Record.{IsRecord}
use Rattle.text_spec.specs.declared.element.Element.{Element}
use Rattle.text_spec.specs.Marks.{four_spaces, line_feed, space}
use Rattle.text_spec.specs.View.{field_text, view_line}
use Rattle.prepared_lines.specs.Line.{Line, line_text, PutsLine}
use Rattle.prepared_lines.specs.Grows.{GrowsBy}
use Rattle.prepared_lines.proofs.GrowLemmas.{grows_then}
use Rattle.prepared_lines.proofs.LineLemmas.{values_many}
use Rattle.viewer_output.specs.View.{Shows, PutsView}

-- what was put behind nothing is the line of each record
pub view_shown : (table : List Element) (fields f g : List FieldSpec) (empty started whole ended line : Line) → f ≡ fields → g ≡ fields → empty ≡ record { fields = f; members = []; end = [] }
    → GrowsBy empty started (λ _. four_spaces) → GrowsBy started whole (λ values. join_by (field_text table) space (zip g values)) → GrowsBy whole ended (λ _. line_feed) → line ≡ ended
    → Shows table fields line
unfolding view_line
view_shown table fields f g empty started whole ended line are too none a b c same =
    let grows = grows_then empty whole ended _ _ (grows_then empty started whole _ _ a b) c in
    let kept : empty.fields ≡ fields = ap (λ (l : Line). l.fields) none ∙ are in
    let text : (values : List (List ℕ)) → length values ≡ length fields → line_text ended values ≡ view_line table fields values =
    λ values many.
    grows.grown values (many ∙ ap length (sym kept))
    ∙ ap (λ (l : Line). line_text l values ++ (four_spaces ++ join_by (field_text table) space (zip g values) ++ line_feed)) none
    ∙ ap (λ (l : List FieldSpec). four_spaces ++ join_by (field_text table) space (zip l values) ++ line_feed) too in
    record {
      fields_are = ap (λ (l : Line). l.fields) same ∙ (grows.fields ∙ kept);
      text = λ values many. ap (λ (l : Line). line_text l values) same ∙ text values many;
    }

-- and it is put behind what was there
pub view_put : (table : List Element) (fields : List FieldSpec) (line : Line) (rec none lines slice before now : List ℕ) → Shows table fields line → none ≡ [] → PutsLine line rec none lines → slice ≡ lines → now ≡ before ++ slice
    → PutsView table fields rec before now
view_put table fields line rec none lines slice before now shows empty put same e =
    let is : IsRecord fields rec put.0 = subst (λ (l : List FieldSpec). IsRecord l rec put.0) shows.fields_are put.1 in
    (put.0, is, e ∙ ap (λ l. before ++ l) (same ∙ (put.2 ∙ (ap (λ l. l ++ line_text line put.0) empty ∙ shows.text put.0 (values_many fields rec put.0 is)))))
