use Rattle.std.proofs.Common.{◌≡◌, ◌++◌, List, map, take, drop}
use Rattle.std.specs.List.{AllByRecursion, flat_map}
use Rattle.wire_spec.specs.declared.field.FieldSpec.{FieldSpec}
use Rattle.text_spec.specs.declared.element.Element.{Element}
use Rattle.text_spec.specs.View.{view_line}
use Rattle.pipeline_message.specs.Items.{IsRecordAt, record_at}
use Rattle.viewer_output.specs.View.{Shows}
use Rattle.text_forms.proofs.line.put_view.Given as goal

-- the lines so far, and the places that are left
abbrev pub invariant-loop-place : goal.invariant-loop-place
invariant-loop-place l = record {
  text : (table : List Element) (fields : List FieldSpec) → Shows table fields l.line
      → l.lines ≡ l.fn.lines ++ flat_map (λ r. view_line table fields r.values) (map (record_at fields l.octets) (take l.place-index l.places));
  sound : AllByRecursion (IsRecordAt l.line.fields l.octets) (drop l.place-index l.places);
}
