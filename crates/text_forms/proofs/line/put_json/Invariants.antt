use Rattle.std.proofs.Common.{◌≡◌, ◌++◌, Bool, List, map, take, drop}
use Rattle.std.specs.List.{AllByRecursion}
use Rattle.text_spec.specs.declared.element.Element.{Element}
use Rattle.pipeline_message.specs.Items.{IsRecordAt, record_at}
use Rattle.json_output.specs.Printed.{records_text}
use Rattle.json_output.specs.Suits.{Suits}
use Rattle.text_forms.proofs.line.put_json.Given as goal

-- the lines so far, and the places that are left
abbrev pub invariant-loop-place : goal.invariant-loop-place
invariant-loop-place l = record {
  text : (options : Bool) (table : List Element) → Suits options table l.def l.prepared
      → l.lines ≡ l.fn.lines ++ records_text options table l.def (map (record_at l.def.fields l.octets) (take l.place-index l.places));
  sound : AllByRecursion (IsRecordAt l.def.fields l.octets) (drop l.place-index l.places);
}
