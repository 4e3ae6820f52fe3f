use Rattle.std.proofs.Common.{take}
use Rattle.std.specs.Prelude.{zip}
use Rattle.std.specs.List.{join_by}
use Rattle.text_spec.specs.Marks.{space}
use Rattle.text_spec.specs.View.{field_text}
use Rattle.prepared_lines.specs.Grows.{GrowsBy}
use Rattle.viewer_output.proofs.record.put_fields.Given as goal

abbrev pub invariant-loop-number : goal.invariant-loop-number
invariant-loop-number l = GrowsBy l.fn.draft l.draft (λ values. join_by (field_text l.fn.elements) space (take l.number (zip l.fn.fields values)))
