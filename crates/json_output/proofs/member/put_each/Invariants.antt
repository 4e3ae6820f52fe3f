use Rattle.std.proofs.Common.{take}
use Rattle.std.specs.Prelude.{zip}
use Rattle.std.specs.List.{flat_map}
use Rattle.text_spec.specs.Fields.{printed_pairs}
use Rattle.text_spec.specs.Json.{member_by, text_at}
use Rattle.prepared_lines.specs.Grows.{GrowsBy}
use Rattle.json_output.proofs.member.put_each.Given as goal

abbrev pub invariant-loop-at : goal.invariant-loop-at
invariant-loop-at l = GrowsBy l.fn.draft l.draft (λ values. flat_map (member_by (text_at l.elements) l.elements (zip l.fields values)) (printed_pairs (take l.at l.fields)))
