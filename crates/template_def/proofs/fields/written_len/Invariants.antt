use Rattle.std.proofs.Common.{◌≡◌, ◌≤◌, ◌*◌, take, length}
use Rattle.wire_spec.specs.Specifiers.{specifiers}
use Rattle.template_def.proofs.fields.written_len.Given as goal

abbrev pub invariant-loop-field : goal.invariant-loop-field
invariant-loop-field l = record { so_far : l.size ≡ length (specifiers (take l.field-index l.fields)); bound : l.size ≤ 8 * l.field-index }
