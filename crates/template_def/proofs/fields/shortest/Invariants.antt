use Rattle.std.proofs.Common.{◌≡◌, ◌≤◌, ◌*◌, take}
use Rattle.wire_spec.specs.Record.{shortest}
use Rattle.template_def.proofs.fields.shortest.Given as goal

abbrev pub invariant-loop-field : goal.invariant-loop-field
invariant-loop-field l = record { so_far : l.least ≡ shortest (take l.field-index l.fields); bound : l.least ≤ 65535 * l.field-index }
