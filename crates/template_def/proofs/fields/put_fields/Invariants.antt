use Rattle.std.proofs.Common.{◌≡◌, ◌++◌, take}
use Rattle.wire_spec.specs.Specifiers.{specifiers}
use Rattle.template_def.proofs.fields.put_fields.Given as goal

abbrev pub invariant-loop-field : goal.invariant-loop-field
invariant-loop-field l = l.out ≡ l.initial.out ++ specifiers (take l.field-index l.fields)
