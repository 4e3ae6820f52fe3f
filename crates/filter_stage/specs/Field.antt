-- Whether one field decides that a rule matches.
use Rattle.std.specs.Prelude.{ℕ, ◌==◌, ◌&&◌, Bool, List}
use Rattle.wire_spec.specs.declared.field.FieldSpec.{FieldSpec}
use Rattle.config_spec.specs.declared.tables.Rule.{Rule}
use Rattle.act_spec.specs.Filter.{passes}

-- a field has the rule's element, and its value passes the rule's test
abbrev pub field_passes : Rule → FieldSpec → List ℕ → Bool
field_passes rule f value = f.pen == rule.pen && (f.id == rule.id && passes rule.test value)
