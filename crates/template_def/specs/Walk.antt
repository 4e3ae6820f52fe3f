-- What a step over field specifiers gives (RFC 7011, section 3.2).
use Rattle.std.specs.Prelude.{ℕ, ◌≡◌, ◌≤◌, List, length, drop}
use Rattle.wire_spec.specs.declared.field.FieldSpec.{FieldSpec}
use Rattle.wire_spec.specs.Message.{specifier_size}
use Rattle.wire_spec.specs.Content.{field_of}
use Rattle.wire_spec.specs.Specifiers.{IsField}

-- the octets begin with a specifier of this field, and then come these
pub record BeginsField (octets : List ℕ) (field : FieldSpec) (after : List ℕ) : Type 0 where
  pub inside : specifier_size octets ≤ length octets
  pub is : field ≡ field_of octets
  pub kept : IsField field
  pub rest : after ≡ drop (specifier_size octets) octets
