-- What every definition keeps (RFC 7011, sections 3.2, 3.4.1 and 3.4.2), and what a refused writing leaves.
use Rattle.std.specs.Prelude.{ℕ, ◌≡◌, ◌+◌, ◌<◌, ◌≤◌, Bool, List, ◌++◌, length}
use Rattle.std.specs.List.{AllByRecursion}
use Rattle.wire_spec.specs.Message.{front}
use Rattle.wire_spec.specs.Record.{shortest}
use Rattle.wire_spec.specs.Size.{are_fixed}
use Rattle.wire_spec.specs.Content.{Definition}
use Rattle.wire_spec.specs.Specifiers.{IsField, specifiers}

-- a definition has a field, no more scope fields than fields, and records with an octet; its specifiers can be
-- written, and a message of one template record has room for them
pub record IsKept (definition : Definition) : Type 0 where
  pub some : 0 < length definition.fields
  pub within : definition.scope ≤ length definition.fields
  pub shortest : 0 < shortest definition.fields
  pub fields : AllByRecursion IsField definition.fields
  pub short : front definition.kind + length (specifiers definition.fields) ≤ 65515

-- what is kept beside a definition: the octets of its shortest record and of its specifiers, and whether no field varies
pub record IsStored (definition : Definition) (min_len specs_len : ℕ) (is_fixed : Bool) : Type 0 where
  pub kept : IsKept definition
  pub least : min_len ≡ shortest definition.fields
  pub written : specs_len ≡ length (specifiers definition.fields)
  pub fixed : is_fixed ≡ are_fixed definition.fields

-- behind the old octets stands a front of some others
pub record AppendsFront (old new octets : List ℕ) : Type 0 where
  pub written : List ℕ
  pub left : List ℕ
  pub parts : octets ≡ written ++ left
  pub appended : new ≡ old ++ written
