-- What the field specifiers of a definition keep (RFC 7011, sections 3.4.1 and 3.4.2): they define records, and they fit
-- into the one set of a message of 65,535 octets.
use Rattle.std.specs.Prelude.{ℕ, ◌≡◌, ◌+◌, ◌≤◌, List, length}
use Rattle.std.proofs.Props.{props}
use Rattle.col_base.specs.declared.base.Kind.{Kind}
use Rattle.col_base.specs.declared.base.Kind.TheVariants.{Template, Options}
use Rattle.wire_spec.specs.Message.{front}
use Rattle.wire_spec.specs.Specifiers.{DefineRecords}
use Rattle.wire_spec.specs.WellFormed.{HasScope}

pub record AreSpecifiers (kind : Kind) (scope count : ℕ) (octets : List ℕ) : Type 0 where
  pub define : DefineRecords scope count octets
  pub short : front kind + length octets ≤ 65515

pub scope_prop : (kind : Kind) (scope : ℕ) → IsProp (HasScope kind scope)
scope_prop Template scope = hlevel props
scope_prop Options scope = hlevel props

pub scope_if_prop : (kind : Kind) (scope count : ℕ) → IsProp ((count ≡ 0 → ⊥) → HasScope kind scope)
scope_if_prop kind scope count = hlevel (props, scope_prop)
