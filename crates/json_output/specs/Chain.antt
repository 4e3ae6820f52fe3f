-- Where the fields of each element stand, by their numbers. These are steps of proofs.
use Rattle.std.specs.Prelude.{ℕ, ◌≡◌, ◌+◌, ◌<◌, ◌==◌, ◌&&◌, Bool, List, Option, None, length, get_or, drop}
use Rattle.std.specs.List.{position_from}
use Rattle.std.specs.Map.{lookup}
use Rattle.wire_spec.specs.declared.field.FieldSpec.{FieldSpec}
use Rattle.text_spec.specs.Fields.{Pair, pair_of, is_of}
use Rattle.json_output.specs.declared.chains.Chains.{Chains}

-- the first field of an element, from a field on
abbrev pub first_from : Pair → List FieldSpec → ℕ → Option ℕ
first_from pair fields from = position_from (is_of pair) from (drop from fields)

abbrev pub is_key : Pair → ℕ × ℕ → Bool
is_key pair key = pair.pen == key.0 && pair.id == key.1

-- the first field of each element, and the next of each field's
pub record AreChains (fields : List FieldSpec) (chains : Chains) : Type 0 where
  pub long : length chains.next.items ≡ length fields
  pub first : (pair : Pair) → lookup (is_key pair) chains.first.entries ≡ first_from pair fields 0
  pub next : (at : ℕ) (d : FieldSpec) → at < length fields → get_or chains.next.items at None ≡ first_from (pair_of (get_or fields at d)) fields (at + 1)
