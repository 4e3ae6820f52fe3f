-- The tree of octets that are text, and of others.
use Rattle.std.proofs.Common.{◌≡◌, List, ℕ, None, false}
use Rattle.std.specs.Str.{IsUtf8, is_utf8}
use Rattle.std.proofs.lemmas.Bool.{false_from_ne_true}
use Rattle.std.proofs.lemmas.Str.{is_utf8-from_IsUtf8, IsUtf8-from_is_utf8}
use Rattle.toml.specs.Parse.{parse_document}
use Rattle.config_spec.specs.Description.{tree_of}

pub tree_of_text : (octets : List ℕ) → IsUtf8 octets → tree_of octets ≡ parse_document octets
tree_of_text octets text = rw (is_utf8-from_IsUtf8 octets text)

pub tree_of_other : (octets : List ℕ) → ¬ (IsUtf8 octets) → tree_of octets ≡ None
tree_of_other octets other =
    let no : is_utf8 octets ≡ false = false_from_ne_true _ (λ yes. other (IsUtf8-from_is_utf8 octets yes)) in
    rw no
