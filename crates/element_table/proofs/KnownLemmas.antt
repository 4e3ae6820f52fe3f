-- Known keys, one member at a time.
use Rattle.std.proofs.Common.{◌≡◌, List, [], ◌∷◌, true, false, string_bytes}
use Rattle.std.specs.List.{list_any}
use Rattle.std.specs.Str.{bytes_eq}
use Rattle.toml.specs.View.{members_view}
use Rattle.toml.proofs.Views.{Entry}
use Rattle.element_spec.specs.declared.key.Key.{Key}
use Rattle.element_spec.specs.Words.{word_of}
use Rattle.element_spec.specs.Rows.{are_known}

pub unknown_here : (keys : List Key) (es rest : List Entry) (e : Entry) → es ≡ e ∷ rest
    → list_any (λ key. bytes_eq (word_of key) (string_bytes e.0)) keys ≡ false → are_known keys (members_view es) ≡ false
unfolding are_known
unknown_here keys es rest e is unknown = rw (is, unknown)

pub known_here : (keys : List Key) (es rest : List Entry) (e : Entry) → es ≡ e ∷ rest
    → list_any (λ key. bytes_eq (word_of key) (string_bytes e.0)) keys ≡ true → are_known keys (members_view es) ≡ are_known keys (members_view rest)
unfolding are_known
known_here keys es rest e is known = rw (is, known)

pub known_all : (keys : List Key) (es : List Entry) → es ≡ [] → are_known keys (members_view es) ≡ true
unfolding are_known
known_all keys es is = rw is
