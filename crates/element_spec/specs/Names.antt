-- Which texts may be a prefix or a name.
use Rattle.std.specs.Prelude.{ℕ, Bool, not, ◌&&◌, ◌||◌, ◌==◌, nat_le, nat_lt, List, length, take, drop}
use Rattle.std.specs.List.{list_any, list_all}
use Rattle.std.specs.Str.{bytes_eq}
use Rattle.std.specs.Char.{is_ascii_alphanumeric, is_ascii_digit}
use Rattle.text_spec.specs.declared.element.Element.{Element}
use Rattle.text_spec.specs.Marks.{enterprise_mark}

-- letters, digits, `_` and `-`
abbrev pub is_name_octet : ℕ → Bool
is_name_octet octet = is_ascii_alphanumeric octet || octet == 95 || octet == 45

abbrev pub is_name : List ℕ → Bool
is_name text = nat_le 1 (length text) && nat_le (length text) 64 && list_all is_name_octet text

-- `en` and digits are how an element without a row is named
abbrev pub is_enterprise : List ℕ → Bool
is_enterprise text = bytes_eq (take 2 text) enterprise_mark && nat_lt 2 (length text) && list_all is_ascii_digit (drop 2 text)

abbrev pub is_prefix : List ℕ → Bool
is_prefix text = is_name text && not (is_enterprise text)

abbrev pub is_named : List ℕ → List ℕ → Element → Bool
is_named prefix name element = bytes_eq element.prefix prefix && bytes_eq element.name name

-- whether a row has the prefix and the name
unfoldable pub has_name : List ℕ → List ℕ → List Element → Bool
has_name prefix name rows = list_any (is_named prefix name) rows
