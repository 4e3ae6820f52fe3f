-- The row that a TOML table stands for, or its fault.
use Rattle.std.specs.Prelude.{ℕ, ℤ, pos, negsuc, Bool, true, ◌&&◌, nat_le, List, Option, Some, None, option_and_then, Result, Ok, Err, if◌then◌else◌}
use Rattle.std.specs.List.{list_any}
use Rattle.std.specs.Str.{bytes_eq}
use Rattle.toml.specs.Data.{Members, no_members, member, get_member, as_integer, as_str}
use Rattle.text_spec.specs.declared.element.Element.{Element}
use Rattle.text_spec.specs.declared.element.ElementType.{ElementType}
use Rattle.element_spec.specs.declared.key.Key.{Key}
use Rattle.element_spec.specs.declared.key.Key.TheVariants as K
use Rattle.element_spec.specs.declared.fault.TableFault.{TableFault}
use Rattle.element_spec.specs.declared.fault.TableFault.TheVariants.{BadRow, BadType}
use Rattle.element_spec.specs.Words.{word_of, row_keys, all_types, type_named}
use Rattle.element_spec.specs.Names.{is_name, is_prefix}

-- whether each member has one of these keys
unfoldable pub are_known : List Key → Members → Bool
are_known keys no_members = true
are_known keys (member word value members) = list_any (λ key. bytes_eq (word_of key) word) keys && are_known keys members

-- a number from 0 to the most
abbrev pub number_within : ℕ → ℤ → Option ℕ
number_within most (pos n) = if nat_le n most then Some n else None
number_within most (negsuc n) = None

unfoldable pub number_at : ℕ → Key → Members → Option ℕ
number_at most key members = option_and_then (number_within most) (option_and_then as_integer (get_member (word_of key) members))

unfoldable pub text_at : Key → Members → Option (List ℕ)
text_at key members = option_and_then as_str (get_member (word_of key) members)

abbrev pub passed : (List ℕ → Bool) → List ℕ → Option (List ℕ)
passed test text = if test text then Some text else None

-- a text that passes the test
abbrev pub text_passed : (List ℕ → Bool) → Key → Members → Option (List ℕ)
text_passed test key members = option_and_then (passed test) (text_at key members)

abbrev pub typed_row : ℕ → ℕ → ℕ → List ℕ → List ℕ → Option ElementType → Result Element TableFault
typed_row place pen id prefix name None = Err (BadType place)
typed_row place pen id prefix name (Some kind) = Ok (record { pen = pen; id = id; kind = kind; prefix = prefix; name = name })

-- all five are there, and the last is the name of a type
abbrev pub whole_row : ℕ → Option ℕ → Option ℕ → Option (List ℕ) → Option (List ℕ) → Option (List ℕ) → Result Element TableFault
whole_row place (Some pen) (Some id) (Some prefix) (Some name) (Some word) = typed_row place pen id prefix name (type_named all_types word)
whole_row place pen id prefix name word = Err (BadRow place)

-- the row at this place that the members stand for
unfoldable pub row_of : ℕ → Members → Result Element TableFault
row_of place members = if are_known row_keys members
    then whole_row place (number_at 4294967295 K.Pen members) (number_at 32767 K.Id members)
    (text_passed is_prefix K.Prefix members) (text_passed is_name K.Name members) (text_at K.Type members)
    else Err (BadRow place)
