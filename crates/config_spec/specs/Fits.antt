-- Whether a value of the TOML tree is what its key's value has to be.
use Rattle.std.specs.Prelude.{ℕ, ℤ, pos, negsuc, List, [], ◌∷◌, length, codes, Option, Some, None, option_and_then, is_some, Bool, false, not, ◌&&◌, ◌||◌, ◌==◌, nat_le, if◌then◌else◌}
use Rattle.std.specs.Option.{unwrap_or}
use Rattle.std.specs.List.{list_all}
use Rattle.std.specs.Char.{is_ascii_alphanumeric}
use Rattle.std.specs.Str.{bytes_eq}
use Rattle.toml.specs.Data.{Data, Members, get_member, Items, no_items, item, as_bool, as_integer, as_str, as_array, as_table}
use Rattle.config_spec.specs.declared.key.Key.{Key}
use Rattle.config_spec.specs.declared.key.Key.TheVariants as K
use Rattle.config_spec.specs.declared.key_row.Shape.{Shape}
use Rattle.config_spec.specs.declared.key_row.Shape.TheVariants as S
use Rattle.config_spec.specs.declared.key_row.Verdict.{Verdict}
use Rattle.config_spec.specs.declared.key_row.Verdict.TheVariants.{Right, WrongType, OutOfRange}
use Rattle.config_spec.specs.declared.tables.Prefix.{Prefix}
use Rattle.config_spec.specs.Texts.{address, prefix}
use Rattle.config_spec.specs.Domains.{domains}
use Rattle.config_spec.specs.Keys.{word_of}

-- the value at a key
abbrev pub value_at : Key → Members → Option Data
value_at key entries = get_member (word_of key) entries

-- the text at a key, if there is one
abbrev pub text_found : Key → Members → Option (List ℕ)
text_found key entries = option_and_then as_str (value_at key entries)

-- or no octets
unfoldable pub text_at : Key → Members → List ℕ
text_at key entries = unwrap_or (text_found key entries) []

-- out of range unless the test holds
abbrev pub within : Bool → Verdict
within holds = if holds then Right else OutOfRange

abbrev pub is_between : ℕ → ℕ → ℤ → Bool
is_between low high (pos n) = nat_le low n && nat_le n high
is_between low high (negsuc n) = false

abbrev pub number_fits : ℕ → ℕ → Option ℤ → Verdict
number_fits low high (Some z) = within (is_between low high z)
number_fits low high None = WrongType

-- a number that is there and not below 0, or 0
abbrev pub number_or_zero : Option ℤ → ℕ
number_or_zero (Some (pos n)) = n
number_or_zero (Some (negsuc n)) = 0
number_or_zero None = 0

unfoldable pub least_at : Key → Members → ℕ
least_at key entries = number_or_zero (option_and_then as_integer (value_at key entries))

-- letters, digits, `_` and `-`
abbrev pub is_name_octet : ℕ → Bool
is_name_octet octet = is_ascii_alphanumeric octet || octet == 95 || octet == 45

-- the order log is named so
abbrev pub is_taken : List ℕ → Bool
is_taken text = bytes_eq text (word_of K.OrderLog)

unfoldable pub is_name : List ℕ → Bool
is_name text = nat_le 1 (length text) && nat_le (length text) 64 && list_all is_name_octet text && not (is_taken text)

unfoldable pub is_place : List ℕ → Bool
is_place text = nat_le 1 (length text) && nat_le (length text) 4096

abbrev pub keep_word : List ℕ
keep_word = codes "keep"

abbrev pub drop_word : List ℕ
drop_word = codes "drop"

unfoldable pub is_act : List ℕ → Bool
is_act text = bytes_eq text keep_word || bytes_eq text drop_word

abbrev pub is_prefix : List ℕ → Bool
is_prefix text = is_some (prefix text)

-- as many octets
abbrev pub is_alike : Option Prefix → Option (List ℕ) → Bool
is_alike (Some from) (Some to) = length from.octets == length to
is_alike (Some from) None = false
is_alike None to = false

abbrev pub is_like : List ℕ → List ℕ → Bool
is_like from to = is_alike (prefix from) (address to)

abbrev pub are_domains : List ℕ → Bool
are_domains text = is_some (domains text)

abbrev pub is_there : Key → Members → Bool
is_there key entries = is_some (value_at key entries)

abbrev pub text_fits : (List ℕ → Bool) → Option (List ℕ) → Verdict
text_fits test (Some text) = within (test text)
text_fits test None = WrongType

abbrev pub flag_fits : Option Bool → Verdict
flag_fits (Some flag) = Right
flag_fits None = WrongType

-- the items as a list
unfoldable pub items_list : Items → List Data
items_list no_items = []
items_list (item value more) = value ∷ items_list more

abbrev pub is_table : Data → Bool
is_table value = is_some (as_table value)

abbrev pub is_text : Data → Bool
is_text value = is_some (as_str value)

-- a text of a right length; what is no text was judged before
abbrev pub place_or : Option (List ℕ) → Bool
place_or None = false
place_or (Some text) = is_place text

abbrev pub is_place_item : Data → Bool
is_place_item value = place_or (as_str value)

-- an array of tables, so many
abbrev pub tables_fit : ℕ → ℕ → List Data → Verdict
tables_fit least most values = if list_all is_table values
    then within (nat_le least (length values) && nat_le (length values) most)
    else WrongType

-- an array of paths, so many
abbrev pub places_fit : ℕ → List Data → Verdict
places_fit most values = if list_all is_text values
    then within (nat_le (length values) most && list_all is_place_item values)
    else WrongType

abbrev pub array_fits : (List Data → Verdict) → Option Items → Verdict
array_fits test None = WrongType
array_fits test (Some items) = test (items_list items)

-- what a default is where this is asked: a number alone may be out of range
abbrev pub default_fits : Shape → Members → ℕ → Verdict
default_fits (S.Number low high) entries default = within (nat_le low default && nat_le default high)
default_fits (S.From key high) entries default = within (nat_le (least_at key entries) default && nat_le default high)
default_fits shape entries default = Right

-- whether a text is right where a text is asked, in the table that it stands in
unfoldable pub text_test : Shape → Members → List ℕ → Bool
text_test S.Name entries text = is_name text
text_test S.Place entries text = is_place text
text_test S.Act entries text = is_act text
text_test S.Prefix entries text = is_prefix text
text_test (S.Like key) entries text = is_like (text_at key entries) text
text_test S.Domains entries text = are_domains text
text_test (S.DomainsWithout key) entries text = not (is_there key entries) && are_domains text
text_test _ entries text = false

-- what a value is where this is asked
unfoldable pub fits : Shape → Members → Data → Verdict
fits S.Chosen entries value = Right
fits (S.Number low high) entries value = number_fits low high (as_integer value)
fits (S.From key high) entries value = number_fits (least_at key entries) high (as_integer value)
fits (S.Places most) entries value = array_fits (places_fit most) (as_array value)
fits (S.Tables least most) entries value = array_fits (tables_fit least most) (as_array value)
fits S.Flag entries value = flag_fits (as_bool value)
fits shape entries value = text_fits (text_test shape entries) (as_str value)
