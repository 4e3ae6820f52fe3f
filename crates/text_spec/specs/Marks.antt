-- The fixed pieces of the texts, each a word of its own.
use Rattle.std.specs.Prelude.{ℕ, List, [], ◌∷◌, ◌++◌, codes}

unfoldable pub quote : List ℕ
quote = codes "\""

-- what begins an octet text, behind its quote
unfoldable pub hexadecimal_mark : List ℕ
hexadecimal_mark = codes "0x"

unfoldable pub dot : List ℕ
dot = codes "."

unfoldable pub colon : List ℕ
colon = codes ":"

unfoldable pub comma : List ℕ
comma = codes ","

unfoldable pub equals_sign : List ℕ
equals_sign = codes "="

unfoldable pub space : List ℕ
space = codes " "

unfoldable pub four_spaces : List ℕ
four_spaces = codes "    "

unfoldable pub line_feed : List ℕ
line_feed = 10 ∷ []

unfoldable pub true_text : List ℕ
true_text = codes "true"

unfoldable pub false_text : List ℕ
false_text = codes "false"

unfoldable pub escaped_quote : List ℕ
escaped_quote = codes "\\\""

unfoldable pub escaped_backslash : List ℕ
escaped_backslash = codes "\\\\"

-- what begins the escape of a character below 256
unfoldable pub escape_mark : List ℕ
escape_mark = codes "\\u00"

-- what begins the name of an element that no table has, and what stands between its two numbers
unfoldable pub enterprise_mark : List ℕ
enterprise_mark = codes "en"

unfoldable pub id_mark : List ℕ
id_mark = codes ":id"

-- what stands before and behind a name in JSON
unfoldable pub before_name : List ℕ
before_name = codes ",\""

unfoldable pub after_name : List ℕ
after_name = codes "\":"

unfoldable pub list_start : List ℕ
list_start = codes "["

unfoldable pub list_end : List ℕ
list_end = codes "]"

unfoldable pub entry_start : List ℕ
entry_start = codes "{\"@type\":\"ipfix.entry\""

unfoldable pub options_start : List ℕ
options_start = codes "{\"@type\":\"ipfix.options\""

unfoldable pub line_end : List ℕ
line_end = codes "}" ++ 10 ∷ []

-- what stands between the numbers of a line that people read
unfoldable pub slash : List ℕ
slash = codes "/"

unfoldable pub session_mark : List ℕ
session_mark = codes "session "

unfoldable pub open_mark : List ℕ
open_mark = codes " open "

unfoldable pub close_mark : List ℕ
close_mark = codes " close"

unfoldable pub tick_mark : List ℕ
tick_mark = codes "tick "

unfoldable pub message_mark : List ℕ
message_mark = codes "message "

unfoldable pub domain_mark : List ℕ
domain_mark = codes " domain "

unfoldable pub export_mark : List ℕ
export_mark = codes " export "

unfoldable pub sequence_mark : List ℕ
sequence_mark = codes " sequence "

unfoldable pub records_mark : List ℕ
records_mark = codes " records "

-- a line of a set begins with two spaces
unfoldable pub template_mark : List ℕ
template_mark = codes "  template "
