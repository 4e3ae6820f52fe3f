-- The lines that people read: sessions and seconds, and of a message its numbers, its sets and their records.
use Rattle.std.specs.Prelude.{ℕ, List, ◌++◌, codes, decimal, zip}
use Rattle.std.specs.List.{join_by}
use Rattle.col_base.specs.declared.base.SessionKey.{SessionKey}
use Rattle.col_base.specs.declared.base.Transport.{Transport}
use Rattle.col_base.specs.declared.base.Transport.TheVariants.{Tcp, Udp, File}
use Rattle.wire_spec.specs.declared.field.FieldSpec.{FieldSpec}
use Rattle.text_spec.specs.declared.element.Element.{Element}
use Rattle.text_spec.specs.Marks.{equals_sign, space, four_spaces, line_feed, slash, session_mark, open_mark, close_mark, tick_mark, message_mark, domain_mark, export_mark, sequence_mark, records_mark, template_mark}
use Rattle.text_spec.specs.Name.{name_text, type_at}
use Rattle.text_spec.specs.Value.{value_text}

unfoldable pub transport_word : Transport → List ℕ
transport_word Tcp = codes "tcp"
transport_word Udp = codes "udp"
transport_word File = codes "file"

-- a session by the number of its input, and its own
abbrev pub session_text : SessionKey → List ℕ
session_text key = decimal key.input ++ slash ++ decimal key.number

-- a session that opens, and one that closes
unfoldable pub opened_line : SessionKey → Transport → List ℕ
opened_line key transport = session_mark ++ session_text key ++ open_mark ++ transport_word transport ++ line_feed

unfoldable pub closed_line : SessionKey → List ℕ
closed_line key = session_mark ++ session_text key ++ close_mark ++ line_feed

-- seconds that passed at an input
unfoldable pub tick_line : ℕ → ℕ → List ℕ
tick_line input seconds = tick_mark ++ decimal input ++ space ++ decimal seconds ++ line_feed

-- a message: its domain, export time and sequence number, and how many records it has
unfoldable pub message_line : SessionKey → ℕ → ℕ → ℕ → ℕ → List ℕ
message_line key domain export sequence records =
    message_mark ++ session_text key ++ domain_mark ++ decimal domain ++ export_mark ++ decimal export
    ++ sequence_mark ++ decimal sequence ++ records_mark ++ decimal records ++ line_feed

-- a set: its ID, and how many records it has
unfoldable pub set_line : ℕ → ℕ → List ℕ
set_line id records = template_mark ++ decimal id ++ records_mark ++ decimal records ++ line_feed

-- a field: its name, `=`, its value
abbrev pub field_text : List Element → FieldSpec × List ℕ → List ℕ
field_text table item = name_text table item.0.pen item.0.id ++ equals_sign
    ++ value_text (type_at table item.0.pen item.0.id) item.1

-- a record: the fields in order, one space between
unfoldable pub view_line : List Element → List FieldSpec → List (List ℕ) → List ℕ
view_line table fields values = four_spaces ++ join_by (field_text table) space (zip fields values) ++ line_feed
