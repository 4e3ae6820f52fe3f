-- Known texts, to which the definitions are held.
use Rattle.std.specs.Prelude.{◌≡◌, ℕ, List, [], ◌∷◌, ◌++◌, Option, Some, None, codes}
use Rattle.std.specs.List.{AllByRecursion}
use Prim.Native.String.{String}
use Rattle.col_base.specs.declared.base.Kind.TheVariants.{Template, Options}
use Rattle.col_base.specs.declared.base.SessionKey.{SessionKey}
use Rattle.col_base.specs.declared.base.Transport.TheVariants.{Tcp, Udp, File}
use Rattle.wire_spec.specs.declared.field.FieldSpec.{FieldSpec}
use Rattle.text_spec.specs.declared.element.Element.{Element}
use Rattle.text_spec.specs.declared.element.ElementType.{ElementType}
use Rattle.text_spec.specs.declared.element.ElementType.TheVariants as T
use Rattle.text_spec.specs.Value.{value_text}
use Rattle.text_spec.specs.Json.{json_line}
use Rattle.text_spec.specs.View.{opened_line, closed_line, tick_line, message_line, set_line, view_line}
use Rattle.text_spec.specs.Builtin.{builtin_rows}

-- a value of a type, and its text
pub record Known : Type 0 where
  pub kind : Option ElementType
  pub octets : List ℕ
  pub text : List ℕ

abbrev pub known : ElementType → List ℕ → List ℕ → Known
known kind octets text = record { kind = Some kind; octets = octets; text = text }

abbrev pub unnamed : List ℕ → List ℕ → Known
unnamed octets text = record { kind = None; octets = octets; text = text }

-- each value has its text
abbrev pub HaveTexts : List Known → Type 0
HaveTexts values = AllByRecursion (λ value. value_text value.kind value.octets ≡ value.text) values

-- numbers may come in fewer octets than their type has
abbrev pub unsigned_values : List Known
unsigned_values = known T.Unsigned8 (0x07 ∷ []) (codes "7")
    ∷ known T.Unsigned8 [] (codes "\"0x\"")
    ∷ known T.Unsigned8 (0x01 ∷ 0x02 ∷ []) (codes "\"0x0102\"")
    ∷ known T.Unsigned16 (0xab ∷ 0xcd ∷ []) (codes "43981")
    ∷ known T.Unsigned32 (0x0a ∷ 0x00 ∷ 0x00 ∷ 0x01 ∷ []) (codes "167772161")
    ∷ known T.Unsigned32 (0x00 ∷ 0x00 ∷ 0x00 ∷ 0x00 ∷ 0x01 ∷ []) (codes "\"0x0000000001\"")
    ∷ known T.Unsigned64 (0x00 ∷ []) (codes "0")
    ∷ known T.Unsigned64 (0xff ∷ 0xff ∷ 0xff ∷ 0xff ∷ 0xff ∷ 0xff ∷ 0xff ∷ 0xff ∷ []) (codes "18446744073709551615")
    ∷ known T.Unsigned64 (0x00 ∷ 0x00 ∷ 0x00 ∷ 0x00 ∷ 0x00 ∷ 0x00 ∷ 0x00 ∷ 0x00 ∷ 0x01 ∷ []) (codes "\"0x000000000000000001\"")
    ∷ []

-- the first bit is the sign, in however many octets
abbrev pub signed_values : List Known
signed_values = known T.Signed8 (0x7f ∷ []) (codes "127")
    ∷ known T.Signed8 (0x80 ∷ []) (codes "-128")
    ∷ known T.Signed8 (0xff ∷ []) (codes "-1")
    ∷ known T.Signed16 (0xff ∷ []) (codes "-1")
    ∷ known T.Signed16 (0xff ∷ 0x85 ∷ []) (codes "-123")
    ∷ known T.Signed32 (0x00 ∷ 0xff ∷ []) (codes "255")
    ∷ known T.Signed64 (0x80 ∷ 0x00 ∷ 0x00 ∷ 0x00 ∷ 0x00 ∷ 0x00 ∷ 0x00 ∷ 0x00 ∷ []) (codes "-9223372036854775808")
    ∷ known T.Signed64 [] (codes "\"0x\"")
    ∷ known T.Signed8 (0xff ∷ 0xff ∷ []) (codes "\"0xffff\"")
    ∷ []

-- 1 is true, 2 is false, and nothing else is either
abbrev pub boolean_values : List Known
boolean_values = known T.Boolean (0x01 ∷ []) (codes "true")
    ∷ known T.Boolean (0x02 ∷ []) (codes "false")
    ∷ known T.Boolean (0x00 ∷ []) (codes "\"0x00\"")
    ∷ known T.Boolean (0x00 ∷ 0x01 ∷ []) (codes "\"0x0001\"")
    ∷ []

-- addresses of their whole length
abbrev pub address_values : List Known
address_values = known T.MacAddress (0x00 ∷ 0x11 ∷ 0x22 ∷ 0xaa ∷ 0xbb ∷ 0xcc ∷ []) (codes "\"00:11:22:aa:bb:cc\"")
    ∷ known T.MacAddress (0x00 ∷ 0x11 ∷ []) (codes "\"0x0011\"")
    ∷ known T.Ipv4Address (0x0a ∷ 0x00 ∷ 0x00 ∷ 0x01 ∷ []) (codes "\"10.0.0.1\"")
    ∷ known T.Ipv4Address (0xff ∷ 0x00 ∷ []) (codes "\"0xff00\"")
    ∷ []

-- the longest run of zero groups is `::`, and no part is dotted
abbrev pub ipv6_values : List Known
ipv6_values = known T.Ipv6Address (0x20 ∷ 0x01 ∷ 0x0d ∷ 0xb8 ∷ 0x00 ∷ 0x00 ∷ 0x00 ∷ 0x00 ∷ 0x00 ∷ 0x00 ∷ 0x00 ∷ 0x00 ∷ 0x00 ∷ 0x00 ∷ 0x00 ∷ 0x01 ∷ []) (codes "\"2001:db8::1\"")
    ∷ known T.Ipv6Address (0x00 ∷ 0x00 ∷ 0x00 ∷ 0x00 ∷ 0x00 ∷ 0x00 ∷ 0x00 ∷ 0x00 ∷ 0x00 ∷ 0x00 ∷ 0x00 ∷ 0x00 ∷ 0x00 ∷ 0x00 ∷ 0x00 ∷ 0x00 ∷ []) (codes "\"::\"")
    ∷ known T.Ipv6Address (0x00 ∷ 0x01 ∷ 0x00 ∷ 0x00 ∷ 0x00 ∷ 0x00 ∷ 0x00 ∷ 0x02 ∷ 0x00 ∷ 0x00 ∷ 0x00 ∷ 0x00 ∷ 0x00 ∷ 0x00 ∷ 0x00 ∷ 0x03 ∷ []) (codes "\"1:0:0:2::3\"")
    ∷ known T.Ipv6Address (0x00 ∷ 0x01 ∷ 0x00 ∷ 0x00 ∷ 0x00 ∷ 0x00 ∷ 0x00 ∷ 0x02 ∷ 0x00 ∷ 0x03 ∷ 0x00 ∷ 0x00 ∷ 0x00 ∷ 0x00 ∷ 0x00 ∷ 0x04 ∷ []) (codes "\"1::2:3:0:0:4\"")
    ∷ known T.Ipv6Address (0x00 ∷ 0x01 ∷ 0x00 ∷ 0x00 ∷ 0x00 ∷ 0x02 ∷ 0x00 ∷ 0x03 ∷ 0x00 ∷ 0x04 ∷ 0x00 ∷ 0x05 ∷ 0x00 ∷ 0x06 ∷ 0x00 ∷ 0x07 ∷ []) (codes "\"1:0:2:3:4:5:6:7\"")
    ∷ known T.Ipv6Address (0x00 ∷ 0x00 ∷ 0x00 ∷ 0x00 ∷ 0x00 ∷ 0x00 ∷ 0x00 ∷ 0x00 ∷ 0x00 ∷ 0x00 ∷ 0xff ∷ 0xff ∷ 0x0a ∷ 0x00 ∷ 0x00 ∷ 0x01 ∷ []) (codes "\"::ffff:a00:1\"")
    ∷ known T.Ipv6Address (0x20 ∷ 0x01 ∷ 0x0d ∷ 0xb8 ∷ []) (codes "\"0x20010db8\"")
    ∷ []

-- zeros at the end are cut, and what is no text has its octets
abbrev pub string_values : List Known
string_values = known T.Str (0x61 ∷ 0x22 ∷ 0x0a ∷ []) (codes "\"a\\\"\\u000a\"")
    ∷ known T.Str (0xff ∷ []) (codes "\"0xff\"")
    ∷ known T.Str (0xff ∷ 0x00 ∷ []) (codes "\"0xff00\"")
    ∷ known T.Str (0x61 ∷ 0x62 ∷ 0x00 ∷ []) (codes "\"ab\"")
    ∷ known T.Str (0x00 ∷ 0x00 ∷ []) (codes "\"\"")
    ∷ known T.Str [] (codes "\"\"")
    ∷ known T.Str (0x61 ∷ 0x00 ∷ 0x62 ∷ 0x00 ∷ 0x00 ∷ []) (codes "\"a\\u0000b\"")
    ∷ known T.Str (0x5c ∷ 0x1f ∷ 0x7e ∷ []) (codes "\"\\\\\\u001f~\"")
    ∷ known T.Str (0xc3 ∷ 0xa9 ∷ []) (0x22 ∷ 0xc3 ∷ 0xa9 ∷ 0x22 ∷ [])
    ∷ known T.Str (0xc3 ∷ []) (codes "\"0xc3\"")
    ∷ known T.Str (0xed ∷ 0xa0 ∷ 0x80 ∷ []) (codes "\"0xeda080\"")
    ∷ []

-- times of each unit
abbrev pub time_values : List Known
time_values = known T.DateTimeSeconds (0x00 ∷ 0x00 ∷ 0x00 ∷ 0x64 ∷ []) (codes "100000")
    ∷ known T.DateTimeSeconds (0x64 ∷ []) (codes "\"0x64\"")
    ∷ known T.DateTimeMilliseconds (0x00 ∷ 0x00 ∷ 0x00 ∷ 0x00 ∷ 0x00 ∷ 0x00 ∷ 0x03 ∷ 0xe8 ∷ []) (codes "1000")
    ∷ known T.DateTimeMilliseconds (0x03 ∷ 0xe8 ∷ []) (codes "\"0x03e8\"")
    ∷ known T.DateTimeMicroseconds (0x83 ∷ 0xaa ∷ 0x7e ∷ 0x81 ∷ 0x80 ∷ 0x00 ∷ 0x00 ∷ 0x00 ∷ []) (codes "1500")
    ∷ known T.DateTimeMicroseconds (0x83 ∷ 0xaa ∷ 0x7e ∷ 0x81 ∷ 0x00 ∷ 0x41 ∷ 0x89 ∷ 0x38 ∷ []) (codes "1000")
    ∷ known T.DateTimeNanoseconds (0x83 ∷ 0xaa ∷ 0x7e ∷ 0x81 ∷ 0x00 ∷ 0x41 ∷ 0x89 ∷ 0x38 ∷ []) (codes "1001")
    ∷ known T.DateTimeMicroseconds (0x83 ∷ 0xaa ∷ 0x7e ∷ 0x7f ∷ 0x00 ∷ 0x00 ∷ 0x00 ∷ 0x00 ∷ []) (codes "\"0x83aa7e7f00000000\"")
    ∷ known T.DateTimeNanoseconds (0x83 ∷ 0xaa ∷ 0x7e ∷ 0x80 ∷ 0x00 ∷ 0x00 ∷ 0x00 ∷ 0x00 ∷ []) (codes "0")
    ∷ known T.DateTimeNanoseconds (0x83 ∷ 0xaa ∷ 0x7e ∷ 0x81 ∷ []) (codes "\"0x83aa7e81\"")
    ∷ []

-- whatever no rule covers
abbrev pub octet_values : List Known
octet_values = known T.OctetArray (0x00 ∷ 0xff ∷ []) (codes "\"0x00ff\"")
    ∷ known T.Float32 (0x3f ∷ 0x80 ∷ 0x00 ∷ 0x00 ∷ []) (codes "\"0x3f800000\"")
    ∷ known T.BasicList [] (codes "\"0x\"")
    ∷ unnamed (0xab ∷ 0xcd ∷ []) (codes "\"0xabcd\"")
    ∷ []

-- a line with its line feed
abbrev pub line : String → List ℕ
line text = codes text ++ 10 ∷ []

abbrev pub field : ℕ → ℕ → ℕ → FieldSpec
field pen id len = record { pen = pen; id = id; len = len }

-- two addresses and a count of octets
abbrev pub flow_fields : List FieldSpec
flow_fields = field 0 8 4 ∷ field 0 12 4 ∷ field 0 1 4 ∷ []

abbrev pub flow_values : List (List ℕ)
flow_values = (10 ∷ 0 ∷ 0 ∷ 1 ∷ []) ∷ (10 ∷ 0 ∷ 0 ∷ 2 ∷ []) ∷ (0 ∷ 0 ∷ 0x03 ∷ 0xe8 ∷ []) ∷ []

abbrev pub HasFlowLine : Type 0
HasFlowLine = json_line builtin_rows Template flow_fields flow_values
    ≡ line "{\"@type\":\"ipfix.entry\",\"iana:sourceIPv4Address\":\"10.0.0.1\",\"iana:destinationIPv4Address\":\"10.0.0.2\",\"iana:octetDeltaCount\":1000}"

abbrev pub HasFlowView : Type 0
HasFlowView = view_line builtin_rows flow_fields flow_values
    ≡ line "    iana:sourceIPv4Address=\"10.0.0.1\" iana:destinationIPv4Address=\"10.0.0.2\" iana:octetDeltaCount=1000"

abbrev pub key : ℕ → ℕ → SessionKey
key input number = record { input = input; number = number }

-- sessions, seconds, a message and a set
pub record HaveViews : Type 0 where
  pub opened_file : opened_line (key 0 0) File ≡ line "session 0/0 open file"
  pub opened_tcp : opened_line (key 3 12) Tcp ≡ line "session 3/12 open tcp"
  pub opened_udp : opened_line (key 15 4095) Udp ≡ line "session 15/4095 open udp"
  pub closed : closed_line (key 3 12) ≡ line "session 3/12 close"
  pub tick : tick_line 3 1700000000 ≡ line "tick 3 1700000000"
  pub message : message_line (key 0 2) 1 100 4294967295 20 ≡ line "message 0/2 domain 1 export 100 sequence 4294967295 records 20"
  pub set : set_line 256 20 ≡ line "  template 256 records 20"

-- a text of variable length
abbrev pub HasNameLine : Type 0
HasNameLine = json_line builtin_rows Template (field 0 82 65535 ∷ []) ((0x61 ∷ 0x62 ∷ 0x63 ∷ []) ∷ [])
    ≡ line "{\"@type\":\"ipfix.entry\",\"iana:interfaceName\":\"abc\"}"

-- an element twice, and between the two an element of an enterprise
abbrev pub repeated_fields : List FieldSpec
repeated_fields = field 0 1 4 ∷ field 9 7 2 ∷ field 0 1 4 ∷ []

abbrev pub repeated_values : List (List ℕ)
repeated_values = (0 ∷ 0 ∷ 0 ∷ 5 ∷ []) ∷ (0xab ∷ 0xcd ∷ []) ∷ (0 ∷ 0 ∷ 0 ∷ 6 ∷ []) ∷ []

abbrev pub HasRepeatedLine : Type 0
HasRepeatedLine = json_line builtin_rows Template repeated_fields repeated_values
    ≡ line "{\"@type\":\"ipfix.entry\",\"iana:octetDeltaCount\":[5,6],\"en9:id7\":\"0xabcd\"}"

abbrev pub enterprise_row : Element
enterprise_row = record { pen = 9; id = 7; kind = T.Unsigned16; prefix = codes "cisco"; name = codes "thing" }

-- the same where a table names that element
abbrev pub HasNamedLine : Type 0
HasNamedLine = json_line (builtin_rows ++ enterprise_row ∷ []) Template repeated_fields repeated_values
    ≡ line "{\"@type\":\"ipfix.entry\",\"iana:octetDeltaCount\":[5,6],\"cisco:thing\":43981}"

-- a record by an Options Template
abbrev pub HasOptionsLine : Type 0
HasOptionsLine = json_line builtin_rows Options (field 0 149 4 ∷ field 0 10 4 ∷ []) ((0 ∷ 0 ∷ 0 ∷ 1 ∷ []) ∷ (0 ∷ 0 ∷ 0 ∷ 7 ∷ []) ∷ [])
    ≡ line "{\"@type\":\"ipfix.options\",\"iana:observationDomainId\":1,\"iana:ingressInterface\":7}"

-- padding is not printed
abbrev pub HasPaddedLine : Type 0
HasPaddedLine = json_line builtin_rows Template (field 0 210 1 ∷ field 0 4 1 ∷ field 0 210 2 ∷ []) ((0 ∷ []) ∷ (6 ∷ []) ∷ (0 ∷ 0 ∷ []) ∷ [])
    ≡ line "{\"@type\":\"ipfix.entry\",\"iana:protocolIdentifier\":6}"
