-- The texts of values by the types of their elements (RFC 7011, section 6; RFC 7012, section 3.1).
use Rattle.std.specs.Prelude.{ℕ, ◌+◌, ◌-◌, ◌*◌, ◌/◌, ◌%◌, ◌^◌, Bool, ◌&&◌, ◌==◌, nat_lt, nat_le, List, [], ◌∷◌, ◌++◌, Option, Some, None, unwrap_or, if◌then◌else◌, length, take, drop, decimal, flat_map, bytes_eq}
use Rattle.std.specs.List.{join_by, suffix_len}
use Rattle.std.specs.Char.{digit_char}
use Rattle.std.specs.Fmt.{signed_decimal}
use Rattle.std.specs.Str.{is_utf8}
use Rattle.std.specs.Net.Addr.{segments_of}
use Rattle.std.specs.Net.Text.{hex_groups_text}
use Rattle.text_spec.specs.declared.element.ElementType.{ElementType}
use Rattle.text_spec.specs.declared.element.ElementType.TheVariants as T
use Rattle.text_spec.specs.Number.{number_of, signed_number_of}
use Rattle.text_spec.specs.Marks.{quote, hexadecimal_mark, dot, colon, true_text, false_text, escaped_quote, escaped_backslash, escape_mark}

abbrev pub quoted : List ℕ → List ℕ
quoted text = quote ++ text ++ quote

-- two lower-case hexadecimal digits
abbrev pub hex_pair : ℕ → List ℕ
hex_pair octet = digit_char (octet / 16) ∷ digit_char (octet % 16) ∷ []

-- the text of a value that no rule below covers: `0x` and two digits for each octet
abbrev pub octet_text : List ℕ → List ℕ
octet_text octets = quote ++ hexadecimal_mark ++ flat_map hex_pair octets ++ quote

abbrev pub text_where : Bool → List ℕ → Option (List ℕ)
text_where covered text = if covered then Some text else None

-- an integer may be sent in fewer octets than its type has (RFC 7011, section 6.2)
abbrev pub is_reduced : ℕ → List ℕ → Bool
is_reduced size octets = nat_le 1 (length octets) && nat_le (length octets) size

abbrev pub unsigned_text : ℕ → List ℕ → Option (List ℕ)
unsigned_text size octets = text_where (is_reduced size octets) (decimal (number_of octets))

abbrev pub signed_text : ℕ → List ℕ → Option (List ℕ)
signed_text size octets = text_where (is_reduced size octets) (signed_decimal (signed_number_of octets))

-- 1 is true and 2 is false (RFC 7011, section 6.1.5)
abbrev pub boolean_text : List ℕ → Option (List ℕ)
boolean_text octets = if bytes_eq octets (1 ∷ []) then Some true_text
    else if bytes_eq octets (2 ∷ []) then Some false_text else None

-- addresses have all octets of their type (RFC 7011, section 6.1.2)
abbrev pub mac_text : List ℕ → Option (List ℕ)
mac_text octets = text_where (length octets == 6) (quoted (join_by hex_pair colon octets))

abbrev pub ipv4_text : List ℕ → Option (List ℕ)
ipv4_text octets = text_where (length octets == 4) (quoted (join_by decimal dot octets))

-- eight groups, the longest run of two or more zero groups, the leftmost of equals, as `::` (RFC 5952, section 4)
abbrev pub ipv6_text : List ℕ → Option (List ℕ)
ipv6_text octets = text_where (length octets == 16) (quoted (hex_groups_text (segments_of octets)))

-- the octets of a string before the zero octets at their end, with which exporters fill fields of a fixed length up.
-- RFC 7011, section 6.1.6, says nothing of them: to cut them is this project's own rule
abbrev pub before_end_zeros : List ℕ → List ℕ
before_end_zeros octets = take (length octets - suffix_len (λ octet. octet == 0) octets) octets

-- an octet of a JSON string (RFC 8259, section 7)
abbrev pub escaped_octet : ℕ → List ℕ
escaped_octet octet = if octet == 34 then escaped_quote
    else if octet == 92 then escaped_backslash
    else if nat_lt octet 32 then escape_mark ++ hex_pair octet else octet ∷ []

abbrev pub escaped : List ℕ → List ℕ
escaped text = flat_map escaped_octet text

abbrev pub string_text : List ℕ → Option (List ℕ)
string_text octets = text_where (is_utf8 (before_end_zeros octets)) (quoted (escaped (before_end_zeros octets)))

-- seconds since 1970, in milliseconds (RFC 7011, section 6.1.7)
abbrev pub seconds_text : List ℕ → Option (List ℕ)
seconds_text octets = text_where (length octets == 4) (decimal (1000 * number_of octets))

-- milliseconds since 1970 (RFC 7011, section 6.1.8)
abbrev pub milliseconds_text : List ℕ → Option (List ℕ)
milliseconds_text octets = text_where (length octets == 8) (decimal (number_of octets))

-- the seconds from 1900 to 1970
abbrev pub ntp_seconds_of_1970 : ℕ
ntp_seconds_of_1970 = 2208988800

-- milliseconds since 1970 of a time in NTP's form: seconds since 1900, and a fraction of a second in 32 bits
abbrev pub ntp_milliseconds : ℕ → ℕ → ℕ
ntp_milliseconds seconds fraction = 1000 * (seconds - ntp_seconds_of_1970) + 1000 * fraction / 2 ^ 32

-- times from 1970 on have a text; `cut` says which part of the fraction counts
abbrev pub ntp_text : (ℕ → ℕ) → List ℕ → Option (List ℕ)
ntp_text cut octets = text_where (length octets == 8 && nat_le ntp_seconds_of_1970 (number_of (take 4 octets)))
    (decimal (ntp_milliseconds (number_of (take 4 octets)) (cut (number_of (drop 4 octets)))))

-- all bits of the fraction count (RFC 7011, section 6.1.10)
abbrev pub nanoseconds_text : List ℕ → Option (List ℕ)
nanoseconds_text octets = ntp_text (λ fraction. fraction) octets

-- the 11 lowest bits of the fraction are taken as 0 (RFC 7011, section 6.1.9)
abbrev pub microseconds_text : List ℕ → Option (List ℕ)
microseconds_text octets = ntp_text (λ fraction. fraction - fraction % 2 ^ 11) octets

-- the text of a value of a type, where a rule covers it
abbrev pub covered_text : ElementType → List ℕ → Option (List ℕ)
covered_text T.Unsigned8 octets = unsigned_text 1 octets
covered_text T.Unsigned16 octets = unsigned_text 2 octets
covered_text T.Unsigned32 octets = unsigned_text 4 octets
covered_text T.Unsigned64 octets = unsigned_text 8 octets
covered_text T.Signed8 octets = signed_text 1 octets
covered_text T.Signed16 octets = signed_text 2 octets
covered_text T.Signed32 octets = signed_text 4 octets
covered_text T.Signed64 octets = signed_text 8 octets
covered_text T.Boolean octets = boolean_text octets
covered_text T.MacAddress octets = mac_text octets
covered_text T.Str octets = string_text octets
covered_text T.DateTimeSeconds octets = seconds_text octets
covered_text T.DateTimeMilliseconds octets = milliseconds_text octets
covered_text T.DateTimeMicroseconds octets = microseconds_text octets
covered_text T.DateTimeNanoseconds octets = nanoseconds_text octets
covered_text T.Ipv4Address octets = ipv4_text octets
covered_text T.Ipv6Address octets = ipv6_text octets
covered_text T.OctetArray octets = None
covered_text T.Float32 octets = None
covered_text T.Float64 octets = None
covered_text T.BasicList octets = None
covered_text T.SubTemplateList octets = None
covered_text T.SubTemplateMultiList octets = None

-- the text of a value; no type stands for an element that no table has
unfoldable pub value_text : Option ElementType → List ℕ → List ℕ
value_text None octets = octet_text octets
value_text (Some kind) octets = unwrap_or (covered_text kind octets) (octet_text octets)
