-- The words of an element table: its keys, and the names of the types (RFC 7012, section 3.1; RFC 6313, section 4.1).
use Rattle.std.specs.Prelude.{ℕ, List, [], ◌∷◌, codes, Option, find}
use Rattle.std.specs.Str.{bytes_eq}
use Rattle.text_spec.specs.declared.element.ElementType.{ElementType}
use Rattle.text_spec.specs.declared.element.ElementType.TheVariants as T
use Rattle.element_spec.specs.declared.key.Key.{Key}
use Rattle.element_spec.specs.declared.key.Key.TheVariants as K

unfoldable pub word_of : Key → List ℕ
word_of K.Element = codes "element"
word_of K.Pen = codes "pen"
word_of K.Id = codes "id"
word_of K.Prefix = codes "prefix"
word_of K.Name = codes "name"
word_of K.Type = codes "type"

-- the keys of a document, and those of a row
abbrev pub document_keys : List Key
document_keys = K.Element ∷ []

abbrev pub row_keys : List Key
row_keys = K.Pen ∷ K.Id ∷ K.Prefix ∷ K.Name ∷ K.Type ∷ []

unfoldable pub type_word : ElementType → List ℕ
type_word T.OctetArray = codes "octetArray"
type_word T.Unsigned8 = codes "unsigned8"
type_word T.Unsigned16 = codes "unsigned16"
type_word T.Unsigned32 = codes "unsigned32"
type_word T.Unsigned64 = codes "unsigned64"
type_word T.Signed8 = codes "signed8"
type_word T.Signed16 = codes "signed16"
type_word T.Signed32 = codes "signed32"
type_word T.Signed64 = codes "signed64"
type_word T.Float32 = codes "float32"
type_word T.Float64 = codes "float64"
type_word T.Boolean = codes "boolean"
type_word T.MacAddress = codes "macAddress"
type_word T.Str = codes "string"
type_word T.DateTimeSeconds = codes "dateTimeSeconds"
type_word T.DateTimeMilliseconds = codes "dateTimeMilliseconds"
type_word T.DateTimeMicroseconds = codes "dateTimeMicroseconds"
type_word T.DateTimeNanoseconds = codes "dateTimeNanoseconds"
type_word T.Ipv4Address = codes "ipv4Address"
type_word T.Ipv6Address = codes "ipv6Address"
type_word T.BasicList = codes "basicList"
type_word T.SubTemplateList = codes "subTemplateList"
type_word T.SubTemplateMultiList = codes "subTemplateMultiList"

abbrev pub all_types : List ElementType
all_types = T.OctetArray ∷ T.Unsigned8 ∷ T.Unsigned16 ∷ T.Unsigned32 ∷ T.Unsigned64
    ∷ T.Signed8 ∷ T.Signed16 ∷ T.Signed32 ∷ T.Signed64 ∷ T.Float32 ∷ T.Float64 ∷ T.Boolean ∷ T.MacAddress ∷ T.Str
    ∷ T.DateTimeSeconds ∷ T.DateTimeMilliseconds ∷ T.DateTimeMicroseconds ∷ T.DateTimeNanoseconds
    ∷ T.Ipv4Address ∷ T.Ipv6Address ∷ T.BasicList ∷ T.SubTemplateList ∷ T.SubTemplateMultiList ∷ []

-- the type among these that has the name
abbrev pub type_named : List ElementType → List ℕ → Option ElementType
type_named types word = find (λ kind. bytes_eq (type_word kind) word) types
