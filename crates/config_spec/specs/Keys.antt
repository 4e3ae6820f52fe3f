-- The versions of a description, the kinds and the keys of its tables by version, and what their values have to be. A
-- later version adds its rows here, and changes none of those before.
use Rattle.std.specs.Prelude.{ℕ, Bool, true, List, [], ◌∷◌, length, codes}
use Rattle.config_spec.specs.declared.key.Version.{Version}
use Rattle.config_spec.specs.declared.key.Version.TheVariants as V
use Rattle.config_spec.specs.declared.key.Key.{Key}
use Rattle.config_spec.specs.declared.key.Key.TheVariants as K
use Rattle.config_spec.specs.declared.key.TableKind.{TableKind}
use Rattle.config_spec.specs.declared.key.TableKind.TheVariants as T
use Rattle.config_spec.specs.declared.key.TableSort.{TableSort}
use Rattle.config_spec.specs.declared.key.TableSort.TheVariants as Sort
use Rattle.config_spec.specs.declared.key.Choice.{Choice}
use Rattle.config_spec.specs.declared.key.Choice.TheVariants.{By, Always}
use Rattle.config_spec.specs.declared.key_row.KeyRow.{KeyRow}
use Rattle.config_spec.specs.declared.key_row.Shape.{Shape}
use Rattle.config_spec.specs.declared.key_row.Shape.TheVariants as S
use Rattle.config_spec.specs.declared.key_row.Need.TheVariants as N

-- the versions, from 1 on
abbrev pub versions : List Version
versions = V.One ∷ []

-- a key as it is written
unfoldable pub word_of : Key → List ℕ
word_of K.Version = codes "version"
word_of K.Ring = codes "ring"
word_of K.Slots = codes "slots"
word_of K.OrderLog = codes "order-log"
word_of K.Elements = codes "elements"
word_of K.Input = codes "input"
word_of K.Intermediate = codes "intermediate"
word_of K.Output = codes "output"
word_of K.Kind = codes "kind"
word_of K.Name = codes "name"
word_of K.Path = codes "path"
word_of K.Listen = codes "listen"
word_of K.StopAfter = codes "stop-after"
word_of K.TemplateLifetime = codes "template-lifetime"
word_of K.OptionsLifetime = codes "options-lifetime"
word_of K.Late = codes "late"
word_of K.Idle = codes "idle"
word_of K.Default = codes "default"
word_of K.Rule = codes "rule"
word_of K.Pen = codes "pen"
word_of K.Id = codes "id"
word_of K.Test = codes "test"
word_of K.Act = codes "act"
word_of K.Value = codes "value"
word_of K.Low = codes "low"
word_of K.High = codes "high"
word_of K.Field = codes "field"
word_of K.Cut4 = codes "cut4"
word_of K.Cut6 = codes "cut6"
word_of K.Row = codes "row"
word_of K.From = codes "from"
word_of K.To = codes "to"
word_of K.OdidOnly = codes "odid-only"
word_of K.OdidExcept = codes "odid-except"
word_of K.Options = codes "options"
word_of K.LastTemplateId = codes "last-template-id"

-- the word that chooses a kind. Kinds of tables that aren't chosen have none
unfoldable pub kind_word : TableKind → List ℕ
kind_word T.File = codes "file"
kind_word T.Tcp = codes "tcp"
kind_word T.Udp = codes "udp"
kind_word T.Filter = codes "filter"
kind_word T.Anonymise = codes "anonymise"
kind_word T.Present = codes "present"
kind_word T.Equal = codes "equal"
kind_word T.Between = codes "between"
kind_word T.Prefix = codes "prefix"
kind_word T.Json = codes "json"
kind_word T.Ipfix = codes "ipfix"
kind_word T.View = codes "view"
kind_word T.Top = []
kind_word T.SingleTop = []
kind_word T.Field = []
kind_word T.Row = []

-- what decides the kind of a table
abbrev pub choice_of : TableSort → Choice
choice_of Sort.Input = By K.Kind
choice_of Sort.Intermediate = By K.Kind
choice_of Sort.Output = By K.Kind
choice_of Sort.Rule = By K.Test
choice_of Sort.Field = Always T.Field
choice_of Sort.Row = Always T.Row

-- the kinds that a word chooses from
unfoldable pub kinds_of : Version → TableSort → List TableKind
kinds_of V.One Sort.Input = T.File ∷ T.Tcp ∷ T.Udp ∷ []
kinds_of V.One Sort.Intermediate = T.Filter ∷ T.Anonymise ∷ []
kinds_of V.One Sort.Output = T.Json ∷ T.Ipfix ∷ T.View ∷ []
kinds_of V.One Sort.Rule = T.Present ∷ T.Equal ∷ T.Between ∷ T.Prefix ∷ []
kinds_of V.One Sort.Field = []
kinds_of V.One Sort.Row = []

-- the arrays of tables in a table of a kind, in their order
unfoldable pub children_of : Version → TableKind → List (Key × TableSort)
children_of V.One T.Top = (K.Input, Sort.Input) ∷ (K.Intermediate, Sort.Intermediate) ∷ (K.Output, Sort.Output) ∷ []
children_of V.One T.SingleTop = (K.Input, Sort.Input) ∷ (K.Intermediate, Sort.Intermediate) ∷ (K.Output, Sort.Output) ∷ []
children_of V.One T.Filter = (K.Rule, Sort.Rule) ∷ []
children_of V.One T.Anonymise = (K.Field, Sort.Field) ∷ (K.Row, Sort.Row) ∷ []
children_of V.One _ = []

abbrev pub required : Key → Shape → KeyRow
required key shape = record { key = key; shape = shape; need = N.Required }

abbrev pub optional : Key → Shape → KeyRow
optional key shape = record { key = key; shape = shape; need = N.Optional }

-- a number from the first to the second, and what stands for it where it is left out
abbrev pub number : Key → ℕ → ℕ → ℕ → KeyRow
number key low high default = record { key = key; shape = S.Number low high; need = N.Number default }

abbrev pub flag : Key → Shape → Bool → KeyRow
flag key shape default = record { key = key; shape = shape; need = N.Flag default }

-- 2 ^ 63 - 1
abbrev pub most : ℕ
most = 9223372036854775807

abbrev pub seconds : Key → ℕ → KeyRow
seconds key default = number key 1 1000000000 default

abbrev pub version : KeyRow
version = required K.Version (S.Number 1 (length versions))

abbrev pub ring : KeyRow
ring = number K.Ring 1 4096 256

abbrev pub slots : KeyRow
slots = number K.Slots 1 65536 65536

abbrev pub order_log : KeyRow
order_log = optional K.OrderLog S.Place

abbrev pub elements : KeyRow
elements = optional K.Elements (S.Places 16)

abbrev pub input : KeyRow
input = optional K.Input (S.Tables 0 16)

abbrev pub intermediate : KeyRow
intermediate = optional K.Intermediate (S.Tables 0 16)

abbrev pub output : KeyRow
output = optional K.Output (S.Tables 0 32)

abbrev pub kind : KeyRow
kind = required K.Kind S.Chosen

abbrev pub name : KeyRow
name = required K.Name S.Name

abbrev pub path : KeyRow
path = required K.Path S.Place

abbrev pub listen : KeyRow
listen = required K.Listen S.Place

abbrev pub stop_after : KeyRow
stop_after = number K.StopAfter 0 most 0

abbrev pub template_lifetime : KeyRow
template_lifetime = seconds K.TemplateLifetime 1800

abbrev pub options_lifetime : KeyRow
options_lifetime = seconds K.OptionsLifetime 1800

abbrev pub late : KeyRow
late = seconds K.Late 1800

abbrev pub idle : KeyRow
idle = seconds K.Idle 600

abbrev pub default_act : KeyRow
default_act = flag K.Default S.Act true

abbrev pub rule : KeyRow
rule = optional K.Rule (S.Tables 0 1024)

abbrev pub pen : KeyRow
pen = number K.Pen 0 4294967295 0

abbrev pub id : KeyRow
id = required K.Id (S.Number 0 32767)

abbrev pub test : KeyRow
test = required K.Test S.Chosen

abbrev pub act : KeyRow
act = required K.Act S.Act

abbrev pub value : KeyRow
value = required K.Value (S.Number 0 most)

abbrev pub value_prefix : KeyRow
value_prefix = required K.Value S.Prefix

abbrev pub low : KeyRow
low = required K.Low (S.Number 0 most)

abbrev pub high : KeyRow
high = required K.High (S.From K.Low most)

abbrev pub field : KeyRow
field = required K.Field (S.Tables 1 64)

abbrev pub cut4 : KeyRow
cut4 = number K.Cut4 0 32 32

abbrev pub cut6 : KeyRow
cut6 = number K.Cut6 0 128 128

abbrev pub row_of_rows : KeyRow
row_of_rows = optional K.Row (S.Tables 0 4096)

abbrev pub from : KeyRow
from = required K.From S.Prefix

abbrev pub to : KeyRow
to = required K.To (S.Like K.From)

abbrev pub odid_only : KeyRow
odid_only = optional K.OdidOnly S.Domains

abbrev pub odid_except : KeyRow
odid_except = optional K.OdidExcept (S.DomainsWithout K.OdidOnly)

abbrev pub options : KeyRow
options = flag K.Options S.Flag true

abbrev pub last_template_id : KeyRow
last_template_id = number K.LastTemplateId 256 65535 65535

-- the keys of a table of a kind, in their order
unfoldable pub rows_of : Version → TableKind → List KeyRow
rows_of V.One T.Top = version ∷ ring ∷ slots ∷ order_log ∷ elements ∷ input ∷ intermediate ∷ output ∷ []
rows_of V.One T.SingleTop = version ∷ ring ∷ slots ∷ elements ∷ input ∷ intermediate ∷ output ∷ []
rows_of V.One T.File = kind ∷ name ∷ path ∷ stop_after ∷ []
rows_of V.One T.Tcp = kind ∷ name ∷ listen ∷ stop_after ∷ []
rows_of V.One T.Udp = kind ∷ name ∷ listen ∷ stop_after ∷ template_lifetime ∷ options_lifetime ∷ late ∷ idle ∷ []
rows_of V.One T.Filter = kind ∷ name ∷ default_act ∷ rule ∷ []
rows_of V.One T.Anonymise = kind ∷ name ∷ field ∷ cut4 ∷ cut6 ∷ row_of_rows ∷ []
rows_of V.One T.Present = pen ∷ id ∷ test ∷ act ∷ []
rows_of V.One T.Equal = pen ∷ id ∷ test ∷ act ∷ value ∷ []
rows_of V.One T.Between = pen ∷ id ∷ test ∷ act ∷ low ∷ high ∷ []
rows_of V.One T.Prefix = pen ∷ id ∷ test ∷ act ∷ value_prefix ∷ []
rows_of V.One T.Field = pen ∷ id ∷ []
rows_of V.One T.Row = from ∷ to ∷ []
rows_of V.One T.Json = kind ∷ name ∷ path ∷ odid_only ∷ odid_except ∷ options ∷ []
rows_of V.One T.Ipfix = kind ∷ name ∷ path ∷ odid_only ∷ odid_except ∷ last_template_id ∷ []
rows_of V.One T.View = kind ∷ name ∷ path ∷ odid_only ∷ odid_except ∷ []
