-- What the tables of a description stand for. Each value is total: where a value breaks what is asked of it,
-- the definition of descriptions tells the fault and not the value.
use Rattle.std.specs.Prelude.{ℕ, ℤ, pos, negsuc, max, Bool, false, List, [], ◌∷◌, Option, Some, None, option_and_then, option_map, ◌&&◌, nat_le, if◌then◌else◌}
use Rattle.std.specs.Option.{unwrap_or}
use Rattle.std.specs.Str.{bytes_eq}
use Rattle.toml.specs.Data.{Data, Members, as_bool, as_integer, as_str, as_table}
use Rattle.col_base.specs.declared.base.Transport.{Transport}
use Rattle.col_base.specs.declared.base.Transport.TheVariants as Over
use Rattle.arrival_spec.specs.declared.input.InputSpec.{InputSpec}
use Rattle.config_spec.specs.declared.key.Version.{Version}
use Rattle.config_spec.specs.declared.key.Key.{Key}
use Rattle.config_spec.specs.declared.key.Key.TheVariants as K
use Rattle.config_spec.specs.declared.key.TableKind.{TableKind}
use Rattle.config_spec.specs.declared.key.TableKind.TheVariants as T
use Rattle.config_spec.specs.declared.key.TableSort.{TableSort}
use Rattle.config_spec.specs.declared.key.TableSort.TheVariants as Sort
use Rattle.config_spec.specs.declared.key.Choice.{Choice}
use Rattle.config_spec.specs.declared.key.Choice.TheVariants.{By, Always}
use Rattle.config_spec.specs.declared.key_row.KeyRow.{KeyRow}
use Rattle.config_spec.specs.declared.key_row.Shape.{Shape}
use Rattle.config_spec.specs.declared.key_row.Shape.TheVariants as S
use Rattle.config_spec.specs.declared.key_row.Need.{Need}
use Rattle.config_spec.specs.declared.key_row.Need.TheVariants as N
use Rattle.config_spec.specs.declared.domains.DomainRange.{DomainRange}
use Rattle.config_spec.specs.declared.domains.DomainSet.{DomainSet}
use Rattle.config_spec.specs.declared.domains.DomainSet.TheVariants as D
use Rattle.config_spec.specs.declared.tables.Prefix.{Prefix}
use Rattle.config_spec.specs.declared.tables.Pair.{Pair}
use Rattle.config_spec.specs.declared.tables.Rule.{Rule}
use Rattle.config_spec.specs.declared.tables.Test.{Test}
use Rattle.config_spec.specs.declared.tables.Test.TheVariants as Is
use Rattle.config_spec.specs.declared.tables.AnonRow.{AnonRow}
use Rattle.config_spec.specs.declared.tables.AnonTable.{AnonTable}
use Rattle.config_spec.specs.declared.tables.FilterTable.{FilterTable}
use Rattle.config_spec.specs.declared.conf.Conf.{Conf}
use Rattle.config_spec.specs.declared.conf.InputConf.{InputConf}
use Rattle.config_spec.specs.declared.conf.StageConf.{StageConf}
use Rattle.config_spec.specs.declared.conf.StageWork.{StageWork}
use Rattle.config_spec.specs.declared.conf.StageWork.TheVariants as W
use Rattle.config_spec.specs.declared.conf.OutputConf.{OutputConf}
use Rattle.config_spec.specs.declared.conf.OutputKind.{OutputKind}
use Rattle.config_spec.specs.declared.conf.OutputKind.TheVariants as O
use Rattle.config_spec.specs.Texts.{address, prefix}
use Rattle.config_spec.specs.Domains.{domains}
use Rattle.config_spec.specs.Keys as row
use Rattle.config_spec.specs.Fits.{value_at, text_found, text_at, least_at, keep_word}
use Rattle.config_spec.specs.Faults.{kind_named, items_at, version_of}

abbrev pub default_of : Need → ℕ
default_of (N.Number n) = n
default_of _ = 0

abbrev pub number_within : ℕ → ℕ → ℕ → Option ℤ → ℕ
number_within low high default (Some (pos n)) = if nat_le low n && nat_le n high then n else default
number_within low high default (Some (negsuc n)) = default
number_within low high default None = default

abbrev pub shape_number : Members → Shape → ℕ → Option ℤ → ℕ
shape_number entries (S.Number low high) default found = number_within low high default found
shape_number entries (S.From key high) default found = number_within (least_at key entries) high default found
shape_number entries _ default found = default

-- the most that the number at a row's key can be
abbrev pub shape_most : Shape → ℕ → ℕ
shape_most (S.Number low high) default = max high default
shape_most (S.From key high) default = max high default
shape_most _ default = default

abbrev pub most_of : KeyRow → ℕ
most_of row = shape_most row.shape (default_of row.need)

-- the whole number at a key, if there is one
abbrev pub integer_at : Key → Members → Option ℤ
integer_at key entries = option_and_then as_integer (value_at key entries)

-- the number at a row's key, or what stands for it
unfoldable pub number_of : KeyRow → Members → ℕ
number_of row entries = shape_number entries row.shape (default_of row.need) (integer_at row.key entries)

abbrev pub flag_default : Need → Bool
flag_default (N.Flag default) = default
flag_default _ = false

-- true or false at a row's key, or what stands for it
unfoldable pub flag_of : KeyRow → Members → Bool
flag_of row entries = unwrap_or (option_and_then as_bool (value_at row.key entries)) (flag_default row.need)

-- whether a row's key says `keep`, or what stands for it
unfoldable pub keeps : KeyRow → Members → Bool
keeps row entries = unwrap_or (option_map (λ text. bytes_eq text keep_word) (text_found row.key entries)) (flag_default row.need)

abbrev pub no_prefix : Prefix
no_prefix = record { octets = []; bits = 0 }

unfoldable pub prefix_at : Key → Members → Prefix
prefix_at key entries = unwrap_or (prefix (text_at key entries)) no_prefix

unfoldable pub address_at : Key → Members → List ℕ
address_at key entries = unwrap_or (address (text_at key entries)) []

abbrev pub ranges_in : List ℕ → List DomainRange
ranges_in text = unwrap_or (domains text) []

abbrev pub domain_set : Option (List ℕ) → Option (List ℕ) → DomainSet
domain_set (Some only) except = D.Only (ranges_in only)
domain_set None (Some except) = D.Except (ranges_in except)
domain_set None None = D.All

-- the domains of an output
unfoldable pub domains_of : Members → DomainSet
domains_of entries = domain_set (text_found K.OdidOnly entries) (text_found K.OdidExcept entries)

abbrev pub chosen : Version → TableSort → Members → Choice → TableKind
chosen version sort entries (By key) = unwrap_or (kind_named (row.kinds_of version sort) (text_at key entries)) T.Top
chosen version sort entries (Always kind) = kind

-- the kind of a table that has one
unfoldable pub kind_at : Version → TableSort → Members → TableKind
kind_at version sort entries = chosen version sort entries (row.choice_of sort)

abbrev pub put_table : {X : Type 0} → (Members → X) → Option Members → List X → List X
put_table value None more = more
put_table value (Some entries) more = value entries ∷ more

-- what the tables among some values stand for
abbrev pub each_table : {X : Type 0} → (Members → X) → List Data → List X
each_table value [] = []
each_table value (found ∷ more) = put_table value (as_table found) (each_table value more)

-- what the tables in the array at a key stand for
unfoldable pub tables_at : {X : Type 0} → (Members → X) → Key → Members → List X
tables_at value key entries = each_table value (items_at key entries)

abbrev pub put_text : Option (List ℕ) → List (List ℕ) → List (List ℕ)
put_text None more = more
put_text (Some text) more = text ∷ more

abbrev pub each_text : List Data → List (List ℕ)
each_text [] = []
each_text (found ∷ more) = put_text (as_str found) (each_text more)

-- the texts in the array at a key
unfoldable pub texts_at : Key → Members → List (List ℕ)
texts_at key entries = each_text (items_at key entries)

-- an element
unfoldable pub pair_of : Members → Pair
pair_of entries = record { pen = number_of row.pen entries; id = number_of row.id entries }

abbrev pub test_in : TableKind → Members → Test
test_in T.Equal entries = Is.Equal (number_of row.value entries)
test_in T.Between entries = Is.Between (number_of row.low entries) (number_of row.high entries)
test_in T.Prefix entries = Is.Prefix (prefix_at K.Value entries)
test_in _ entries = Is.Present

-- a rule of a filter
unfoldable pub rule_of : Version → Members → Rule
rule_of version entries = record {
  pen = number_of row.pen entries;
  id = number_of row.id entries;
  test = test_in (kind_at version Sort.Rule entries) entries;
  keep = keeps row.act entries;
}

-- a row of an anonymiser
unfoldable pub anon_row_of : Members → AnonRow
anon_row_of entries = record { from = prefix_at K.From entries; to = address_at K.To entries }

abbrev pub anon_table_of : Members → AnonTable
anon_table_of entries = record {
  fields = tables_at pair_of K.Field entries;
  cut4 = number_of row.cut4 entries;
  cut6 = number_of row.cut6 entries;
  rows = tables_at anon_row_of K.Row entries;
}

abbrev pub filter_table_of : Version → Members → FilterTable
filter_table_of version entries = record { rules = tables_at (rule_of version) K.Rule entries; default_keep = keeps row.default_act entries }

abbrev pub work_in : Version → TableKind → Members → StageWork
work_in version T.Anonymise entries = W.Anonymise (anon_table_of entries)
work_in version _ entries = W.Filter (filter_table_of version entries)

-- an intermediate
unfoldable pub stage_of : Version → Members → StageConf
stage_of version entries = record { name = text_at K.Name entries; work = work_in version (kind_at version Sort.Intermediate entries) entries }

abbrev pub transport_in : TableKind → Transport
transport_in T.Tcp = Over.Tcp
transport_in T.Udp = Over.Udp
transport_in _ = Over.File

abbrev pub place_in : TableKind → Members → List ℕ
place_in T.Tcp entries = text_at K.Listen entries
place_in T.Udp entries = text_at K.Listen entries
place_in _ entries = text_at K.Path entries

-- where an input's events come from
unfoldable pub spec_of : Version → Members → InputSpec
spec_of version entries = record {
  name = text_at K.Name entries;
  transport = transport_in (kind_at version Sort.Input entries);
  place = place_in (kind_at version Sort.Input entries) entries;
}

-- an input
unfoldable pub input_of : Version → Members → InputConf
input_of version entries = record {
  spec = spec_of version entries;
  stop_after = number_of row.stop_after entries;
  life = record {
    template = number_of row.template_lifetime entries;
    options = number_of row.options_lifetime entries;
    late = number_of row.late entries;
  };
  idle = number_of row.idle entries;
}

abbrev pub output_in : TableKind → Members → OutputKind
output_in T.Json entries = O.Json (flag_of row.options entries)
output_in T.Ipfix entries = O.Ipfix (number_of row.last_template_id entries)
output_in _ entries = O.View

-- an output
unfoldable pub output_of : Version → Members → OutputConf
output_of version entries = record {
  name = text_at K.Name entries;
  path = text_at K.Path entries;
  kind = output_in (kind_at version Sort.Output entries) entries;
  domains = domains_of entries;
}

abbrev pub order_log_of : Members → Option (List ℕ)
order_log_of entries = text_found K.OrderLog entries

-- the description of a top table of a version
unfoldable pub conf_in : Version → Members → Conf
conf_in version entries = record {
  ring = number_of row.ring entries;
  slots = number_of row.slots entries;
  order_log = order_log_of entries;
  elements = texts_at K.Elements entries;
  inputs = tables_at (input_of version) K.Input entries;
  stages = tables_at (stage_of version) K.Intermediate entries;
  outputs = tables_at (output_of version) K.Output entries;
}

-- the description of a top table
abbrev pub conf_of : Members → Conf
conf_of entries = conf_in (version_of entries) entries
