-- The lines and views of runs over the example messages.
use Rattle.std.specs.Prelude.{ℕ, true, false, List, [], ◌∷◌, ◌++◌}
use Rattle.config_spec.specs.declared.conf.Conf.{Conf}
use Rattle.config_spec.specs.declared.conf.OutputKind.TheVariants.{Json, Ipfix}
use Rattle.config_spec.specs.declared.conf.StageWork.TheVariants.{Filter}
use Rattle.config_spec.specs.declared.domains.DomainSet.TheVariants.{All}
use Rattle.config_spec.specs.declared.tables.Test.TheVariants.{Prefix}
use Rattle.template_spec.specs.Times.{single}
use Rattle.run_spec.specs.Work.{Item}
use Rattle.run_spec.specs.Work.Item.{Data}
use Rattle.run_spec.specs.Examples.{one_value}
use Rattle.result_spec.specs.Examples.{in_a, output, with_outputs}
use Rattle.text_spec.specs.declared.element.Element.{Element}
use Rattle.text_spec.specs.Builtin.{builtin_rows}
use Rattle.text_spec.specs.Examples.{enterprise_row, line}

-- the built-in elements, and one of an enterprise
abbrev pub more_rows : List Element
more_rows = builtin_rows ++ enterprise_row ∷ []

abbrev pub flow_line : List ℕ
flow_line = line "{\"@type\":\"ipfix.entry\",\"iana:sourceIPv4Address\":\"10.0.0.1\",\"iana:destinationIPv4Address\":\"10.0.0.2\",\"iana:octetDeltaCount\":1000}"

abbrev pub name_line : List ℕ
name_line = line "{\"@type\":\"ipfix.entry\",\"iana:interfaceName\":\"abc\"}"

abbrev pub source_line : List ℕ
source_line = line "{\"@type\":\"ipfix.entry\",\"iana:sourceIPv4Address\":\"10.0.0.1\"}"

abbrev pub destination_line : List ℕ
destination_line = line "{\"@type\":\"ipfix.entry\",\"iana:destinationIPv4Address\":\"10.0.0.2\"}"

-- other addresses of these elements, and of a next hop
abbrev pub second_source_line : List ℕ
second_source_line = line "{\"@type\":\"ipfix.entry\",\"iana:sourceIPv4Address\":\"10.0.0.2\"}"

abbrev pub fourth_line : List ℕ
fourth_line = line "{\"@type\":\"ipfix.entry\",\"iana:sourceIPv4Address\":\"10.0.0.4\"}"

abbrev pub first_destination_line : List ℕ
first_destination_line = line "{\"@type\":\"ipfix.entry\",\"iana:destinationIPv4Address\":\"10.0.0.1\"}"

abbrev pub next_hop_line : List ℕ
next_hop_line = line "{\"@type\":\"ipfix.entry\",\"iana:ipNextHopIPv4Address\":\"10.0.0.1\"}"

abbrev pub repeated_line : List ℕ
repeated_line = line "{\"@type\":\"ipfix.entry\",\"iana:octetDeltaCount\":[5,6],\"en9:id7\":\"0xabcd\"}"

abbrev pub named_line : List ℕ
named_line = line "{\"@type\":\"ipfix.entry\",\"iana:octetDeltaCount\":[5,6],\"cisco:thing\":43981}"

abbrev pub options_line : List ℕ
options_line = line "{\"@type\":\"ipfix.options\",\"iana:observationDomainId\":1,\"iana:ingressInterface\":7}"

-- a filter that drops source addresses in 10.1.0.0/16, before lines and a file
abbrev pub filtered : Conf
filtered = with_outputs (record { name = []; work = Filter (record { rules = record { pen = 0; id = 8; test = Prefix (record { octets = 10 ∷ 1 ∷ 0 ∷ 0 ∷ []; bits = 16 }); keep = false } ∷ []; default_keep = true }) } ∷ [])
    (output (Json true) All ∷ output (Ipfix 65535) All ∷ [])

-- a set with 10.1.2.3 and 10.2.0.1, what is left of it, and the file of that
abbrev pub two_addresses : Item
two_addresses = Data in_a 1 100 0 (record { id = 300; definition = single 8; records = one_value (10 ∷ 1 ∷ 2 ∷ 3 ∷ []) ∷ one_value (10 ∷ 2 ∷ 0 ∷ 1 ∷ []) ∷ [] } ∷ [])

abbrev pub second_line : List ℕ
second_line = line "{\"@type\":\"ipfix.entry\",\"iana:sourceIPv4Address\":\"10.2.0.1\"}"

abbrev pub second_file : List ℕ
second_file = 0 ∷ 10 ∷ 0 ∷ 28 ∷ 0 ∷ 0 ∷ 0 ∷ 100 ∷ 0 ∷ 0 ∷ 0 ∷ 0 ∷ 0 ∷ 0 ∷ 0 ∷ 1 ∷ 0 ∷ 2 ∷ 0 ∷ 12 ∷ 1 ∷ 0 ∷ 0 ∷ 1 ∷ 0 ∷ 8 ∷ 0 ∷ 4
    ∷ 0 ∷ 10 ∷ 0 ∷ 24 ∷ 0 ∷ 0 ∷ 0 ∷ 100 ∷ 0 ∷ 0 ∷ 0 ∷ 0 ∷ 0 ∷ 0 ∷ 0 ∷ 1 ∷ 1 ∷ 0 ∷ 0 ∷ 8 ∷ 10 ∷ 2 ∷ 0 ∷ 1 ∷ []

-- what people read of a file of the first message, and of one whose message has no records
abbrev pub flow_view : List ℕ
flow_view = line "session 0/0 open file"
    ++ line "message 0/0 domain 1 export 100 sequence 0 records 1"
    ++ line "  template 256 records 1"
    ++ line "    iana:sourceIPv4Address=\"10.0.0.1\" iana:destinationIPv4Address=\"10.0.0.2\" iana:octetDeltaCount=1000"
    ++ line "session 0/0 close"

abbrev pub skipped_view : List ℕ
skipped_view = line "session 0/0 open file" ++ line "session 0/0 close"
