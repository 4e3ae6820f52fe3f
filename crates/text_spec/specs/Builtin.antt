-- The elements that are known without a table: of those that IANA registers, the ones in common use.
use Rattle.std.specs.Prelude.{ℕ, List, [], ◌∷◌, codes}
use Rattle.text_spec.specs.declared.element.Element.{Element}
use Rattle.text_spec.specs.declared.element.ElementType.{ElementType}
use Rattle.text_spec.specs.declared.element.ElementType.TheVariants as T

abbrev pub iana : ℕ → List ℕ → ElementType → Element
iana id name kind = record { pen = 0; id = id; kind = kind; prefix = codes "iana"; name = name }

unfoldable pub builtin_rows : List Element
builtin_rows = iana 1 (codes "octetDeltaCount") T.Unsigned64
    ∷ iana 2 (codes "packetDeltaCount") T.Unsigned64
    ∷ iana 3 (codes "deltaFlowCount") T.Unsigned64
    ∷ iana 4 (codes "protocolIdentifier") T.Unsigned8
    ∷ iana 5 (codes "ipClassOfService") T.Unsigned8
    ∷ iana 6 (codes "tcpControlBits") T.Unsigned16
    ∷ iana 7 (codes "sourceTransportPort") T.Unsigned16
    ∷ iana 8 (codes "sourceIPv4Address") T.Ipv4Address
    ∷ iana 9 (codes "sourceIPv4PrefixLength") T.Unsigned8
    ∷ iana 10 (codes "ingressInterface") T.Unsigned32
    ∷ iana 11 (codes "destinationTransportPort") T.Unsigned16
    ∷ iana 12 (codes "destinationIPv4Address") T.Ipv4Address
    ∷ iana 13 (codes "destinationIPv4PrefixLength") T.Unsigned8
    ∷ iana 14 (codes "egressInterface") T.Unsigned32
    ∷ iana 15 (codes "ipNextHopIPv4Address") T.Ipv4Address
    ∷ iana 16 (codes "bgpSourceAsNumber") T.Unsigned32
    ∷ iana 17 (codes "bgpDestinationAsNumber") T.Unsigned32
    ∷ iana 18 (codes "bgpNextHopIPv4Address") T.Ipv4Address
    ∷ iana 21 (codes "flowEndSysUpTime") T.Unsigned32
    ∷ iana 22 (codes "flowStartSysUpTime") T.Unsigned32
    ∷ iana 27 (codes "sourceIPv6Address") T.Ipv6Address
    ∷ iana 28 (codes "destinationIPv6Address") T.Ipv6Address
    ∷ iana 32 (codes "icmpTypeCodeIPv4") T.Unsigned16
    ∷ iana 56 (codes "sourceMacAddress") T.MacAddress
    ∷ iana 58 (codes "vlanId") T.Unsigned16
    ∷ iana 60 (codes "ipVersion") T.Unsigned8
    ∷ iana 61 (codes "flowDirection") T.Unsigned8
    ∷ iana 80 (codes "destinationMacAddress") T.MacAddress
    ∷ iana 82 (codes "interfaceName") T.Str
    ∷ iana 83 (codes "interfaceDescription") T.Str
    ∷ iana 85 (codes "octetTotalCount") T.Unsigned64
    ∷ iana 86 (codes "packetTotalCount") T.Unsigned64
    ∷ iana 136 (codes "flowEndReason") T.Unsigned8
    ∷ iana 148 (codes "flowId") T.Unsigned64
    ∷ iana 149 (codes "observationDomainId") T.Unsigned32
    ∷ iana 150 (codes "flowStartSeconds") T.DateTimeSeconds
    ∷ iana 151 (codes "flowEndSeconds") T.DateTimeSeconds
    ∷ iana 152 (codes "flowStartMilliseconds") T.DateTimeMilliseconds
    ∷ iana 153 (codes "flowEndMilliseconds") T.DateTimeMilliseconds
    ∷ iana 154 (codes "flowStartMicroseconds") T.DateTimeMicroseconds
    ∷ iana 155 (codes "flowEndMicroseconds") T.DateTimeMicroseconds
    ∷ iana 156 (codes "flowStartNanoseconds") T.DateTimeNanoseconds
    ∷ iana 157 (codes "flowEndNanoseconds") T.DateTimeNanoseconds
    ∷ iana 210 (codes "paddingOctets") T.OctetArray
    ∷ []
