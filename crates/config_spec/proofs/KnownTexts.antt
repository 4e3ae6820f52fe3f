-- The known texts are what the definitions say: each by computation.
use Rattle.std.proofs.Common.{refl}
use Rattle.std.specs.Net.Reader.{read_number, read_octet, read_ipv4, read_segment, read_segments, read_ipv6}
use Rattle.config_spec.specs.Texts.{number_text, address4, address6, address, cut, prefix}
use Rattle.config_spec.specs.Domains.{range_of, domains}
use Rattle.config_spec.specs.Examples.{AddressesHaveOctets, OthersAreNoAddresses, PrefixesAreCut, OthersAreNoPrefixes, DomainTextsAreRanges}

pub domain_texts_are_ranges : DomainTextsAreRanges
unfolding domains range_of cut number_text
domain_texts_are_ranges = refl

pub addresses_have_octets : AddressesHaveOctets
unfolding read_ipv4 read_octet read_number read_ipv6 read_segments read_segment prefix cut address address4 address6 number_text
addresses_have_octets = refl

pub others_are_no_addresses : OthersAreNoAddresses
unfolding read_ipv4 read_octet read_number read_ipv6 read_segments read_segment prefix cut address address4 address6 number_text
others_are_no_addresses = refl

pub prefixes_are_cut : PrefixesAreCut
unfolding read_ipv4 read_octet read_number read_ipv6 read_segments read_segment prefix cut address address4 address6 number_text
prefixes_are_cut = refl

pub others_are_no_prefixes : OthersAreNoPrefixes
unfolding read_ipv4 read_octet read_number read_ipv6 read_segments read_segment prefix cut address address4 address6 number_text
others_are_no_prefixes = refl
