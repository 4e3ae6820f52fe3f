-- The forms of address texts, as relations between a text and the octets that it writes.
use Rattle.std.specs.Prelude.{◌≡◌, ◌↔◌, ℕ, List, false, Some}
use Rattle.std.specs.Net.Grammar.{IsDotted, IsColonHex}
use Rattle.std.specs.Net.Addr.{octets_of}
use Rattle.config_spec.specs.Texts.{address4, has_dot, address6}

-- eight groups of 1 to 4 hexadecimal digits with colons between them, or fewer with one `::` in place of at least
-- one zero group (RFC 4291, section 2.2), without a dotted part
pub record IsGrouped (text octets : List ℕ) : Type 0 where
  pub groups : List ℕ
  pub spelled : IsColonHex text groups
  pub undotted : has_dot text ≡ false
  pub value : octets ≡ octets_of groups

-- four decimal numbers up to 255, without needless zeros and with dots between them: these texts are the IPv4
-- addresses, and no others
abbrev pub DottedAreIpv4 : Type 0
DottedAreIpv4 = (text octets : List ℕ) → (address4 text ≡ Some octets) ↔ IsDotted text octets

-- and those of groups are the IPv6 addresses
abbrev pub GroupedAreIpv6 : Type 0
GroupedAreIpv6 = (text octets : List ℕ) → (address6 text ≡ Some octets) ↔ IsGrouped text octets
