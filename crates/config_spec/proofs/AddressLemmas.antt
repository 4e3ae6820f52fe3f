-- Address texts both ways.
use Rattle.std.proofs.Common.{◌≡◌, ℕ, Bool, true, false, List, [], ◌∷◌, Option, Some, None, refl, ap, append-nil, lit≤, if◌then◌else◌}
use Rattle.std.specs.Prelude.{option_map}
use Rattle.std.specs.Net.Grammar.{IsDotted, IsIpv4Text, IsColonHex, IsIpv6Text}
use Rattle.std.specs.Net.Reader.{read_ipv4, read_ipv6}
use Rattle.std.specs.Net.Addr.{octets_of}
use Rattle.std.specs.declared.net.ipv4_addr.Ipv4Addr.{Ipv4Addr}
use Rattle.std.specs.declared.net.ipv6_addr.Ipv6Addr.{Ipv6Addr}
use Rattle.std.proofs.NetLemmas.Ipv4.{read_ipv4_sound, read_ipv4_complete}
use Rattle.std.proofs.NetLemmas.Ipv6.{read_ipv6_sound, read_ipv6_complete, EndsGroups-nil}
use Rattle.config_spec.specs.Texts.{address4, has_dot, address6, whole}
use Rattle.config_spec.specs.Grammar.{IsGrouped, DottedAreIpv4, GroupedAreIpv6}

pub whole_from : (r : Option (List ℕ × List ℕ)) (octets : List ℕ) → whole r ≡ Some octets → r ≡ Some (octets, [])
whole_from None octets h = absurd (cc)
whole_from (Some (found, [])) octets h = cc
whole_from (Some (found, o ∷ rest)) octets h = absurd (cc)

pub address4_from : (text octets : List ℕ) → IsDotted text octets → address4 text ≡ Some octets
unfolding address4
address4_from text octets h = ap whole (rw append-nil at (read_ipv4_complete text octets [] h (lit≤ tt)))

pub address4_gives : (text octets : List ℕ) → address4 text ≡ Some octets → IsDotted text octets
unfolding address4
address4_gives text octets h =
    let (front, spelled, dotted) = read_ipv4_sound text octets [] (whole_from (read_ipv4 text) octets h) in
    rw (← rw append-nil at spelled) at dotted

pub dotted_are_ipv4 : DottedAreIpv4
dotted_are_ipv4 text octets = (address4_gives text octets, address4_from text octets)

-- where no address is written, there is none
pub address4_none : (text : List ℕ) → ((a : Ipv4Addr) → ¬ (IsIpv4Text text a)) → address4 text ≡ None
address4_none text none = none_when (address4 text) (λ octets h. none (record { octets = octets }) (address4_gives text octets h))
  where
    none_when : (o : Option (List ℕ)) → ((octets : List ℕ) → o ≡ Some octets → ⊥) → o ≡ None
    none_when None h = refl
    none_when (Some octets) h = absurd (h octets refl)

pub address6_from : (text groups : List ℕ) → has_dot text ≡ false → IsColonHex text groups → address6 text ≡ Some (octets_of groups)
unfolding address6
address6_from text groups plain h = rw (plain, rw append-nil at (read_ipv6_complete text groups [] h EndsGroups-nil))

pub address6_dotted : (text : List ℕ) → has_dot text ≡ true → address6 text ≡ None
unfolding address6
address6_dotted text dotted = rw dotted

hex_none : (r : Option (List ℕ × List ℕ)) (none : (groups : List ℕ) → r ≡ Some (groups, []) → ⊥) → whole r ≡ None
hex_none None none = refl
hex_none (Some (groups, [])) none = absurd (none groups refl)
hex_none (Some (groups, o ∷ rest)) none = refl

-- where no address is written, there is none
pub address6_none : (text : List ℕ) → has_dot text ≡ false → ((a : Ipv6Addr) → ¬ (IsIpv6Text text a)) → address6 text ≡ None
unfolding address6
address6_none text plain none =
    let nothing = hex_none (read_ipv6 text) (λ groups e.
    let (front, spelled, hex) = read_ipv6_sound text groups [] e in
    none (record { segments = groups }) (rw (← rw append-nil at spelled) at hex)) in
    rw (plain, nothing)

-- what gave the octets
read_groups : (dotted : Bool) (r : Option (List ℕ × List ℕ)) (octets : List ℕ) →
    (if dotted then None else option_map octets_of (whole r)) ≡ Some octets →
    (dotted ≡ false) × ((groups : List ℕ) × (r ≡ Some (groups, [])) × (octets ≡ octets_of groups))
read_groups true r octets h = absurd (cc)
read_groups false None octets h = absurd (cc)
read_groups false (Some (groups, [])) octets h = (refl, (groups, refl, cc))
read_groups false (Some (groups, o ∷ rest)) octets h = absurd (cc)

address6_gives : (text octets : List ℕ) → address6 text ≡ Some octets → IsGrouped text octets
unfolding address6
address6_gives text octets h =
    let (undotted, (groups, read, value)) = read_groups (has_dot text) (read_ipv6 text) octets h in
    let (front, spelled, hex) = read_ipv6_sound text groups [] read in
    record { groups = groups; spelled = rw (← rw append-nil at spelled) at hex; undotted = undotted; value = value }

grouped_gives : (text octets : List ℕ) → IsGrouped text octets → address6 text ≡ Some octets
grouped_gives text octets h = rw h.value (address6_from text h.groups h.undotted h.spelled)

pub grouped_are_ipv6 : GroupedAreIpv6
grouped_are_ipv6 text octets = (address6_gives text octets, grouped_gives text octets)
