-- Domain texts, and the domains of a set (RFC 7011, section 3.1).
use Rattle.std.specs.Prelude.{ℕ, Bool, true, not, ◌&&◌, List, [], ◌∷◌, map, Option, Some, None, option_map, nat_le, ◌==◌, length, if◌then◌else◌}
use Rattle.std.specs.List.{list_any, slice_split}
use Rattle.config_spec.specs.declared.domains.DomainRange.{DomainRange}
use Rattle.config_spec.specs.declared.domains.DomainSet.{DomainSet}
use Rattle.config_spec.specs.declared.domains.DomainSet.TheVariants.{All, Only, Except}
use Rattle.config_spec.specs.Texts.{number_text, cut}

abbrev pub is_in_range : ℕ → DomainRange → Bool
is_in_range domain range = nat_le range.low domain && nat_le domain range.high

abbrev pub is_in_some : ℕ → List DomainRange → Bool
is_in_some domain ranges = list_any (is_in_range domain) ranges

-- whether a domain is in the set
abbrev pub has_domain : DomainSet → ℕ → Bool
has_domain All domain = true
has_domain (Only ranges) domain = is_in_some domain ranges
has_domain (Except ranges) domain = not (is_in_some domain ranges)

-- a number up to 2 ^ 32 - 1
abbrev pub domain_text : List ℕ → Option ℕ
domain_text text = number_text 4294967295 text

abbrev pub ordered : Option ℕ → Option ℕ → Option DomainRange
ordered (Some low) (Some high) = if nat_le low high then Some (record { low = low; high = high }) else None
ordered (Some low) None = None
ordered None high = None

abbrev pub single : Option ℕ → Option DomainRange
single (Some domain) = Some (record { low = domain; high = domain })
single None = None

abbrev pub cut_range : List ℕ → Option (List ℕ × List ℕ) → Option DomainRange
cut_range text None = single (domain_text text)
cut_range text (Some parts) = ordered (domain_text parts.0) (domain_text parts.1)

-- a number, or two joined by `-`, the first not above the second
unfoldable pub range_of : List ℕ → Option DomainRange
range_of text = cut_range text (cut 45 text)

abbrev pub put_first : DomainRange → Option (List DomainRange) → Option (List DomainRange)
put_first range more = option_map (λ ranges. range ∷ ranges) more

-- all of them, where each is there
abbrev pub all_there : List (Option DomainRange) → Option (List DomainRange)
all_there [] = Some []
all_there (None ∷ more) = None
all_there (Some range ∷ more) = put_first range (all_there more)

abbrev pub pieces : List ℕ → List (List ℕ)
pieces text = slice_split (λ o. o == 44) text

-- 1 to 64 ranges with commas between
unfoldable pub domains : List ℕ → Option (List DomainRange)
domains text = if nat_le (length (pieces text)) 64 then all_there (map range_of (pieces text)) else None
