-- Domains that may have nothing yet.
use Rattle.std.specs.Prelude.{[], Option, Some, None}
use Rattle.file_output.specs.Sets.{Domain}

-- a domain of which there is nothing yet
abbrev pub new_domain : Domain
new_domain = record { known = []; sequence = 0 }

abbrev pub domain_or_new : Option Domain → Domain
domain_or_new None = new_domain
domain_or_new (Some d) = d
