-- What is left of a set.
use Rattle.std.specs.Prelude.{ℕ, List, if◌then◌else◌}
use Rattle.std.specs.List.{list_any}
use Rattle.wire_spec.specs.Content.{Definition}
use Rattle.config_spec.specs.declared.conf.StageWork.{StageWork}
use Rattle.pipeline_message.specs.declared.message.Place.{Place}
use Rattle.stage_chain.specs.declared.left.Left.{Left}
use Rattle.stage_chain.specs.Behind.{changes, AreLeft}

-- records stand in copies, if some intermediate changes records
abbrev pub octets_behind : List StageWork → List ℕ → Left → List ℕ
octets_behind works octets left = if list_any changes works then left.octets.items else octets

-- what is left of the records at these places
abbrev pub AreLeftIn : List StageWork → Definition → List ℕ → List Place → Left → Type 0
AreLeftIn works def octets places left = AreLeft works def octets places (octets_behind works octets left) left.places.items
