-- The IDs that the template records of a message define, in order: the tests collect them, to show how a
-- caller walks over a message.
use Rattle.std.specs.Prelude.{ℕ, List, [], ◌∷◌, flat_map}
use Rattle.wire_spec.specs.Content.{Touch, Part}
use Rattle.wire_spec.specs.Content.Touch.{Define, Withdraw, WithdrawAll}
use Rattle.wire_spec.specs.Content.Part.{Touches, Body}

abbrev pub id_of : Touch → List ℕ
id_of (Define id definition) = id ∷ []
id_of (Withdraw id) = []
id_of (WithdrawAll kind) = []

abbrev pub ids_of : Part → List ℕ
ids_of (Touches touches) = flat_map id_of touches
ids_of (Body id body) = []

abbrev pub defined_ids : List Part → List ℕ
defined_ids parts = flat_map ids_of parts
