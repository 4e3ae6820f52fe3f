-- The messages of a session.
use Rattle.std.specs.Prelude.{if◌then◌else◌, List, [], ◌∷◌, flat_map}
use Rattle.col_base.specs.declared.base.SessionKey.{SessionKey}
use Rattle.arrival_spec.specs.Arrival.{Arrival}
use Rattle.arrival_spec.specs.Arrival.Arrival.{SessionOpen, Raw, SessionClose, Periodic}
use Rattle.arrival_spec.specs.Order.{same_key}

abbrev pub message_in : {M : Type 0} → SessionKey → Arrival M → List M
message_in key (Raw k message) = if same_key k key then message ∷ [] else []
message_in key (SessionOpen k transport) = []
message_in key (SessionClose k) = []
message_in key (Periodic input seconds) = []

-- those that arrive in it, in order
abbrev pub messages_in : {M : Type 0} → SessionKey → List (Arrival M) → List M
messages_in key list = flat_map (message_in key) list
