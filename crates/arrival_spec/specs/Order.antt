-- Arrivals in order: each session opens once, and its messages and its closing come while it is open.
use Rattle.std.specs.Prelude.{◌==◌, ◌&&◌, not, Bool, true, List, [], ◌∷◌, ◌++◌, fold, filter, flat_map}
use Rattle.std.specs.List.{list_any}
use Rattle.col_base.specs.declared.base.SessionKey.{SessionKey}
use Rattle.arrival_spec.specs.Arrival.{Arrival}
use Rattle.arrival_spec.specs.Arrival.Arrival.{SessionOpen, Raw, SessionClose, Periodic}

abbrev pub same_key : SessionKey → SessionKey → Bool
same_key a b = a.input == b.input && a.number == b.number

-- the session that an arrival opens
abbrev pub opened_in : {M : Type 0} → Arrival M → List SessionKey
opened_in (SessionOpen key transport) = key ∷ []
opened_in (Raw key message) = []
opened_in (SessionClose key) = []
opened_in (Periodic input seconds) = []

-- the sessions that open in some arrivals, in order
abbrev pub opened_keys : {M : Type 0} → List (Arrival M) → List SessionKey
opened_keys list = flat_map opened_in list

-- the sessions that are open after one arrival more
abbrev pub open_by : {M : Type 0} → List SessionKey → Arrival M → List SessionKey
open_by keys (SessionOpen key transport) = keys ++ key ∷ []
open_by keys (Raw key message) = keys
open_by keys (SessionClose key) = filter (λ k. not (same_key k key)) keys
open_by keys (Periodic input seconds) = keys

-- the sessions that are open after some arrivals, in order of opening
abbrev pub open_keys : {M : Type 0} → List (Arrival M) → List SessionKey
open_keys list = fold open_by [] list

abbrev pub has_key : SessionKey → List SessionKey → Bool
has_key key keys = list_any (same_key key) keys

-- an arrival fits where some sessions were opened before, and some of them are open
abbrev pub fits_behind : {M : Type 0} → List SessionKey → List SessionKey → Arrival M → Bool
fits_behind opened keys (SessionOpen key transport) = not (has_key key opened)
fits_behind opened keys (Raw key message) = has_key key keys
fits_behind opened keys (SessionClose key) = has_key key keys
fits_behind opened keys (Periodic input seconds) = true

-- an arrival may come after these
abbrev pub may_come : {M : Type 0} → List (Arrival M) → Arrival M → Bool
may_come before a = fits_behind (opened_keys before) (open_keys before) a

-- each may come after those before it
abbrev pub in_order_after : {M : Type 0} → List (Arrival M) → List (Arrival M) → Bool
in_order_after before [] = true
in_order_after before (a ∷ list) = may_come before a && in_order_after (before ++ a ∷ []) list

abbrev pub are_in_order : {M : Type 0} → List (Arrival M) → Bool
are_in_order list = in_order_after [] list
