-- The arrival that is worked off again and again.
use Rattle.std.specs.Prelude.{◌≡◌}
use Rattle.col_base.specs.declared.base.SessionKey.{SessionKey}
use Rattle.session_table.specs.declared.arrival.Arrival as given
use Rattle.session_table.specs.declared.arrival.Arrival.TheVariants as gives

-- a message of this session
abbrev pub IsMessageOf : SessionKey → given.Arrival → Type 0
IsMessageOf key (gives.SessionOpen k transport) = ⊥
IsMessageOf key (gives.Raw k octets) = k ≡ key
IsMessageOf key (gives.SessionClose k) = ⊥
IsMessageOf key (gives.Periodic input seconds) = ⊥
IsMessageOf key gives.End = ⊥
