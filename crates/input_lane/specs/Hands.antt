-- What waits to be given, and its answer.
use Rattle.std.specs.Prelude.{ℕ, ◌≡◌, ◌++◌, List, map, ⊤, Bool}
use Rattle.col_base.specs.declared.base.SessionKey.{SessionKey}
use Rattle.wire_spec.specs.Stream.{is_bad}
use Rattle.arrival_spec.specs.Cutting.{cutting}
use Rattle.std.specs.Arc.{arc_value}
use Rattle.arrival_spec.specs.Arrival.{Arrival}
use Rattle.arrival_spec.specs.Arrival.Arrival.{SessionOpen, Raw, SessionClose, Periodic}
use Rattle.session_table.specs.Table.{Table, open_keys}
use Rattle.session_table.specs.declared.arrival.Arrival.TheVariants as given
use Rattle.input_lane.specs.declared.came.Came.{Came}
use Rattle.input_lane.specs.declared.came.Came.TheVariants as came
use Rattle.input_lane.specs.declared.came.InletAnswer.{InletAnswer}
use Rattle.input_lane.specs.declared.came.InletAnswer.TheVariants as answer

-- the arrival that waits
abbrev pub meant_by : Came → Arrival (List ℕ)
meant_by (came.SessionOpen key transport) = SessionOpen key transport
meant_by (came.Raw key octets) = Raw key (arc_value octets)
meant_by (came.SessionClose key) = SessionClose key
meant_by (came.Periodic input seconds) = Periodic input seconds

abbrev pub meant : List Came → List (Arrival (List ℕ))
meant list = map meant_by list

-- the closings of the sessions that are open
abbrev pub closes_of : Table → List (Arrival (List ℕ))
closes_of sessions = map SessionClose (open_keys sessions)

-- what is still to be given once reading is over: what waits, and the closings
abbrev pub left_by : List Came → Table → List (Arrival (List ℕ))
left_by hand sessions = meant hand ++ closes_of sessions

abbrev pub handed_by : Came → InletAnswer
handed_by (came.SessionOpen key transport) = answer.Got (given.SessionOpen key transport)
handed_by (came.Raw key octets) = answer.Got (given.Raw key octets)
handed_by (came.SessionClose key) = answer.Got (given.SessionClose key)
handed_by (came.Periodic n seconds) = answer.Got (given.Periodic n seconds)

abbrev pub IsHanded : Came → InletAnswer → Type 0
IsHanded x a = a ≡ handed_by x

abbrev pub IsGot : InletAnswer → Type 0
IsGot (answer.Got a) = ⊤
IsGot answer.NoMemory = ⊥
IsGot answer.Nothing = ⊥
IsGot answer.NotYet = ⊥

-- all whole messages of a rest wait, and what is left of it stays
pub record Cuts (key : SessionKey) (old new : List ℕ) (before after : List Came) (broken : Bool) : Type 0 where
  pub hand : meant after ≡ meant before ++ map (Raw key) (cutting old).messages
  pub rest : new ≡ (cutting old).rest
  pub bad : broken ≡ is_bad new
