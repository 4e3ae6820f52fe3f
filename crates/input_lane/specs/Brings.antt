-- What octets of a connection do to its row, and what waits then.
use Rattle.std.specs.Prelude.{ℕ, ◌≡◌, ◌++◌, if◌then◌else◌, Bool, true, false, List, [], map, find, slice_get, Some, None}
use Rattle.std.specs.Map.{values_of}
use Rattle.indexmap.specs.IndexMap.{set_value_at}
use Rattle.wire_spec.specs.Stream.{is_bad}
use Rattle.arrival_spec.specs.Arrival.Arrival.{Raw}
use Rattle.arrival_spec.specs.Cutting.{Cut, cutting}
use Rattle.arrival_spec.specs.Sessions.{key_of}
use Rattle.input_lane.specs.declared.brought.Brought.{Brought}
use Rattle.input_lane.specs.declared.brought.Brought.TheVariants as brought
use Rattle.input_lane.specs.declared.came.Came.{Came}
use Rattle.input_lane.specs.declared.stream.Stream.{Stream}
use Rattle.input_lane.specs.declared.stream.Stream.TheVariants as stream
use Rattle.input_lane.specs.Hands.{meant}
use Rattle.input_lane.specs.Links.{Link, link_is}

-- the whole messages of a cutting wait
abbrev pub WaitBy : ℕ → ℕ → Cut → List Came → List Came → Type 0
WaitBy input n cut before after = meant after ≡ meant before ++ map (Raw (key_of input n)) cut.messages

-- of a stream
abbrev pub StreamBrings : ℕ → List ℕ → Stream → Stream → List Came → List Came → Brought → Type 0
StreamBrings input octets stream.Dead new before after brought.Dead = (new ≡ stream.Dead) × (meant after ≡ meant before)
StreamBrings input octets stream.Dead new before after brought.Alive = ⊥
StreamBrings input octets stream.Dead new before after brought.Broken = ⊥
StreamBrings input octets (stream.Open n rest) new before after brought.Dead = ⊥
StreamBrings input octets (stream.Open n rest) new before after brought.Alive =
    (is_bad (cutting (rest ++ octets)).rest ≡ false) × (new ≡ stream.Open n (cutting (rest ++ octets)).rest) × WaitBy input n (cutting (rest ++ octets)) before after
StreamBrings input octets (stream.Open n rest) new before after brought.Broken =
    (is_bad (cutting (rest ++ octets)).rest ≡ true) × (new ≡ stream.Dead) × WaitBy input n (cutting (rest ++ octets)) before after

-- of the row of a connection: those with a session go on or break
pub record LinkGrows (input : ℕ) (octets : List ℕ) (old new : Link) (before after : List Came) (bad : Bool) : Type 0 where
  pub number : ℕ
  pub session : old.session ≡ Some number
  pub ends : is_bad (cutting (old.rest ++ octets)).rest ≡ bad
  pub is : new ≡ (if bad then record old { session = None; rest = [] } else record old { rest = (cutting (old.rest ++ octets)).rest })
  pub wait : WaitBy input number (cutting (old.rest ++ octets)) before after

abbrev pub LinkBrings : ℕ → List ℕ → Link → Link → List Came → List Came → Brought → Type 0
LinkBrings input octets old new before after brought.Dead = (old.session ≡ None) × (new ≡ old) × (meant after ≡ meant before)
LinkBrings input octets old new before after brought.Alive = LinkGrows input octets old new before after false
LinkBrings input octets old new before after brought.Broken = LinkGrows input octets old new before after true

-- the row of a connection is now this one
abbrev pub changed_row : ℕ → Link → Link → Link
changed_row c m y = if link_is c y then m else y

-- of all rows: that of the connection changes
pub record Brings (input c : ℕ) (octets : List ℕ) (old new : List Link) (before after : List Came) (b : Brought) : Type 0 where
  pub was : Link
  pub now : Link
  pub found : find (link_is c) old ≡ Some was
  pub rows : new ≡ map (changed_row c now) old
  pub brings : LinkBrings input octets was now before after b

-- of the entry at a place
pub record BringsAt (input : ℕ) (octets : List ℕ) (old new : List (ℕ × Stream)) (i : ℕ) (before after : List Came) (b : Brought) : Type 0 where
  pub was : Stream
  pub now : Stream
  pub found : slice_get (values_of old) i ≡ Some was
  pub entries : new ≡ set_value_at old i now
  pub brings : StreamBrings input octets was now before after b
