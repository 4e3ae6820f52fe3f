-- Places whose sources went out, and came back.
use Rattle.std.specs.Prelude.{ℕ, ◌≡◌, ◌+◌, ◌≤◌, ◌<◌, true, false, List, [], ◌∷◌, ◌++◌, Result, Ok, Err, Option, IsSome, map, drop, length, take}
use Rattle.arrival_spec.specs.declared.event.Scripted.{Scripted}
use Rattle.config_spec.specs.declared.conf.InputConf.{InputConf}
use Rattle.site_io.specs.Seen.{Seen, PlaceSeen, SourceGoesOut}
use Rattle.call_spec.specs.Names.{times, has}
use Rattle.call_spec.specs.Counts.{PlaceKept}
use Rattle.call_spec.specs.Leaves.{KeepsLeft}
use Rattle.site_openings.specs.declared.stopped.Stopped.{Stopped}
use Rattle.site_openings.specs.declared.stopped.Stopped.TheVariants.{At, Memory}
use Rattle.site_openings.specs.Out.{AllOut, AllBack}

abbrev pub places_of : List InputConf → List (List ℕ)
places_of confs = map (λ (c : InputConf). c.spec.place) confs

-- what a place shows
abbrev pub place_left : PlaceSeen → Option (List Scripted)
place_left x = x.left

abbrev pub place_faults : PlaceSeen → ℕ
place_faults x = x.faults

abbrev pub place_openings : PlaceSeen → ℕ
place_openings x = x.openings

abbrev pub place_out : PlaceSeen → ℕ
place_out x = x.out

-- nothing but places changed
pub record ChangesPlaces (old new : Seen) : Type 0 where
  pub texts : new.text ≡ old.text
  pub sinks : new.sink ≡ old.sink
  pub say : new.say ≡ old.say

-- what was left stays
abbrev pub all_left : List Scripted → List Scripted
all_left events = events

module _ {S : Type 0} (left : S → Option (List Scripted)) (faults : S → ℕ) where
  -- the sources of these places went out, each with what its place had left
  pub record SourcesOut (places : List (List ℕ)) (sources : List S) (old new : Seen) : Type 0 where
    pub all : AllOut place_left place_faults place_openings place_out left faults all_left places sources old.place new.place
    pub told : (p : List ℕ) → IsSome (old.place p).left → IsSome (new.place p).left
    pub rest : ChangesPlaces old new

  -- the sources of these places came back
  pub record SourcesBack (places : List (List ℕ)) (sources : List S) (old new : Seen) : Type 0 where
    pub all : AllBack place_left place_faults place_openings place_out left faults places sources old.place new.place
    pub rest : ChangesPlaces old new

  -- a source went out and stands behind those before it, or was refused
  abbrev pub OpensSource : ℕ → List S → List S → PlaceSeen → PlaceSeen → Result (Unit {0}) Stopped → Type 0
  OpensSource number sources now_sources old new (Ok done) = (source : S) × SourceGoesOut old new (left source) (faults source) × (now_sources ≡ sources ++ source ∷ [])
  OpensSource number sources now_sources old new (Err Memory) = (now_sources ≡ sources) × ((n : ℕ) × (n ≤ 1) × PlaceKept n false old new × KeepsLeft old new)
  OpensSource number sources now_sources old new (Err (At i)) = (i ≡ number) × (now_sources ≡ sources) × PlaceKept 1 true old new × KeepsLeft old new

-- so many of a list were tried where it stopped
abbrev pub IsTried : ℕ → ℕ → Stopped → Type 0
IsTried n all (At i) = (n ≡ i + 1) × (i < all)
IsTried n all Memory = n ≤ all

-- the name that was refused
abbrev pub stopped_name : List (List ℕ) → Stopped → List (List ℕ)
stopped_name names (At i) = take 1 (drop i names)
stopped_name names Memory = []

-- the opening of sources stopped, and what went out came back
pub record SourcesStopped (n : ℕ) (places : List (List ℕ)) (stopped : Stopped) (old new : Seen) : Type 0 where
  pub tried : IsTried n (length places) stopped
  pub counts : (p : List ℕ) → PlaceKept (times p (take n places)) (has p (stopped_name places stopped)) (old.place p) (new.place p)
  pub left : (p : List ℕ) → KeepsLeft (old.place p) (new.place p)
  pub rest : ChangesPlaces old new
