-- Sink names whose sinks went out, and came back.
use Rattle.std.specs.Prelude.{ℕ, ◌≡◌, ◌≤◌, nat_lt, true, false, List, [], ◌∷◌, ◌++◌, Result, Ok, Err, Option, length, take}
use Rattle.site_io.specs.Seen.{Seen, SinkSeen, SinkGoesOut}
use Rattle.call_spec.specs.Names.{times, has}
use Rattle.call_spec.specs.Counts.{SinkKept}
use Rattle.call_spec.specs.Leaves.{KeepsHeld}
use Rattle.site_openings.specs.declared.stopped.Stopped.{Stopped}
use Rattle.site_openings.specs.declared.stopped.Stopped.TheVariants.{At, Memory}
use Rattle.site_openings.specs.Out.{AllOut, AllBack}
use Rattle.site_openings.specs.Places.{IsTried, stopped_name}

-- what a sink name shows
abbrev pub sink_held : SinkSeen → Option (List ℕ)
sink_held x = x.held

abbrev pub sink_faults : SinkSeen → ℕ
sink_faults x = x.faults

abbrev pub sink_openings : SinkSeen → ℕ
sink_openings x = x.openings

abbrev pub sink_out : SinkSeen → ℕ
sink_out x = x.out

-- nothing but sinks changed
pub record ChangesSinks (old new : Seen) : Type 0 where
  pub texts : new.text ≡ old.text
  pub places : new.place ≡ old.place
  pub say : new.say ≡ old.say

-- a sink begins with nothing
abbrev pub nothing_held : List ℕ → List ℕ
nothing_held octets = []

module _ {K : Type 0} (held : K → Option (List ℕ)) (faults : K → ℕ) where
  -- the sinks of these names went out, and hold nothing
  pub record SinksOut (names : List (List ℕ)) (sinks : List K) (old new : Seen) : Type 0 where
    pub all : AllOut sink_held sink_faults sink_openings sink_out held faults nothing_held names sinks old.sink new.sink
    pub rest : ChangesSinks old new

  -- the sinks of these names came back
  pub record SinksBack (names : List (List ℕ)) (sinks : List K) (old new : Seen) : Type 0 where
    pub all : AllBack sink_held sink_faults sink_openings sink_out held faults names sinks old.sink new.sink
    pub rest : ChangesSinks old new

  -- a sink went out and stands behind those before it, or was refused
  abbrev pub OpensSink : ℕ → List K → List K → SinkSeen → SinkSeen → Result (Unit {0}) Stopped → Type 0
  OpensSink number sinks now_sinks old new (Ok done) = (sink : K) × ((total : Option ℕ) × SinkGoesOut old new (held sink) total (faults sink)) × (now_sinks ≡ sinks ++ sink ∷ [])
  OpensSink number sinks now_sinks old new (Err Memory) = (now_sinks ≡ sinks) × ((n : ℕ) × (n ≤ 1) × SinkKept n false old new × KeepsHeld (nat_lt 0 n) old new)
  OpensSink number sinks now_sinks old new (Err (At i)) = (i ≡ number) × (now_sinks ≡ sinks) × SinkKept 1 true old new × KeepsHeld false old new

-- so many were opened where it stopped: all that were tried, but for one that was refused
abbrev pub opened_before : ℕ → Stopped → ℕ
opened_before n (At i) = i
opened_before n Memory = n

-- the opening of sinks stopped, and what went out came back: those may be empty now
pub record SinksStopped (n : ℕ) (names : List (List ℕ)) (stopped : Stopped) (old new : Seen) : Type 0 where
  pub tried : IsTried n (length names) stopped
  pub counts : (p : List ℕ) → SinkKept (times p (take n names)) (has p (stopped_name names stopped)) (old.sink p) (new.sink p)
  pub held : (p : List ℕ) → KeepsHeld (has p (take (opened_before n stopped) names)) (old.sink p) (new.sink p)
  pub rest : ChangesSinks old new
