-- Names that are opened and given back, each with a thing that goes out under it: places with their sources, and sink
-- names with their sinks.
use Rattle.std.specs.Prelude.{ℕ, ◌≡◌, ◌+◌, ◌≤◌, ◌<◌, nat_lt, Bool, List, Option, Some, IsSome, map}
use Rattle.site_io.specs.Outside.{Rose, one_more}
use Rattle.call_spec.specs.Pairs.{Each}
use Rattle.call_spec.specs.Names.{times, has, marked, after_openings}
use Rattle.call_spec.specs.Counts.{MovesBy}

-- no name stands twice in a list
abbrev pub AreDistinct : List (List ℕ) → Type 0
AreDistinct names = (p : List ℕ) → times p names ≤ 1

-- what a Site shows of a name: its faults, the calls that opened it, and how many of its things are out
module _ {V : Type 0} (faults openings out : V → ℕ) where
  -- so many of a name went out
  pub record WentOut (n : ℕ) (old new : V) : Type 0 where
    pub out_now : out new ≡ out old + n
    pub openings_now : openings new ≡ after_openings n (openings old)
    pub faults_now : faults new ≡ faults old
    pub same : n ≡ 0 → new ≡ old

  -- so many came back, of which some failed
  pub record CameBack (n : ℕ) (failed : Bool) (old new : V) : Type 0 where
    pub out_now : out new + n ≡ out old
    pub openings_now : openings new ≡ openings old
    pub faults_now : MovesBy failed (faults old) (faults new)
    pub same : n ≡ 0 → new ≡ old

  -- so many openings were tried, all that went out came back, and something failed or nothing
  pub record Kept (n : ℕ) (failed : Bool) (old new : V) : Type 0 where
    pub out_now : out new ≡ out old
    pub openings_now : openings new ≡ after_openings n (openings old)
    pub faults_now : MovesBy failed (faults old) (faults new)
    pub same : n ≡ 0 → new ≡ old

-- what a name shows that it holds, and what a thing tells of that and of its own faults
module _ {V X T : Type 0} (holds : V → Option X) (faults openings out : V → ℕ) (content : T → Option X) (own : T → ℕ) where
  -- one thing went out under a name, with what the name held or with nothing
  pub record GoesOut (start : X → X) (old new : V) (thing : T) : Type 0 where
    pub begins : (x : X) → holds old ≡ Some x → content thing ≡ Some (start x)
    pub fresh : own thing ≡ 0
    pub out_now : out new ≡ out old + 1
    pub openings_now : openings new ≡ one_more (openings old)
    pub faults_now : faults new ≡ faults old

  -- one came back: its name shows what it has
  pub record ComesBack (old new : V) (thing : T) : Type 0 where
    pub shown : holds new ≡ content thing
    pub out_now : out new + 1 ≡ out old
    pub openings_now : openings new ≡ openings old
    pub later : faults old ≤ faults new
    pub rose : 0 < own thing → Rose (faults old) (faults new)
    pub no_fault : own thing ≡ 0 → faults new ≡ faults old

  abbrev pub Begins : (X → X) → (List ℕ → V) → ℕ → List ℕ → T → Type 0
  Begins start old k name thing = ((x : X) → holds (old name) ≡ Some x → content thing ≡ Some (start x)) × (own thing ≡ 0)

  -- things went out under these names; a name that tells what it holds is not opened twice
  pub record AllOut (start : X → X) (names : List (List ℕ)) (things : List T) (old new : List ℕ → V) : Type 0 where
    pub each : Each (Begins start old) 0 names things
    pub counts : (p : List ℕ) → WentOut faults openings out (times p names) (old p) (new p)
    pub once : (p : List ℕ) → IsSome (holds (old p)) → times p names ≤ 1

  -- a name shows what its thing has, where no other thing of it came back
  abbrev pub Shows : List (List ℕ) → (List ℕ → V) → ℕ → List ℕ → T → Type 0
  Shows names new k name thing = times name names ≡ 1 → holds (new name) ≡ content thing

  -- those that failed
  abbrev pub failing : List (List ℕ) → List T → List (List ℕ)
  failing names things = marked names (map (λ t. nat_lt 0 (own t)) things)

  -- the things of these names came back
  pub record AllBack (names : List (List ℕ)) (things : List T) (old new : List ℕ → V) : Type 0 where
    pub each : Each (Shows names new) 0 names things
    pub counts : (p : List ℕ) → CameBack faults openings out (times p names) (has p (failing names things)) (old p) (new p)
