-- What a call does to the counts of a text, a place and a sink name.
use Rattle.std.specs.Prelude.{ℕ, ◌≡◌, ◌≤◌, Bool, true, false}
use Rattle.site_io.specs.Outside.{Rose}
use Rattle.site_io.specs.Seen.{TextSeen, PlaceSeen, SinkSeen}
use Rattle.call_spec.specs.Names.{after_openings}

-- a count of faults rose where something failed, and else stayed
abbrev pub MovesBy : Bool → ℕ → ℕ → Type 0
MovesBy true before now = (before ≤ now) × Rose before now
MovesBy false before now = now ≡ before

-- a text stays, and it failed or not
pub record TextKept (failed : Bool) (old new : TextSeen) : Type 0 where
  pub octets : new.octets ≡ old.octets
  pub faults : MovesBy failed old.faults new.faults

-- so many openings were tried, all that went out came back, and something failed or nothing; a name that was not tried is as it was
pub record PlaceKept (n : ℕ) (failed : Bool) (old new : PlaceSeen) : Type 0 where
  pub out : new.out ≡ old.out
  pub openings : new.openings ≡ after_openings n old.openings
  pub faults : MovesBy failed old.faults new.faults
  pub same : n ≡ 0 → new ≡ old

pub record SinkKept (n : ℕ) (failed : Bool) (old new : SinkSeen) : Type 0 where
  pub out : new.out ≡ old.out
  pub openings : new.openings ≡ after_openings n old.openings
  pub faults : MovesBy failed old.faults new.faults
  pub same : n ≡ 0 → new ≡ old
