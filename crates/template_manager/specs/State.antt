-- What contracts see of a manager.
use Rattle.std.specs.Prelude.{ℕ, List, Option}
use Rattle.std.specs.declared.sync.Arc.{Arc}
use Rattle.std.specs.declared.alloc.Global.{Global}
use Rattle.col_base.specs.declared.base.Lifetimes.{Lifetimes}
use Rattle.col_base.specs.declared.base.SnapRef.{SnapRef}
use Rattle.col_base.specs.declared.base.Transport.{Transport}
use Rattle.wire_spec.specs.Content.{Definition}
use Rattle.template_history.specs.declared.version.Version.{Version}

pub record State : Type 0 where
  pub transport : Transport
  pub life : Lifetimes
  -- the greatest export time that arrived
  pub greatest : ℕ
  -- over TCP and in files: the definitions by ID
  pub ordered : List (ℕ × Arc Definition Global)
  -- over UDP: the versions by ID
  pub timed : List (ℕ × List Version)
  -- the snapshot that is live, and those that were retired and not taken yet, the oldest first
  pub live : Option SnapRef
  pub retired : List SnapRef
  -- for how many snapshots more there is room to retire them
  pub spare : ℕ
