-- Which template records the manager of a domain stands for.
use Rattle.std.specs.Prelude.{ℕ, List}
use Rattle.wire_spec.specs.Content.{Touch}
use Rattle.template_spec.specs.Defined.{DefineWell}
use Rattle.template_manager.specs.State.{State}
use Rattle.template_manager.specs.Stands.{StandsFor}

-- some template records whose definitions are well formed
abbrev pub StandsForSome : State → Type 0
StandsForSome manager = (past : List (ℕ × Touch)) × StandsFor manager past × DefineWell past
