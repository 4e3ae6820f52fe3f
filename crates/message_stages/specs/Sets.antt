-- Sets of a message behind all intermediates, one after another.
use Rattle.std.specs.Prelude.{ℕ, ◌≡◌, ◌+◌, false, if◌then◌else◌, ⊤, List, [], Option, None, Some, map}
use Rattle.std.specs.List.{AllByRecursion, list_any}
use Rattle.std.specs.declared.vec.Vec.{Vec}
use Rattle.wire_spec.specs.Content.{Definition}
use Rattle.config_spec.specs.declared.conf.StageWork.{StageWork}
use Rattle.pipeline_message.specs.declared.message.Place.{Place}
use Rattle.pipeline_message.specs.declared.message.DataSet.{DataSet}
use Rattle.pipeline_message.specs.Items.{set_of, IsSoundSet}
use Rattle.kept_forms.specs.Kept.{kept}
use Rattle.stage_chain.specs.declared.stage.PreparedStage.{PreparedStage}
use Rattle.stage_chain.specs.Suits.{AreSuited}
use Rattle.stage_chain.specs.Behind.{changes, sets_behind}
use Rattle.message_stages.specs.declared.rooms.Rooms.{Rooms}

-- what is kept for a definition is prepared for its records
abbrev pub SuitsIfAny : {A : Type 0} → List StageWork → Option (Definition × Vec PreparedStage A) → Type 0
SuitsIfAny works None = ⊤
SuitsIfAny works (Some form) = AreSuited works form.0.fields form.1.items

abbrev pub AreReady : List StageWork → Rooms → Type 0
AreReady works rooms = (session template : ℕ) → SuitsIfAny works (kept rooms.prepared session template)

-- a place in octets that stand behind so many others
abbrev pub moved : ℕ → Place → Place
moved by p = record { start = by + p.start; len = p.len }

-- the octets in which records stand behind the intermediates: those of the message, or copies where records change
abbrev pub octets_now : List StageWork → List ℕ → List ℕ → List ℕ
octets_now works octets copies = if list_any changes works then copies else octets

-- Of these sets of a message those are left, as sets of the message or of copies. Where no record changes there are no copies.
pub record AreSetsLeft (works : List StageWork) (octets : List ℕ) (sets : List DataSet) (copies : List ℕ) (left : List DataSet) : Type 0 where
  pub are : map (set_of (octets_now works octets copies)) left ≡ sets_behind works (map (set_of octets) sets)
  pub sound : AllByRecursion (IsSoundSet (octets_now works octets copies)) left
  pub none : list_any changes works ≡ false → copies ≡ []
