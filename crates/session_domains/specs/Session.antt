-- The domains of a session: which of its messages they stand for, and what becomes of one more.
use Rattle.std.specs.Prelude.{ℕ, ◌≡◌, ◌<◌, ◌==◌, ◌&&◌, if◌then◌else◌, nat_eq, List, [], ◌∷◌, ◌++◌, Option, None, Some, is_some, length}
use Rattle.indexmap.specs.IndexMap.{get, index_map_len}
use Rattle.wire_spec.specs.Content.{Message, Says}
use Rattle.arrival_spec.specs.Settings.{Settings}
use Rattle.run_spec.specs.Judge.{judge, is_taken, newest_export}
use Rattle.run_spec.specs.Judge.Judgement.{Malformed as IsMalformed, Crowded as IsCrowded, Late as IsLate, Taken as IsTaken}
use Rattle.run_spec.specs.Domains.{is_among, kept_domains}
use Rattle.run_spec.specs.Touches.{touches_before}
use Rattle.run_spec.specs.Outcome.{outcomes}
use Rattle.count_spec.specs.Counts.{next_number}
use Rattle.session_domains.specs.declared.domain.Domain.{Domain}
use Rattle.session_domains.specs.declared.domains.Domains.{Domains}
use Rattle.session_domains.specs.declared.fate.Fate.{Fate}
use Rattle.session_domains.specs.declared.fate.Fate.TheVariants.{Crowded, Late, Taken}
use Rattle.session_domains.specs.Domain.{DomainStands, IsTakenAs}

-- the number that is due in each domain after one message more: where it is taken, that behind it
abbrev pub due_later : Settings → List Message → (ℕ → Option ℕ) → Message → ℕ → Option ℕ
due_later settings past due m domain = if is_taken (judge settings past m) && m.domain == domain then next_number m.sequence (outcomes settings past m) else due domain

-- nothing came of a domain that isn't kept, unless there is no room for it
pub record IsUnknown (settings : Settings) (past : List Message) (due : ℕ → Option ℕ) (domain : ℕ) : Type 0 where
  pub touches : touches_before settings past domain ≡ []
  pub due_is : due domain ≡ None
  pub newest_is : length (kept_domains past) < 1024 → newest_export domain past ≡ 0

abbrev pub StandsAt : Settings → List Message → (ℕ → Option ℕ) → ℕ → Option Domain → Type 0
StandsAt settings past due domain None = IsUnknown settings past due domain
StandsAt settings past due domain (Some d) = DomainStands settings (touches_before settings past domain) (newest_export domain past) (due domain) d

-- the domains stand for the well-formed messages of the session so far, and these numbers are due in them
pub record StandFor (settings : Settings) (past : List Message) (due : ℕ → Option ℕ) (d : Domains) : Type 0 where
  pub transport : d.transport ≡ settings.transport
  pub life : d.life ≡ settings.life
  pub count : index_map_len d.rows ≡ length (kept_domains past)
  pub kept : (domain : ℕ) → is_some (get nat_eq d.rows domain) ≡ is_among domain (kept_domains past)
  pub each : (domain : ℕ) → StandsAt settings past due domain (get nat_eq d.rows domain)

-- the fate of a message is its judgement, and where it is taken, what was found is what the definitions give
abbrev pub FateOf : Settings → List ℕ → List Message → (ℕ → Option ℕ) → Message → Fate → Type 0
FateOf settings octets past due m Crowded = judge settings past m ≡ IsCrowded
FateOf settings octets past due m Late = judge settings past m ≡ IsLate
FateOf settings octets past due m (Taken t) = (judge settings past m ≡ IsTaken) × IsTakenAs settings octets (touches_before settings past m.domain) (due m.domain) m t

-- a message more was taken, crowded out or late
abbrev pub Takes : List ℕ → Domains → Domains → Fate → Type 0
Takes octets old new fate = (m : Message) → Says octets m → (settings : Settings) (past : List Message) (due : ℕ → Option ℕ) → StandFor settings past due old
    → FateOf settings octets past due m fate × StandFor settings (past ++ m ∷ []) (due_later settings past due m) new
