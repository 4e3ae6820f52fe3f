-- Which arrivals the open sessions stand for, and what comes of one more.
use Rattle.std.specs.Prelude.{ℕ, ◌≡◌, true, false, List, [], ◌∷◌, ◌++◌, Option, Some, None}
use Rattle.indexmap.specs.IndexMap.{get}
use Rattle.col_base.specs.declared.base.SessionKey.{SessionKey}
use Rattle.arrival_spec.specs.Arrival.{Arrival}
use Rattle.arrival_spec.specs.Order.{same_key, has_key, open_keys, opened_keys}
use Rattle.text_spec.specs.Builtin.{builtin_rows}
use Rattle.run_spec.specs.Read.{ReadArrival, IsReadAs}
use Rattle.run_spec.specs.Judge.{messages_of}
use Rattle.run_spec.specs.Result.{item_text}
use Rattle.parser_lane.specs.Parsers.{CanCome}
use Rattle.file_templates.specs.SessionTemplates.{StandFor}
use Rattle.file_lines.specs.declared.open_sessions.Session.{Session}
use Rattle.file_lines.specs.declared.open_sessions.OpenSessions.{OpenSessions}
use Rattle.file_lines.specs.declared.texts.Texts.{Texts}
use Rattle.file_lines.specs.Texts.{AddsText}
use Rattle.file_lines.specs.Session.{next_item}

-- a session that is open has its domains, and they stand for its messages; nothing is kept of any other
abbrev pub SessionAt : List ReadArrival → SessionKey → Option Session → Type 0
SessionAt read key None = has_key key (open_keys read) ≡ false
SessionAt read key (Some s) = (has_key key (open_keys read) ≡ true) × StandFor s.domains (messages_of key read)

-- the sessions stand for some arrivals, which are in order
pub record StandsFor (sessions : OpenSessions) (read : List ReadArrival) : Type 0 where
  pub each : (key : SessionKey) → SessionAt read key (get same_key sessions.rows key)
  pub opened : (key : SessionKey) → has_key key (open_keys read) ≡ true → has_key key (opened_keys read) ≡ true
  pub fresh : (key : SessionKey) → has_key key (opened_keys read) ≡ false → messages_of key read ≡ []

-- one arrival more was worked off behind these: the lines of its item were put
pub record WorksBehind (past : List ReadArrival) (a : Arrival (List ℕ)) (new : OpenSessions) (before after : Texts) : Type 0 where
  pub read : ReadArrival
  pub is : IsReadAs a read
  pub stands : StandsFor new (past ++ read ∷ [])
  pub adds : AddsText before after (item_text true builtin_rows (next_item past read))

-- it was worked off, whichever came before
abbrev pub Works : Arrival (List ℕ) → OpenSessions → OpenSessions → Texts → Texts → Type 0
Works a old new before after = (past : List ReadArrival) → StandsFor old past → CanCome past (Some a) → WorksBehind past a new before after
