-- Which arrivals a parser stands for, and what it gives for one more.
use Rattle.std.specs.Prelude.{ℕ, ◌≡◌, true, false, if◌then◌else◌, List, [], ◌∷◌, ◌++◌, Option, None, Some, IsSome, ⊤}
use Rattle.indexmap.specs.IndexMap.{IndexMap, get}
use Rattle.col_base.specs.declared.base.SessionKey.{SessionKey}
use Rattle.col_base.specs.declared.base.Transport.{Transport}
use Rattle.config_spec.specs.declared.conf.InputConf.{InputConf}
use Rattle.arrival_spec.specs.Arrival.{Arrival}
use Rattle.arrival_spec.specs.Arrival.Arrival.{SessionOpen, Raw, SessionClose, Periodic}
use Rattle.arrival_spec.specs.Order.{same_key, has_key, open_keys, opened_keys, fits_behind}
use Rattle.arrival_spec.specs.Settings.{Settings}
use Rattle.run_spec.specs.Read.{ReadArrival, IsReadAs}
use Rattle.run_spec.specs.Judge.{Inputs, messages_of}
use Rattle.run_spec.specs.Work.{work_of, works_of, item_of as item_given}
use Rattle.count_spec.specs.Counts.{counts, expected}
use Rattle.session_table.specs.declared.arrival.Arrival as given
use Rattle.session_table.specs.declared.arrival.Arrival.TheVariants as gives
use Rattle.pipeline_message.specs.declared.message.DataSet.{DataSet}
use Rattle.pipeline_message.specs.declared.message.Msg.{Msg}
use Rattle.pipeline_message.specs.declared.message.Msg.TheVariants.{SessionMsg, DataMsg, Terminate}
use Rattle.pipeline_message.specs.declared.message.Msg.TheVariants.{Periodic as PeriodicMsg}
use Rattle.pipeline_message.specs.declared.run_counts.RunCounts.{RunCounts}
use Rattle.pipeline_message.specs.Items.{item_of, IsSoundMessage}
use Rattle.pipeline_message.specs.Shown.{adds, shown_counts}
use Rattle.session_domains.specs.declared.domains.Domains.{Domains}
use Rattle.session_domains.specs.declared.fate.Fate.{Fate}
use Rattle.session_domains.specs.declared.fate.Fate.TheVariants.{Crowded, Late, Taken}
use Rattle.session_domains.specs.Session.{StandFor, Takes}
use Rattle.parser_lane.specs.declared.open_sessions.OpenSessions.{OpenSessions}
use Rattle.parser_lane.specs.declared.parser.Parser.{Parser}

-- the settings of an input
abbrev pub settings_of : InputConf → Settings
settings_of conf = record { transport = conf.spec.transport; life = conf.life; idle = conf.idle; stop_after = conf.stop_after }

-- all arrivals of a parser are of one input
abbrev pub inputs : Settings → Inputs
inputs settings n = settings

-- an arrival as the definitions see it; none is the end
abbrev pub arrival_of : given.Arrival → Option (Arrival (List ℕ))
arrival_of (gives.SessionOpen key transport) = Some (SessionOpen key transport)
arrival_of (gives.Raw key octets) = Some (Raw key octets.value)
arrival_of (gives.SessionClose key) = Some (SessionClose key)
arrival_of (gives.Periodic input seconds) = Some (Periodic input seconds)
arrival_of gives.End = None

-- the numbers that are due in the domains of a session
abbrev pub numbers_due : Settings → List ReadArrival → SessionKey → ℕ → Option ℕ
numbers_due settings read key domain = expected key domain (works_of (inputs settings) read)

-- an open session has its domains, and they stand for its messages; nothing is kept of any other
abbrev pub SessionAt : Settings → List ReadArrival → SessionKey → Option Domains → Type 0
SessionAt settings read key None = has_key key (open_keys read) ≡ false
SessionAt settings read key (Some domains) = (has_key key (open_keys read) ≡ true) × StandFor settings (messages_of key read) (numbers_due settings read key) domains

-- nothing came of a session
pub record IsFresh (settings : Settings) (read : List ReadArrival) (key : SessionKey) : Type 0 where
  pub messages : messages_of key read ≡ []
  pub due : (domain : ℕ) → numbers_due settings read key domain ≡ None

-- a parser stands for some arrivals, whose messages were read: each open session has its domains, the counts are those of
-- the definitions, and the arrivals are in order
pub record Stands (settings : Settings) (read : List ReadArrival) (p : OpenSessions) : Type 0 where
  pub transport : p.transport ≡ settings.transport
  pub life : p.life ≡ settings.life
  pub each : (key : SessionKey) → SessionAt settings read key (get same_key p.rows key)
  pub counts_are : p.counts ≡ shown_counts (counts (inputs settings) [] (works_of (inputs settings) read))
  pub opened : (key : SessionKey) → has_key key (open_keys read) ≡ true → has_key key (opened_keys read) ≡ true
  pub fresh : (key : SessionKey) → has_key key (opened_keys read) ≡ false → IsFresh settings read key

-- an arrival may come behind others
abbrev pub CanCome : List ReadArrival → Option (Arrival (List ℕ)) → Type 0
CanCome read None = Unit {0}
CanCome read (Some a) = fits_behind (opened_keys read) (open_keys read) a ≡ true

-- a data message with these octets
abbrev pub HasOctets : List ℕ → Msg → Type 0
HasOctets octets (SessionMsg note) = ⊥
HasOctets octets (DataMsg m) = m.value.octets.value ≡ octets
HasOctets octets (PeriodicMsg input seconds) = ⊥
HasOctets octets Terminate = ⊥

-- octets that arrive are handed on
abbrev pub HandsOn : Arrival (List ℕ) → Msg → Type 0
HandsOn (SessionOpen key transport) msg = ⊤
HandsOn (Raw key octets) msg = HasOctets octets msg
HandsOn (SessionClose key) msg = ⊤
HandsOn (Periodic input seconds) msg = ⊤

-- the message of an arrival stands for its item behind those before, is sound and has the octets that arrived; the parser
-- stands for one arrival more
pub record GivesItem (settings : Settings) (read : List ReadArrival) (a : Arrival (List ℕ)) (r : ReadArrival) (new : OpenSessions) (msg : Msg) : Type 0 where
  pub item : item_of msg ≡ Some (item_given (inputs settings) (work_of (inputs settings) read r))
  pub sound : IsSoundMessage msg
  pub octets : HandsOn a msg
  pub stands : Stands settings (read ++ r ∷ []) new

abbrev pub WorksBy : Option (Arrival (List ℕ)) → OpenSessions → OpenSessions → Msg → Type 0
WorksBy None old new msg = (msg ≡ Terminate) × (new ≡ old)
WorksBy (Some a) old new msg = (r : ReadArrival) × IsReadAs a r
    × ((settings : Settings) (read : List ReadArrival) → Stands settings read old → CanCome read (Some a) → GivesItem settings read a r new msg)

-- an arrival was worked off, whichever came before
abbrev pub Works : given.Arrival → OpenSessions → OpenSessions → Msg → Type 0
Works arrival old new msg = WorksBy (arrival_of arrival) old new msg

abbrev pub Opens : SessionKey → Transport → OpenSessions → OpenSessions → Msg → Type 0
Opens key transport old new msg = WorksBy (Some (SessionOpen key transport)) old new msg

abbrev pub Closes : SessionKey → OpenSessions → OpenSessions → Msg → Type 0
Closes key old new msg = WorksBy (Some (SessionClose key)) old new msg

abbrev pub Ticks : ℕ → ℕ → OpenSessions → Msg → Type 0
Ticks input seconds p msg = WorksBy (Some (Periodic input seconds)) p p msg

abbrev pub TakesRaw : SessionKey → List ℕ → OpenSessions → OpenSessions → Msg → Type 0
TakesRaw key octets old new msg = WorksBy (Some (Raw key octets)) old new msg

-- an open session takes a message, and the others stay
pub record SessionTakes {S : Type 0} (key : SessionKey) (octets : List ℕ) (old new : IndexMap SessionKey Domains S) (fate : Fate) : Type 0 where
  pub before : Domains
  pub after : Domains
  pub found : get same_key old key ≡ Some before
  pub takes : Takes octets before after fate
  pub updates : (k : SessionKey) → get same_key new k ≡ (if same_key key k then Some after else get same_key old k)

-- the session of a message is open
abbrev pub HasSession : given.Arrival → OpenSessions → Type 0
HasSession (gives.SessionOpen key transport) p = Unit {0}
HasSession (gives.Raw key octets) p = IsSome (get same_key p.rows key)
HasSession (gives.SessionClose key) p = Unit {0}
HasSession (gives.Periodic input seconds) p = Unit {0}
HasSession gives.End p = Unit {0}

-- an arrival may come after those that were worked off, as long as no memory was wanted
pub record MayCome (arrival : given.Arrival) (p : Parser) : Type 0 where
  pub settings : Settings
  pub read : List ReadArrival
  pub stands : p.wanting ≡ false → Stands settings read p.sessions
  pub comes : CanCome read (arrival_of arrival)

-- ---- what is counted, and what is handed on

abbrev pub counts_by : Fate → RunCounts → RunCounts
counts_by Crowded c = record c { crowded = adds c.crowded 1 }
counts_by Late c = record c { late = adds c.late 1 }
counts_by (Taken t) c = record c {
  messages = adds c.messages 1;
  records = adds c.records t.counts.records;
  skipped = adds c.skipped t.counts.skipped;
  ignored = adds c.ignored t.counts.ignored;
  redefined = adds c.redefined t.counts.redefined;
  lost = adds c.lost t.lost;
  disordered = adds c.disordered (if t.behind then 1 else 0);
}

abbrev pub malformed_by : RunCounts → RunCounts
malformed_by c = record c { malformed = adds c.malformed 1 }

abbrev pub sets_in : Fate → List DataSet
sets_in (Taken t) = t.sets.items
sets_in Late = []
sets_in Crowded = []

-- a data message of these octets and sets
abbrev pub IsMadeOf : List ℕ → List DataSet → Msg → Type 0
IsMadeOf octets sets (SessionMsg note) = ⊥
IsMadeOf octets sets (DataMsg m) = (m.value.octets.value ≡ octets) × (m.value.sets.items ≡ sets)
IsMadeOf octets sets (PeriodicMsg input seconds) = ⊥
IsMadeOf octets sets Terminate = ⊥
