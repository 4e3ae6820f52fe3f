-- Sessions of one input that open one behind another: what a caller knows of a parser that takes them in turn.
use Rattle.std.specs.Prelude.{ℕ, ◌≡◌, ◌<◌, ◌≤◌, true, false, List}
use Rattle.col_base.specs.declared.base.SessionKey.{SessionKey}
use Rattle.arrival_spec.specs.Order.{has_key, open_keys, opened_keys}
use Rattle.arrival_spec.specs.Settings.{Settings}
use Rattle.run_spec.specs.Read.{ReadArrival}
use Rattle.parser_lane.specs.declared.parser.Parser.{Parser}
use Rattle.parser_lane.specs.Parsers.{Stands}

-- a parser stands for some arrivals, and no session of this number or a later one was opened among them
pub record MayOpen (number : ℕ) (p : Parser) : Type 0 where
  pub settings : Settings
  pub read : List ReadArrival
  pub stands : Stands settings read p.sessions
  pub unopened : (key : SessionKey) → number ≤ key.number → has_key key (opened_keys read) ≡ false

-- a parser stands for some arrivals, behind which this session is open; no session of a later number was opened
pub record HasOpen (key : SessionKey) (p : Parser) : Type 0 where
  pub settings : Settings
  pub read : List ReadArrival
  pub stands : Stands settings read p.sessions
  pub is_open : has_key key (open_keys read) ≡ true
  pub unopened : (k : SessionKey) → key.number < k.number → has_key k (opened_keys read) ≡ false
