-- A message comes in a session that is open, again and again.
use Rattle.std.proofs.Common.{◌≡◌, Some, subst, sym, List, ℕ}
use Rattle.col_base.specs.declared.base.SessionKey.{SessionKey}
use Rattle.session_table.specs.declared.arrival.Arrival as given
use Rattle.session_table.specs.declared.arrival.Arrival.TheVariants as gives
use Rattle.arrival_spec.specs.Arrival.Arrival.{Raw}
use Rattle.pipeline_message.specs.declared.message.Msg.{Msg}
use Rattle.parser_lane.specs.declared.parser.Parser.{Parser}
use Rattle.parser_lane.specs.Parsers.{MayCome, Works}
use Rattle.parser_lane.specs.Session.{HasOpen}
use Rattle.parser_lane.proofs.SessionLemmas.{takes}
use Rattle.parser_bench.specs.Given.{IsMessageOf}

pub may_bring : (p : Parser) (key : SessionKey) (arrival : given.Arrival) → IsMessageOf key arrival → HasOpen key p → MayCome arrival p
may_bring p key (gives.SessionOpen k transport) is h = absurd is
may_bring p key (gives.Raw k octets) is h = (let m = subst (λ n. HasOpen n p) (sym is) h in record { settings = m.settings; read = m.read; stands = λ e. m.stands; comes = m.is_open })
may_bring p key (gives.SessionClose k) is h = absurd is
may_bring p key (gives.Periodic input seconds) is h = absurd is
may_bring p key gives.End is h = absurd is

pub brings : (old new : Parser) (key : SessionKey) (arrival : given.Arrival) (msg : Msg) → IsMessageOf key arrival → HasOpen key old → Works arrival old.sessions new.sessions msg → HasOpen key new
brings old new key (gives.SessionOpen k transport) msg is h w = absurd is
brings old new key (gives.Raw k octets) msg is h w = subst (λ n. HasOpen n new) is (takes old new k octets.value msg (subst (λ n. HasOpen n old) (sym is) h) w)
brings old new key (gives.SessionClose k) msg is h w = absurd is
brings old new key (gives.Periodic input seconds) msg is h w = absurd is
brings old new key gives.End msg is h w = absurd is
