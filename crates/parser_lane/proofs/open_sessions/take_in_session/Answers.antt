use Rattle.std.proofs.Common.{◌≡◌, Some, cond, rules}
use Rattle.std.specs.Prelude.{Result, Ok, Err, IfOk}
use Rattle.indexmap.specs.IndexMap.{get}
use Rattle.col_base.specs.declared.base.SessionKey.{SessionKey}
use Rattle.arrival_spec.specs.Order.{same_key}
use Rattle.ipfix_reader.specs.Octets.{octets_of}
use Rattle.session_domains.specs.Session.{Takes}
use Rattle.parser_lane.specs.Parsers.{SessionTakes}
use Rattle.parser_lane.proofs.open_sessions.take_in_session.Goals as goal

if_taken : {X E : Type 0} (P Q : X → Type 0) (r : Result X E) → ((x : X) → P x → Q x) → IfOk r P → IfOk r Q
if_taken P Q (Ok x) f p = f x p
if_taken P Q (Err e) f p = tt

pub returns : goal.returns
returns c =
    let rows = c.get_mut.follows.lender c.take.new.self in
    let updates : (k : SessionKey) → get same_key rows k ≡ cond (same_key c.args.key k) (Some c.take.new.self) (get same_key c.args.rows.now k) = λ k. search rules in
    let found : get same_key c.args.rows.now c.args.key ≡ Some c.unwrap-domains.result.now = search rules in
    if_taken (Takes (octets_of c.args.message) c.unwrap-domains.result.now c.take.new.self) (SessionTakes c.args.key (octets_of c.args.message) c.args.rows.now rows) c.take.result
    (λ fate t. record { before = c.unwrap-domains.result.now; after = c.take.new.self; found = found; takes = t; updates = updates }) c.take.ensures
