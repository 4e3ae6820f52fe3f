use Rattle.std.proofs.Common.{◌≡◌, Some, None, cond, rules}
use Rattle.std.specs.Prelude.{Result, Ok, Err, OnOk}
use Rattle.indexmap.specs.IndexMap.{get}
use Rattle.col_base.specs.declared.base.SessionKey.{SessionKey}
use Rattle.arrival_spec.specs.Order.{same_key}
use Rattle.file_lines.specs.declared.open_sessions.Session.{Session}
use Rattle.file_lines.specs.declared.open_sessions.OpenSessions.{OpenSessions}
use Rattle.file_lines.proofs.OpenLemmas.{raw_missing, raw_works}
use Rattle.file_lines.proofs.open_sessions.OpenSessions.take.Goals as goal

on_taken : {E : Type 0} {P Q : Type 0} (r : Result (Unit {0}) E) → (P → Q) → OnOk r P → OnOk r Q
on_taken (Ok x) f p = f p
on_taken (Err e) f p = tt

pub returns-in-Some-clause-ok : goal.returns-in-Some-clause-ok
returns-in-Some-clause-ok c =
    let after : Session = record { domains = c.take_octets.new.domains; forms = c.take_octets.new.forms } in
    let rows = c.get_mut.follows.lender after in
    let new : OpenSessions = record c.args.self.now { rows = rows } in
    let updates : (k : SessionKey) → get same_key rows k ≡ cond (same_key c.args.key k) (Some after) (get same_key c.args.self.now.rows k) = λ k. search rules in
    let found : get same_key c.args.self.now.rows c.args.key ≡ Some c.in-Some.session.now = search rules in
    on_taken c.take_octets.result (λ t. raw_works c.args.key c.args.octets.now c.args.self.now new c.in-Some.session.now after c.args.texts.now c.take_octets.new.texts found updates (t c.args.key)) c.take_octets.ensures.ok

pub returns-in-None-clause-ok : goal.returns-in-None-clause-ok
returns-in-None-clause-ok c =
    let none : get same_key c.args.self.now.rows c.args.key ≡ None = search rules in
    raw_missing c.args.key c.args.octets.now c.args.self.now (record c.args.self.now { rows = c.get_mut.follows.lender-at-none }) c.args.texts.now c.args.texts.now none
