use Rattle.std.proofs.Common.{◌≡◌, true, Some, None, refl, ap, rules, ◌∙◌}
use Rattle.std.specs.Prelude.{is_some}
use Rattle.call_spec.specs.declared.end.InputEnd.TheVariants as end
use Rattle.run_input.specs.Standing.{end_by}
use Rattle.run_input.proofs.NextLemmas.{ended_brings, got_may_come, last_brings, message_brings, not_yet_brings, nothing_brings, unworked_brings, want_brings}
use Rattle.run_input.proofs.input.Input.next.Goals as goal

pub returns-then-is_some-clause-brings : goal.returns-then-is_some-clause-brings
returns-then-is_some-clause-brings g c =
    let some : is_some c.args.self.now.end ≡ true = search rules in
    ended_brings g.S.Source.left g.S.Source.faults c.args.self.now some

pub returns-in-Nothing-clause-brings : goal.returns-in-Nothing-clause-brings
returns-in-Nothing-clause-brings g c =
    let none : c.args.self.now.end ≡ None = search rules in
    let q = c.in-Nothing.ensures in
    nothing_brings g.S.Source.left g.S.Source.faults q.0 c.args.self.now (record c.args.self.now { inlet = c.next.new.self }) (record { asks = q.1; causes = q.2; stops = q.3; answers = q.4; number = refl; parser = none }) none refl

pub returns-in-NotYet-clause-brings : goal.returns-in-NotYet-clause-brings
returns-in-NotYet-clause-brings g c =
    let none : c.args.self.now.end ≡ None = search rules in
    let q = c.in-NotYet.ensures in
    not_yet_brings g.S.Source.left g.S.Source.faults q.0 c.args.self.now (record c.args.self.now { inlet = c.next.new.self }) (record { asks = q.1; causes = q.2; stops = q.3; answers = q.4; number = refl; parser = none }) none refl

pub returns-in-NoMemory-clause-brings : goal.returns-in-NoMemory-clause-brings
returns-in-NoMemory-clause-brings g c =
    let none : c.args.self.now.end ≡ None = search rules in
    let q = c.in-NoMemory.ensures in
    want_brings g.S.Source.left g.S.Source.faults q.0 c.args.self.now (record c.args.self.now { inlet = c.next.new.self; end = Some end.Memory }) (record { asks = q.1; causes = q.2; stops = q.3; answers = q.4; number = refl; parser = none }) refl

pub work_off-requires : goal.work_off-requires
work_off-requires g c =
    let none : c.args.self.now.end ≡ None = search rules in
    let q = c.in-Got.ensures in
    got_may_come g.S.Source.left g.S.Source.faults q.0 c.in-Got.arrival c.args.self.now (record c.args.self.now { inlet = c.next.new.self }) c.requires (record { asks = q.1; causes = q.2; stops = q.3; answers = q.4; number = refl; parser = none })

pub returns-in-Message-clause-brings : goal.returns-in-Message-clause-brings
returns-in-Message-clause-brings g c =
    let none : c.args.self.now.end ≡ None = search rules in
    let q = c.in-Got.ensures in
    message_brings g.S.Source.left g.S.Source.faults q.0 c.in-Got.arrival c.in-Message.message c.args.self.now (record c.args.self.now { inlet = c.next.new.self; parser = c.work_off.new.parser })
    (record { asks = q.1; causes = q.2; stops = q.3; answers = q.4; number = refl; parser = none }) none c.in-Message.ensures.works

pub returns-in-Wanted-clause-brings : goal.returns-in-Wanted-clause-brings
returns-in-Wanted-clause-brings g c =
    let none : c.args.self.now.end ≡ None = search rules in
    let q = c.in-Got.ensures in
    unworked_brings g.S.Source.left g.S.Source.faults q.0 c.in-Got.arrival c.args.self.now (record c.args.self.now { inlet = c.next.new.self; parser = c.work_off.new.parser; end = Some end.Memory }) c.work_off.new.parser
    (record { asks = q.1; causes = q.2; stops = q.3; answers = q.4; number = refl; parser = none }) refl c.in-Wanted.ensures.works

pub returns-clause-brings : goal.returns-clause-brings
returns-clause-brings g c =
    let none : c.args.self.now.end ≡ None = search rules in
    let q = c.in-Got.ensures in
    last_brings g.S.Source.left g.S.Source.faults q.0 c.in-Got.arrival c.args.self.now (record c.args.self.now { inlet = c.next.new.self; parser = c.work_off.new.parser; end = Some c.end_of.result })
    (record { asks = q.1; causes = q.2; stops = q.3; answers = q.4; number = refl; parser = none }) (ap Some (c.end_of.ensures ∙ ap end_by c.fault.ensures)) c.in-Last.ensures.works
