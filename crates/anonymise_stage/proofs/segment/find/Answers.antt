use Rattle.std.proofs.Common.{◌≡◌, ap, subst, arith, ◌<◌, ◌^◌, ℕ}
use Rattle.anonymise_stage.specs.declared.segment.Segment.{Segment}
use Rattle.anonymise_stage.proofs.SegmentLemmas.{IsBehind, last_decides, none_decides}
use Rattle.anonymise_stage.proofs.segment.find.Goals as goal

pub returns-then-behind-eq0 : goal.returns-then-behind-eq0
returns-then-behind-eq0 c = λ octets rows are.
    (let e = c.behind-behind.ensures in
    let d : Segment = record { start = 0; found = Rattle.std.proofs.Common.None } in
    let b : IsBehind c.args.segments.now c.args.number c.behind-behind.result = record { bound = e.bound; before = e.before; after = e.after } in
    none_decides octets rows c.args.segments.now c.args.number d are (subst (IsBehind c.args.segments.now c.args.number) c.if-behind-eq0.true b))

pub returns : goal.returns
returns c = λ octets rows are.
    (let e = c.behind-behind.ensures in
    let d : Segment = record { start = 0; found = Rattle.std.proofs.Common.None } in
    let b : IsBehind c.args.segments.now c.args.number c.behind-behind.result = record { bound = e.bound; before = e.before; after = e.after } in
    last_decides octets rows c.args.segments.now c.args.number c.behind-behind.result d are b (omega arith) (omega arith))
