use Rattle.std.proofs.Common.{◌+◌, [], refl, ap, ◌∙◌, arith}
use Rattle.call_spec.specs.declared.end.InputEnd.TheVariants as end
use Rattle.file_lines.proofs.RunLemmas.{so_none, ends_behind, taken_none, one_longer}
use Rattle.file_lines.proofs.run.read_all.Goals as goal

pub loop-init : goal.loop-init
loop-init g c = ([], so_none g.S.Source.left g.S.Source.faults g.K.Sink.held g.K.Sink.faults c.args.inlet.now c.args.sink.now c.args.sessions.now c.args.texts.now c.requires.ready c.requires.fresh, refl)

pub read_one-requires-after_bounds : goal.read_one-requires-after_bounds
read_one-requires-after_bounds g c κs within = c.loop.invariant.1.idle

pub returns-in-Some : goal.returns-in-Some
returns-in-Some g c =
    let i = c.loop.invariant in
    c.in-Some.ensures i.0 c.args.inlet.now.source c.args.sink.now (omega (arith, i.2, c.loop-test.true)) i.1

pub loop-preserved : goal.loop-preserved
loop-preserved g c =
    let i = c.loop.invariant in
    let s = c.in-None.ensures i.0 c.args.inlet.now.source c.args.sink.now (omega (arith, i.2, c.loop-test.true)) i.1 in
    (_, s.1, one_longer i.0 s.0 ∙ ap (λ n. n + 1) i.2)

pub returns : goal.returns
returns g c =
    let i = c.loop.invariant in
    ends_behind g.S.Source.left g.S.Source.faults g.K.Sink.held g.K.Sink.faults i.0 c.args.inlet.now.source c.loop.inlet c.args.sink.now c.loop.sink c.loop.sessions c.loop.texts i.1 end.Limit c.loop.inlet.source (taken_none _ _ refl) refl (omega (arith, i.2, c.loop-test.false))
