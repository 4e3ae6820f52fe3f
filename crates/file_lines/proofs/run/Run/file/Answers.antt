use Rattle.std.proofs.Common.{◌≡◌, sym, subst, rules}
use Rattle.call_spec.specs.declared.end.InputEnd.TheVariants as end
use Rattle.file_lines.specs.Run.{Ran}
use Rattle.file_lines.proofs.RunLemmas.{wanted_first}
use Rattle.file_lines.proofs.run.Run.file.Goals as goal

pub returns-in-Err : goal.returns-in-Err
returns-in-Err g c =
    let same : c.in-Err.source ≡ c.args.source = search rules in
    subst (λ s. Ran g.S.Source.left g.S.Source.faults g.K.Sink.held g.K.Sink.faults c.args.source s c.args.sink.now c.args.sink.now end.Memory c.args.self.now.texts.fault) (sym same)
    (wanted_first g.S.Source.left g.S.Source.faults g.K.Sink.held g.K.Sink.faults c.args.source c.args.sink.now c.args.self.now.sessions c.args.self.now.texts c.requires.fresh)
