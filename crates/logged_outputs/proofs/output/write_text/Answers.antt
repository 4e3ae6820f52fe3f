use Rattle.std.proofs.Common.{Some, length, subst, sym, ◌∙◌}
use Rattle.std.proofs.lemmas.Bool.{eqb-true}
use Rattle.call_spec.specs.declared.end.OutputFault.{OutputFault}
use Rattle.logged_outputs.specs.Outputs.{Wrote}
use Rattle.logged_outputs.proofs.OutputLemmas.{wrote_less, wrote_none}
use Rattle.logged_outputs.proofs.output.write_text.Goals as goal

pub returns-then-is_empty : goal.returns-then-is_empty
returns-then-is_empty g c =
    wrote_none g.K.Sink.held g.K.Sink.total g.K.Sink.faults c.args.sink.now c.args.text.now (eqb-true (length c.args.text.now) 0 (sym c.is_empty.ensures ∙ c.if-is_empty.true))

pub returns-in-Err : goal.returns-in-Err
returns-in-Err g c =
    subst (λ (f : OutputFault). Wrote g.K.Sink.held g.K.Sink.total g.K.Sink.faults c.args.text.now c.args.sink.now c.write.new.self (Some f)) (sym c.sink_fault.ensures)
    (wrote_less g.K.Sink.held g.K.Sink.total g.K.Sink.faults c.in-Err.fault c.args.sink.now c.write.new.self c.args.text.now c.in-Err.ensures.writes c.in-Err.ensures.counts)
