use Rattle.std.proofs.Common.{ap, length, refl, sym, ◌∙◌, arith}
use Rattle.generate_call.proofs.LoadLemmas.{inputs_are, is_over}
use Rattle.generate_call.proofs.load.run_load.Goals as goal

pub make_inputs-requires-clause-long : goal.make_inputs-requires-clause-long
make_inputs-requires-clause-long g c κs = let s = c.in_ok-sources.ensures in inputs_are c.args.number c.args.count c.args.conf.now c.requires.conf c.args.prepared c.requires.prepared c.in_ok-sources.sources.items s.0 s.1

pub make_inputs-requires-clause-few : goal.make_inputs-requires-clause-few
make_inputs-requires-clause-few g c κs =
    let s = c.in_ok-sources.ensures in
    let long = inputs_are c.args.number c.args.count c.args.conf.now c.requires.conf c.args.prepared c.requires.prepared c.in_ok-sources.sources.items s.0 s.1 in
    let one = ap length s.1 in
    omega (arith, long, one)

pub run_over-requires-clause-over : goal.run_over-requires-clause-over
run_over-requires-clause-over g c = (
  c.args.number,
  c.args.count,
  is_over c.args.number c.args.count c.args.conf.now c.requires.conf c.args.prepared c.requires.prepared c.in_ok-sources.sources.items c.in_ok-sources.ensures c.in_ok-sinks.sinks.items c.in-Ok-make_inputs.inputs.items (record { stages = c.args.prepared.stages; texts = c.args.prepared.texts; room = c.in-Ok.room })
      (c.in_ok-sinks.ensures.long ∙ c.len.ensures) c.in_ok-sinks.ensures.fresh c.in-Ok-make_inputs.ensures.made refl refl c.in-Ok.ensures.empty (let len = c.len-2.ensures in let room = c.in-Ok.ensures.room in omega (arith, len, room)),
)

pub returns : goal.returns
returns g c =
    c.run_over.ensures.came c.args.number c.args.count
    (is_over c.args.number c.args.count c.args.conf.now c.requires.conf c.args.prepared c.requires.prepared c.in_ok-sources.sources.items c.in_ok-sources.ensures c.in_ok-sinks.sinks.items c.in-Ok-make_inputs.inputs.items (record { stages = c.args.prepared.stages; texts = c.args.prepared.texts; room = c.in-Ok.room })
    (c.in_ok-sinks.ensures.long ∙ c.len.ensures) c.in_ok-sinks.ensures.fresh c.in-Ok-make_inputs.ensures.made refl refl c.in-Ok.ensures.empty (let len = c.len-2.ensures in let room = c.in-Ok.ensures.room in omega (arith, len, room)))
