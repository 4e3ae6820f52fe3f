use Rattle.std.proofs.Common.{[], ◌∷◌, List, ap, length, sym, subst, ◌∙◌, arith}
use Rattle.call_spec.specs.Load.{load_conf}
use Rattle.call_spec.proofs.PairLemmas.{same_length}
use Rattle.load_gen.specs.declared.source.LoadSource.{LoadSource}
use Rattle.load_gen.specs.Left.{load_faults}
use Rattle.output_texts.specs.Texts.{Stands}
use Rattle.result_spec.specs.Result.{inputs_of}
use Rattle.run_input.specs.declared.input.Input.{Input}
use Rattle.run_input.specs.Inputs.{HasGiven}
use Rattle.run_came.specs.Told.{IsNoted}
use Rattle.described_run.proofs.OverLemmas.{all_right}
use Rattle.generate_call.proofs.LoadLemmas.{came_to_load, inputs_long, left, outputs_long, sinks_long}
use Rattle.generate_call.proofs.load.run_over.Goals as goal

pub hand_on-taker-requires-clause-right : goal.hand_on-taker-requires-clause-right
hand_on-taker-requires-clause-right g c κs within = let o = c.requires.over.2 in all_right left load_faults load_conf (o.source ∷ []) c.args.inputs.now.items o.made

pub note_all-requires-clause-inputs : goal.note_all-requires-clause-inputs
note_all-requires-clause-inputs g c κs =
    let o = c.requires.over.2 in
    c.requires.room.inputs ∙ (sym (inputs_long Stands c.requires.over.0 c.requires.over.1 c.args.ready.texts.items o.source c.args.sinks.now.items c.hand_on-taker.new.inputs.items c.hand_on-taker.result c.args.load.now.ended o.events o.long o.fresh o.makers
    (c.hand_on-taker.ensures.handed load_conf (o.source ∷ []) o.ready_for o.made)) ∙ ap length (sym c.deref.ensures.value))

pub note_all-requires-clause-outputs : goal.note_all-requires-clause-outputs
note_all-requires-clause-outputs g c κs =
    let o = c.requires.over.2 in
    c.requires.room.outputs ∙ sym (outputs_long Stands c.requires.over.0 c.requires.over.1 c.args.ready.texts.items o.source c.args.sinks.now.items c.hand_on-taker.new.inputs.items c.hand_on-taker.result c.args.load.now.ended o.events o.long o.fresh o.makers
    (c.hand_on-taker.ensures.handed load_conf (o.source ∷ []) o.ready_for o.made))

pub end-requires-clause-room : goal.end-requires-clause-room
end-requires-clause-room g c κs =
    let o = c.requires.over.2 in
    let many = sinks_long Stands c.requires.over.0 c.requires.over.1 c.args.ready.texts.items o.source c.args.sinks.now.items c.hand_on-taker.new.inputs.items c.hand_on-taker.result c.args.load.now.ended o.events o.long o.fresh o.makers
    (c.hand_on-taker.ensures.handed load_conf (o.source ∷ []) o.ready_for o.made) in
    let few = o.long in
    omega (arith, many, few, c.hand_on-taker.ensures.room)

pub note_lengths-requires : goal.note_lengths-requires
note_lengths-requires g c =
    let o = c.requires.over.2 in
    c.requires.room.lengths ∙ (sym (sinks_long Stands c.requires.over.0 c.requires.over.1 c.args.ready.texts.items o.source c.args.sinks.now.items c.hand_on-taker.new.inputs.items c.hand_on-taker.result c.args.load.now.ended o.events o.long o.fresh o.makers
    (c.hand_on-taker.ensures.handed load_conf (o.source ∷ []) o.ready_for o.made)) ∙ (ap length (sym c.end.ensures) ∙ ap length (sym c.deref-2.ensures.value)))

pub returns-clause-came : goal.returns-clause-came
returns-clause-came g c number count o =
    let k = came_to_load Stands number count c.args.ready.texts.items o.source c.args.sinks.now.items c.hand_on-taker.new.inputs.items c.hand_on-taker.result c.note_all.new.ended o.events o.long o.fresh o.makers
    (c.hand_on-taker.ensures.handed load_conf (o.source ∷ []) o.ready_for o.made) c.note_lengths.new.lengths.items (c.note_lengths.ensures ∙ ap (Rattle.std.specs.Prelude.map Rattle.generate_call.specs.Ran.total_of) (c.deref-2.ensures.value ∙ c.end.ensures))
    (subst (λ (l : List (Input LoadSource)). IsNoted (length load_conf.stages) l c.hand_on-taker.result c.note_all.new.ended) c.deref.ensures.value (c.note_all.ensures (length load_conf.stages) c.requires.room.stages)) in
    record { run = k.0; tells = k.1; leaves = k.2; as_many = k.3 }

pub returns-clause-as_many : goal.returns-clause-as_many
returns-clause-as_many g c =
    let o = c.requires.over.2 in
    let now = inputs_long Stands c.requires.over.0 c.requires.over.1 c.args.ready.texts.items o.source c.args.sinks.now.items c.hand_on-taker.new.inputs.items c.hand_on-taker.result c.args.load.now.ended o.events o.long o.fresh o.makers
    (c.hand_on-taker.ensures.handed load_conf (o.source ∷ []) o.ready_for o.made) in
    let was = same_length (λ k first x. HasGiven left load_faults first (inputs_of load_conf k) k [] [] x) 0 (o.source ∷ []) c.args.inputs.now.items o.made in
    let one = ap length Rattle.generate_call.proofs.LoadLemmas.one_input.1 in
    omega (arith, now, was, one)
