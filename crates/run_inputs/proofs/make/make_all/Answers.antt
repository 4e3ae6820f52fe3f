use Rattle.std.proofs.Common.{rules, reverse}
use Rattle.run_inputs.proofs.MadeLemmas.{one_front, one_made}
use Rattle.run_inputs.proofs.make.make_all.Goals as goal

pub loop-source-preserved : goal.loop-source-preserved
loop-source-preserved g c = record {
  front = one_front (reverse c.args.sources.now.items) c.loop-source.inputs.items c.put.new.values.items c.loop-source.sources.items c.pop.new.self.items c.in-Ok.input c.in-Some.source c.put.ensures.put c.in-Some.ensures.items c.in-Ok.ensures.source c.loop-source.invariant.front;
  made = one_made g.S.Source.left g.S.Source.faults c.args.conf.now c.loop-source.inputs.items c.put.new.values.items c.in-Ok.input c.in-Some.source c.len.result c.put.ensures.put c.in-Ok.ensures.source (search rules) c.in-Ok.ensures.made c.loop-source.invariant.made;
  long = search rules;
  room = search rules;
  back = search rules;
}
