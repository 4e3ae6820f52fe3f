use Rattle.std.proofs.Common.{refl}
use Rattle.message_decode.proofs.SetLemmas.{set_of_templates, set_of_data, set_reserved}
use Rattle.message_decode.proofs.sets.take_set.Goals as goal

pub returns-in-Templates : goal.returns-in-Templates
returns-in-Templates c = set_of_templates c.take_touches.result c.args.set c.args.export c.args.manager.now c.take_touches.new.manager c.args.found.now (record c.args.found.now { counts = c.take_touches.new.counts }) refl refl c.take_touches.ensures

pub returns-in-Data : goal.returns-in-Data
returns-in-Data c = set_of_data c.take_data.result c.args.set c.args.export c.args.manager.now c.args.found.now c.take_data.new.found c.in-Data.ensures.1 c.take_data.ensures

pub returns-in-Reserved : goal.returns-in-Reserved
returns-in-Reserved c = set_reserved c.args.set c.args.export c.args.manager.now c.args.found.now c.skip.new.found c.in-Reserved.ensures.1 c.in-Reserved.ensures.0 c.skip.ensures
