use Rattle.std.proofs.Common.{Some}
use Rattle.message_decode.proofs.SetLemmas.{found_adds, unknown_adds}
use Rattle.message_decode.proofs.sets.take_data.Goals as goal

pub returns-in-Template : goal.returns-in-Template
returns-in-Template c = found_adds c.take_records.result c.args.set c.args.export c.args.manager.now (Some c.in-Template.def.now.value) c.args.found.now c.take_records.new.found c.in-Template.ensures c.take_records.ensures

pub returns-in-NoTemplate : goal.returns-in-NoTemplate
returns-in-NoTemplate c = unknown_adds c.args.set c.args.export c.args.manager.now c.args.found.now c.skip.new.found c.in-NoTemplate.ensures c.skip.ensures
