use Rattle.parser_lane.specs.Parsers.{arrival_of}
use Rattle.run_input.proofs.WorkLemmas.{sound_message, works_last, works_message, works_wanted}
use Rattle.run_input.proofs.work.work_off.Goals as goal

pub returns-then-is_last-clause-works : goal.returns-then-is_last-clause-works
returns-then-is_last-clause-works c = works_last (arrival_of c.args.arrival.now) c.is_last.result c.args.parser.now c.is_last.ensures c.if-is_last.true

pub returns-in-Ok-clause-works : goal.returns-in-Ok-clause-works
returns-in-Ok-clause-works c = works_message (arrival_of c.args.arrival.now) c.is_last.result c.args.parser.now c.work.new.self c.in-Ok.message c.is_last.ensures c.if-is_last.false c.in-Ok.ensures.ok.1 c.in-Ok.ensures.ok.2

pub returns-in-Ok-clause-sound : goal.returns-in-Ok-clause-sound
returns-in-Ok-clause-sound c = sound_message c.args.arrival.now c.args.parser.now c.work.new.self c.in-Ok.message c.requires c.in-Ok.ensures.ok.0 c.in-Ok.ensures.ok.2

pub returns-in-Err-clause-works : goal.returns-in-Err-clause-works
returns-in-Err-clause-works c = works_wanted (arrival_of c.args.arrival.now) c.is_last.result c.args.parser.now c.work.new.self c.is_last.ensures c.if-is_last.false
