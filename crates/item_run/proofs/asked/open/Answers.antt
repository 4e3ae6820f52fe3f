use Rattle.std.proofs.Common.{[]}
use Rattle.item_run.proofs.asked.open.Goals as goal

pub returns-in-Ok : goal.returns-in-Ok
returns-in-Ok g c = record { first = _; settings = _; number = _; given = []; read = []; has = c.in-Ok.ensures.new }
