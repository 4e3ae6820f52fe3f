use Rattle.std.proofs.Common.{refl}
use Rattle.described_run.proofs.taker.begin_log.Goals as goal

pub returns-in-Some : goal.returns-in-Some
returns-in-Some g c = rw c.in-Some.is (c.new.result, refl, c.new.ensures)
