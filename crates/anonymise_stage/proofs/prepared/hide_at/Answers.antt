use Rattle.std.proofs.Common.{◌+◌, ◌-◌, arith}
use Rattle.anonymise_stage.proofs.PreparedLemmas.{placed}
use Rattle.anonymise_stage.proofs.prepared.hide_at.Goals as goal

pub returns : goal.returns
returns c = λ table h. placed table c.args.place (c.args.place.at + c.args.place.len - c.args.place.at) c.args.rec.now c.hide_value.new.value (omega arith) (c.hide_value.ensures table h)
