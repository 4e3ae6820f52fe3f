use Rattle.std.proofs.Common.{◌≤◌, ◌^◌, arith, lit<}
use Rattle.std.proofs.Math.Nat.{pow-le-pow_right}
use Rattle.anonymise_stage.proofs.prepared_row.high_number.Goals as goal

pub overflow_mul-number : goal.overflow_mul-number
overflow_mul-number c = let most : 256 ^ c.loop-octet.octet-index ≤ 256 ^ 15 = pow-le-pow_right {n = 256} (lit< tt) {i = c.loop-octet.octet-index} {j = 15} (omega arith) in omega arith

pub overflow_add-number : goal.overflow_add-number
overflow_add-number c = let most : 256 ^ c.loop-octet.octet-index ≤ 256 ^ 15 = pow-le-pow_right {n = 256} (lit< tt) {i = c.loop-octet.octet-index} {j = 15} (omega arith) in omega arith
