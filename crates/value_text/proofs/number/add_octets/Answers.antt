use Rattle.std.proofs.Common.{◌≤◌, ◌^◌, arith, lit<}
use Rattle.std.proofs.Math.Nat.{pow-le-pow_right}
use Rattle.value_text.proofs.number.add_octets.Goals as goal

pub overflow_mul-n : goal.overflow_mul-n
overflow_mul-n c = let most : 256 ^ c.loop-octet.octet-index ≤ 256 ^ 7 = pow-le-pow_right {n = 256} (lit< tt) {i = c.loop-octet.octet-index} {j = 7} (omega arith) in omega arith

pub overflow_add-n : goal.overflow_add-n
overflow_add-n c = let most : 256 ^ c.loop-octet.octet-index ≤ 256 ^ 7 = pow-le-pow_right {n = 256} (lit< tt) {i = c.loop-octet.octet-index} {j = 7} (omega arith) in omega arith
