use Rattle.std.proofs.Common.{length}
use Rattle.address_bits.proofs.change.+keep_bits.Given as goal

abbrev pub decreases-keep_bits : goal.decreases-keep_bits
decreases-keep_bits l = length l.octets.now
