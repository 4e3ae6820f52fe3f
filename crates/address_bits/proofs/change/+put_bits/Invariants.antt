use Rattle.std.proofs.Common.{length}
use Rattle.address_bits.proofs.change.+put_bits.Given as goal

abbrev pub decreases-put_bits : goal.decreases-put_bits
decreases-put_bits l = length l.octets.now
