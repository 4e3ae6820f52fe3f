use Rattle.std.proofs.Common.{length}
use Rattle.cut_bench.proofs.cut_piece.Given as goal

abbrev pub decreases-loop-message : goal.decreases-loop-message
decreases-loop-message l = length l.cutter
