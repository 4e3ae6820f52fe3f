use Rattle.load_gen.proofs.DrawnLemmas.{AreDrawn}
use Rattle.load_gen.proofs.draw.draw_all.Given as goal

abbrev pub invariant-loop-octet : goal.invariant-loop-octet
invariant-loop-octet l = AreDrawn l.fn.state l.octet-index l.octets l.left
