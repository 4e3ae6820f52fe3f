use Rattle.socket_io.proofs.descriptors.+are_left.Given as goal

-- each call asks for one less
abbrev pub decreases-are_left : goal.decreases-are_left
decreases-are_left l = l.count
