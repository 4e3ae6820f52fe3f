use Rattle.std.proofs.Common.{take}
use Rattle.prepared_lines.specs.Way.{AreHot}
use Rattle.prepared_lines.proofs.choose.hot_members.Given as goal

abbrev pub invariant-loop-member : goal.invariant-loop-member
invariant-loop-member l = AreHot l.places (take l.member-index l.members) l.fast.items
