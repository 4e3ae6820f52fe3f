use Rattle.std.proofs.Common.{length}
use Rattle.std.specs.Prelude.{filter}
use Rattle.session_table.specs.Rows.{is_idle_row}
use Rattle.input_lane.specs.Steps.{Idles}
use Rattle.input_lane.proofs.close.close_idle.Given as goal

abbrev pub invariant-loop-key : goal.invariant-loop-key
invariant-loop-key l = Idles l.now l.initial.sessions l.sessions l.initial.hand.items l.hand.items

abbrev pub decreases-loop-key : goal.decreases-loop-key
decreases-loop-key l = length (filter (is_idle_row l.sessions.idle l.now) l.sessions.peers)
