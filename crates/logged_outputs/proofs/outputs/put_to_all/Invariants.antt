use Rattle.std.proofs.Common.{◌≡◌, length, vec_len}
use Rattle.logged_outputs.specs.Outputs.{PutsMessage}
use Rattle.logged_outputs.proofs.BehindLemmas.{Changed}
use Rattle.logged_outputs.proofs.outputs.put_to_all.Given as goal

abbrev pub invariant-loop-index : goal.invariant-loop-index
invariant-loop-index g l =
    Changed (PutsMessage g.K.Sink.held g.K.Sink.total g.K.Sink.faults g.T.MessageTexts.stands l.message) l.index l.initial.outputs.items l.outputs.items
    × (length l.outputs.items ≡ length l.initial.outputs.items)
