use Rattle.std.proofs.Common.{◌∙◌, sym}
use Rattle.file_output.proofs.RunLemmas.{placed_long}
use Rattle.file_output.proofs.placed.PlacedSetSetRecords.size.Goals as goal

pub returns : goal.returns
returns c =
    let s = c.args.self.now in
    s.sized ∙ sym (placed_long s.octets.now s.places.now s.inside)
