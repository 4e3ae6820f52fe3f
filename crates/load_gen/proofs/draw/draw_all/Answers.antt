use Rattle.std.proofs.Common.{◌<◌, length, rules}
use Rattle.load_gen.proofs.DrawnLemmas.{drawn_more}
use Rattle.load_gen.proofs.draw.draw_all.Goals as goal

pub loop-octet-preserved : goal.loop-octet-preserved
loop-octet-preserved c =
    let inside : c.loop-octet.octet-index < length c.loop-octet.octets = search rules in
    drawn_more c.args.state c.loop-octet.octet-index c.loop-octet.octets c.loop-octet.left _ _ c.next_state-left.ensures c.octet_in.ensures inside c.loop-octet.invariant
