use Rattle.act_spec.proofs.BitLemmas.{bits_masked, bits_in_place}
use Rattle.act_spec.proofs.bits.bits_are_cut_and_put_in_place.Goals as goal

pub returns : goal.returns
returns c = record { cut = bits_masked; put = bits_in_place }
