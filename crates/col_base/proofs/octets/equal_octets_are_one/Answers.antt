use Rattle.std.proofs.Common.{refl}
use Rattle.std.specs.Prelude.{nat_eq}
use Rattle.std.specs.Cmp.{unsigned_Decides}
use Rattle.std.specs.Cmp.Lexicographic.{pointwise}
use Rattle.std.proofs.lemmas.Slice.Eq.{slice_eq-Decides}
use Rattle.col_base.proofs.octets.equal_octets_are_one.Goals as goal

pub returns : goal.returns
returns c = λ a b. slice_eq-Decides unsigned_Decides a b (pointwise nat_eq a b) refl
