use Rattle.std.proofs.Common.{◌≡◌, ◌++◌, [], ◌∷◌, List, Some, arith}
use Rattle.std.specs.Prelude.{find, nat_lt}
use Rattle.run_spec.specs.Work.{Item}
use Rattle.file_spec.specs.File.{needed_by}
use Rattle.file_output.specs.Stands.{IsItemOf, StandsFor}
use Rattle.file_output.specs.Placed.{IsPlacedItem, body_of}
use Rattle.file_output.proofs.PlacedLemmas.{placed_sized, placed_item}
use Rattle.file_output.proofs.LimitLemmas.{at_limit}
use Rattle.file_output.proofs.kept.Numbering.put_placed.Goals as goal

pub put-requires : goal.put-requires
put-requires c =
    let s = placed_sized c.args.sets.now in
    let room = c.requires in
    omega arith

pub returns-in-Ok-clause-ok : goal.returns-in-Ok-clause-ok
returns-in-Ok-clause-ok c = λ items item stands is. c.in-Ok.ensures.ok items item stands (placed_item c.args.domain c.args.export c.args.sets.now item is)

pub returns-in-Err-clause-limit : goal.returns-in-Err-clause-limit
returns-in-Err-clause-limit c =
    let before = c.args.self.now in
    let sets = c.args.sets.now in
    at_limit (λ n. (items : List Item) (item : Item) → StandsFor items before → IsItemOf body_of c.args.domain c.args.export sets item → find (nat_lt before.last) (needed_by (items ++ item ∷ []) item) ≡ Some n)
    (λ n. (items : List Item) (item : Item) → StandsFor items before → IsPlacedItem c.args.domain c.args.export sets item → find (nat_lt before.last) (needed_by (items ++ item ∷ []) item) ≡ Some n)
    (λ n p items item stands is. p items item stands (placed_item c.args.domain c.args.export sets item is))
    c.in-Err.fault c.in-Err.ensures.limit
