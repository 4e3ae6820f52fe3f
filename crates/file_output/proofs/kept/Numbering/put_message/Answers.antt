use Rattle.std.proofs.Common.{◌≡◌, ◌++◌, [], ◌∷◌, List, Some, sym, subst, arith}
use Rattle.std.specs.Prelude.{find, nat_lt}
use Rattle.run_spec.specs.Work.{Item}
use Rattle.file_spec.specs.File.{needed_by}
use Rattle.file_output.specs.Stands.{IsItemOf, StandsFor}
use Rattle.file_output.specs.FileSets.{IsFileItem}
use Rattle.file_output.specs.Counted.{AreCounted, counted_body}
use Rattle.file_output.proofs.CountedLemmas.{counted_sized, file_item}
use Rattle.file_output.proofs.LimitLemmas.{at_limit}
use Rattle.file_output.proofs.kept.Numbering.put_message.Goals as goal

pub put-requires : goal.put-requires
put-requires c =
    let sets = c.args.sets.now.items in
    let counted = c.deref-2.result.now in
    let a : AreCounted sets counted = subst (λ l. AreCounted l counted) c.deref.ensures.value (subst (AreCounted c.deref.result.now) (sym c.deref-2.ensures.value) c.in-Ok.ensures) in
    let s = counted_sized sets counted a in
    let room = c.requires.room in
    omega arith

pub returns-in-Ok-put-clause-ok : goal.returns-in-Ok-put-clause-ok
returns-in-Ok-put-clause-ok c = λ items item stands is.
    (let sets = c.args.sets.now.items in
    let counted = c.deref-2.result.now in
    let a : AreCounted sets counted = subst (λ l. AreCounted l counted) c.deref.ensures.value (subst (AreCounted c.deref.result.now) (sym c.deref-2.ensures.value) c.in-Ok.ensures) in
    c.in-Ok-put.ensures.ok items item stands (file_item c.args.domain c.args.export sets counted item a is))

pub returns-clause-limit : goal.returns-clause-limit
returns-clause-limit c =
    let before = c.args.self.now in
    let sets = c.args.sets.now.items in
    let counted = c.deref-2.result.now in
    let a : AreCounted sets counted = subst (λ l. AreCounted l counted) c.deref.ensures.value (subst (AreCounted c.deref.result.now) (sym c.deref-2.ensures.value) c.in-Ok.ensures) in
    at_limit (λ n. (items : List Item) (item : Item) → StandsFor items before → IsItemOf counted_body c.args.domain c.args.export counted item → find (nat_lt before.last) (needed_by (items ++ item ∷ []) item) ≡ Some n)
    (λ n. (items : List Item) (item : Item) → StandsFor items before → IsFileItem c.args.domain c.args.export sets item → find (nat_lt before.last) (needed_by (items ++ item ∷ []) item) ≡ Some n)
    (λ n p items item stands is. p items item stands (file_item c.args.domain c.args.export sets counted item a is))
    c.in-Err.fault c.in-Err.ensures.limit
