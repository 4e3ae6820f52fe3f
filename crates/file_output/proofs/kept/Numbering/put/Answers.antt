use Rattle.std.proofs.Common.{◌≡◌, ◌++◌, [], ◌∷◌, List, Some}
use Rattle.std.specs.Prelude.{find, nat_lt}
use Rattle.run_spec.specs.Work.{Item}
use Rattle.file_spec.specs.File.{needed_by}
use Rattle.file_output.specs.Sets.{numbers_in}
use Rattle.file_output.specs.Stands.{domain_in, IsItemOf, StandsFor}
use Rattle.file_output.proofs.LimitLemmas.{at_limit}
use Rattle.file_output.proofs.PutLemmas.{is_put, needs_more}
use Rattle.file_output.proofs.kept.Numbering.put.Goals as goal

pub returns-in-Ok-clause-ok : goal.returns-in-Ok-clause-ok
returns-in-Ok-clause-ok g c =
    is_put g.S.SetRecords.body c.args.domain c.args.export c.args.sets.now c.args.self.now c.put_sets.new.self c.args.out.now c.put_sets.new.out c.in-Ok.ensures.ok c.in-Ok.ensures.after c.in-Ok.ensures.enough

pub returns-in-Err-clause-limit : goal.returns-in-Err-clause-limit
returns-in-Err-clause-limit g c =
    let before = c.args.self.now in
    let sets = c.args.sets.now in
    at_limit (λ n. find (nat_lt before.last) (numbers_in g.S.SetRecords.body (domain_in before c.args.domain).known sets) ≡ Some n)
    (λ n. (items : List Item) (item : Item) → StandsFor items before → IsItemOf g.S.SetRecords.body c.args.domain c.args.export sets item → find (nat_lt before.last) (needed_by (items ++ item ∷ []) item) ≡ Some n)
    (needs_more g.S.SetRecords.body c.args.domain c.args.export sets before)
    c.in-Err.fault c.in-Err.ensures.limit
