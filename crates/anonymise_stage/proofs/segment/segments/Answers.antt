use Rattle.std.proofs.Common.{subst, ◌∙◌, take_all, List, ℕ}
use Rattle.std.specs.List.Sorted.{IsPermutation}
use Rattle.std.proofs.lemmas.List.Sorted.{IsNonDecreasingBy-from_sort}
use Rattle.anonymise_stage.proofs.SegmentLemmas.{are_segments}
use Rattle.anonymise_stage.proofs.segment.segments.Goals as goal

pub returns : goal.returns
returns c =
    let rows = c.args.rows.now in
    let sorted = c.sort.new.self.items in
    let all = c.deref-start-items.result.now in
    are_segments c.args.octets rows sorted c.loop-start.segments.items (subst (λ (bounds : List ℕ). IsPermutation bounds sorted) c.in_ok-starts.ensures c.in_ok-sort.ensures.permutation)
    (IsNonDecreasingBy-from_sort (λ (n : ℕ). n) sorted c.in_ok-sort.ensures.sorted) (c.loop-start.invariant.starts ∙ (take_all c.loop-start.start-index all c.loop-start-test.false ∙ c.deref-start-items.ensures.value))
    c.loop-start.invariant.each
