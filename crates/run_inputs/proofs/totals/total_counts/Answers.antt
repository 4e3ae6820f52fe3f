use Rattle.std.proofs.Common.{◌≡◌, [], ◌∷◌, ◌-◌, ap, arith, drop, length, subst, sym, ◌∙◌}
use Rattle.std.proofs.lemmas.List.{drop_all}
use Rattle.call_spec.specs.Pairs.{Each}
use Rattle.run_input.specs.Inputs.{CountsAll}
use Rattle.run_input.specs.Sums.{both_counts}
use Rattle.run_inputs.proofs.TotalLemmas.{one_before}
use Rattle.run_inputs.proofs.totals.total_counts.Goals as goal

pub loop-left-init : goal.loop-left-init
loop-left-init g c = (omega arith, ([], λ n. subst (λ l. Each (λ _ x k. CountsAll x k) n l []) (sym (drop_all (length c.args.inputs.now) c.args.inputs.now (omega arith))) tt, c.none-total.ensures))

pub loop-left-preserved : goal.loop-left-preserved
loop-left-preserved g c =
    let before = c.loop-left.invariant.1 in (
      omega arith,
      (
        c.counts.result ∷ before.0,
        one_before c.args.inputs.now (c.loop-left.left - 1) c.loop-left.left c.index-inputs-left.result c.counts.result before.0 (omega arith) (omega arith) c.index-inputs-left.is c.counts.ensures before.1,
        c.added-total.ensures ∙ ap (both_counts c.counts.result) before.2,
      ),
    )

pub returns : goal.returns
returns g c =
    let all = c.loop-left.invariant.1 in
    let none : c.loop-left.left ≡ 0 = omega arith in (
      all.0,
      subst (λ i. Each (λ _ x k. CountsAll x k) 0 (drop i c.args.inputs.now) all.0) none (all.1 0),
      all.2,
    )
