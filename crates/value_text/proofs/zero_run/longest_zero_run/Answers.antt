use Rattle.std.proofs.Common.{ap₂, arith}
use Rattle.std.proofs.NetLemmas.Texts.{IsZeroRun-longest_zero_run}
use Rattle.value_text.proofs.RunLemmas.{run_at}
use Rattle.value_text.proofs.zero_run.longest_zero_run.Goals as goal

pub returns-clause-value : goal.returns-clause-value
returns-clause-value c =
    let row = run_at c.args.groups.now c.zero_set-row.result c.told-groups c.zero_set-row.ensures.is c.zero_set-row.ensures.within in
    ap₂ (λ a b. (a, b)) row.0 row.1

pub returns-clause-within : goal.returns-clause-within
returns-clause-within c =
    let row = run_at c.args.groups.now c.zero_set-row.result c.told-groups c.zero_set-row.ensures.is c.zero_set-row.ensures.within in
    let within = (IsZeroRun-longest_zero_run c.args.groups.now).0 in
    omega (arith, row.0, row.1, within)
