use Rattle.std.proofs.Common.{◌+◌, ◌++◌, ◌∷◌, [], List, ℕ, take, get_or, sym, subst, ◌∙◌, arith}
use Rattle.std.proofs.lemmas.List.{take_more}
use Rattle.std.proofs.lemmas.List.Elements.{All-get_or}
use Rattle.std.proofs.lemmas.Result.{err_from_is_err_and}
use Rattle.pipeline_message.specs.declared.message.Place.{Place}
use Rattle.file_output.specs.Within.{IsWithin}
use Rattle.file_output.proofs.RunLemmas.{Runs, runs_on, runs_new, runs_front}
use Rattle.file_output.proofs.placed.put_places.Goals as goal
use Rattle.file_output.proofs.placed.put_places.Goals.{then-next-end+in_ok-put_run, else-next-end}

pub returns-in_err-put_run-clause-err : goal.returns-in_err-put_run-clause-err
returns-in_err-put_run-clause-err c =
    let octets = c.args.octets.now in
    let all = c.args.places.now in
    let old = c.args.out.now in
    let l = c.loop-place in
    let r = subst (λ (o : List ℕ). Runs octets (take l.place-index all) old o l.start l.end) (sym c.in_err-put_run.ensures.err) l.invariant in
    let e = runs_front octets all l.place-index old c.put_run.new.out l.start l.end r in
    let p = err_from_is_err_and c.from_residual.result c.from_residual.ensures.1 in
    rw p.1 e

pub loop-place-preserved : goal.loop-place-preserved
loop-place-preserved c =
    let octets = c.args.octets.now in
    let all = c.args.places.now in
    let old = c.args.out.now in
    let l = c.loop-place in
    let d : Place = record { start = 0; len = 0 } in
    let p : Place = get_or all l.place-index d in
    let within = All-get_or (IsWithin octets) all l.place-index d c.loop-place-test.true c.requires in
    let b = c.if-next-end in
    subst (λ (places : List Place). Runs octets places old b.out b.start (p.start + p.len)) (sym (take_more all l.place-index d c.loop-place-test.true))
    (elim b.branch [
      | then-next-end+in_ok-put_run w ↦ subst (λ (s : ℕ). Runs octets (take l.place-index all ++ p ∷ []) old b.out s (p.start + p.len)) (sym w.start-is)
          (runs_new octets (take l.place-index all) p old l.out b.out l.start l.end l.invariant within (w.out-is ∙ w.in_ok-put_run.ensures.ok))
      | else-next-end w ↦ subst (λ (o : List ℕ). Runs octets (take l.place-index all ++ p ∷ []) old o b.start (p.start + p.len)) (sym w.out-is)
          (subst (λ (s : ℕ). Runs octets (take l.place-index all ++ p ∷ []) old l.out s (p.start + p.len)) (sym w.start-is)
          (runs_on octets (take l.place-index all) p old l.out l.start l.end l.invariant within (omega (arith, w.if-next-end.false))))
    ])
