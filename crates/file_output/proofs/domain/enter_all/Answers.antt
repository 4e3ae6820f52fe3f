use Rattle.std.proofs.Common.{◌≡◌, ◌∙◌, ap, take_all, ◌<◌, ◌+◌, Some}
use Rattle.std.specs.Prelude.{find, nat_lt, slice_index_or}
use Rattle.file_spec.specs.File.{place_of, with_definition}
use Rattle.file_output.specs.Sets.{known_after, numbers_in}
use Rattle.file_output.proofs.LimitLemmas.{at_limit, limit_met, limit_kept, sets_known, front_known}
use Rattle.file_output.proofs.domain.enter_all.Goals as goal

pub returns-in-Err-clause-limit : goal.returns-in-Err-clause-limit
returns-in-Err-clause-limit g c =
    let body = g.S.SetRecords.body in
    let sets = c.args.sets.now in
    let i = c.loop-set.set-index in
    let set = c.set-item.result in
    let now = c.loop-set.known in
    let found : c.definition.result.now.value ≡ (body (slice_index_or sets i set)).definition = c.definition.ensures ∙ ap (λ s. (body s).definition) c.set-item.is in
    at_limit (λ n. (n ≡ 255 + place_of c.definition.result.now.value (with_definition now c.definition.result.now.value)) × (c.args.last < n)) (λ n. find (nat_lt c.args.last) (numbers_in body c.args.known.now sets) ≡ Some n)
    (λ n p. limit_met body c.args.known.now sets c.args.last i set n now c.loop-set-test.true c.loop-set.invariant.entered c.loop-set.invariant.room
    (p.0 ∙ ap (λ d. 255 + place_of d (with_definition now d)) found) p.1)
    c.in-Err.fault c.in-Err.ensures.limit

pub returns-in-Err-clause-front : goal.returns-in-Err-clause-front
returns-in-Err-clause-front g c =
    front_known g.S.SetRecords.body c.args.known.now c.args.sets.now c.loop-set.set-index c.enter.new.self (c.in-Err.ensures.err ∙ c.loop-set.invariant.entered)

pub returns-clause-known : goal.returns-clause-known
returns-clause-known g c = sets_known g.S.SetRecords.body c.args.known.now c.args.sets.now c.loop-set.known (c.loop-set.invariant.entered ∙ ap (known_after g.S.SetRecords.body c.args.known.now) (take_all c.loop-set.set-index c.args.sets.now c.loop-set-test.false))

pub returns-clause-enough : goal.returns-clause-enough
returns-clause-enough g c = limit_kept g.S.SetRecords.body c.args.known.now c.args.sets.now c.args.last c.loop-set.known (c.loop-set.invariant.entered ∙ ap (known_after g.S.SetRecords.body c.args.known.now) (take_all c.loop-set.set-index c.args.sets.now c.loop-set-test.false)) c.loop-set.invariant.room

pub returns-clause-front : goal.returns-clause-front
returns-clause-front g c = front_known g.S.SetRecords.body c.args.known.now c.args.sets.now c.loop-set.set-index c.loop-set.known c.loop-set.invariant.entered
