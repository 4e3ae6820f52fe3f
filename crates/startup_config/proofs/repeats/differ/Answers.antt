use Rattle.std.proofs.Common.{◌≡◌, ◌∙◌, false, take}
use Rattle.config_spec.specs.Repeats.{is_marked}
use Rattle.startup_config.proofs.RepeatLemmas.{repeat_more, seen_more, unseen}
use Rattle.startup_config.proofs.repeats.differ.Goals as goal

pub loop-place-preserved : goal.loop-place-preserved
loop-place-preserved c =
    let none : is_marked c.index-all-place.result.mark (take c.loop-place.place c.args.all.now) ≡ false =
    unseen _ _ c.as_slice.result _ c.in-Ok.added c.as_slice.ensures c.loop-place.invariant.1 c.in-Ok.ensures.added c.if-not-added.false in (
      c.loop-place.invariant.0 ∙ repeat_more _ _ c.index-all-place.result c.loop-place-test.true c.index-all-place.is none,
      seen_more _ _ c.index-all-place.result c.as_slice.result _ _ c.loop-place-test.true c.index-all-place.is c.as_slice.ensures c.in-Ok.ensures.updates c.loop-place.invariant.1,
    )
