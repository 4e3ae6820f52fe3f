use Rattle.std.proofs.Common.{◌∙◌}
use Rattle.filter_stage.proofs.PreparedLemmas.{fixed_decides, fixed_inside}
use Rattle.filter_stage.proofs.rule.PreparedRule.matches_fixed.Goals as goal

pub passes_at-requires : goal.passes_at-requires
passes_at-requires c =
    fixed_inside c.args.self.now.rule c.deref.result.now c.args.def.now.fields c.args.rec.now c.requires.fixed (c.deref.ensures.value ∙ c.requires.places) c.requires.is_record

pub returns : goal.returns
returns c =
    c.passes_at.ensures
    ∙ fixed_decides c.args.self.now.rule c.deref.result.now c.args.def.now.fields c.args.rec.now c.requires.fixed (c.deref.ensures.value ∙ c.requires.places) c.requires.is_record
