use Rattle.std.proofs.Common.{◌∙◌, ap, map, List}
use Rattle.wire_spec.specs.Values.{values_of}
use Rattle.act_spec.specs.Filter.{keeps_by}
use Rattle.filter_stage.specs.declared.rule.PreparedRule.{PreparedRule}
use Rattle.filter_stage.specs.Prepared.{rule_of}
use Rattle.filter_stage.proofs.PreparedLemmas.{table_decides}
use Rattle.filter_stage.proofs.prepared.PreparedFilter.keeps.Goals as goal

pub returns-then-self : goal.returns-then-self
returns-then-self c = λ table s.
    (let fields = c.args.def.now.fields in
    let values = values_of fields c.args.rec.now in
    c.keeps_fixed.ensures
    ∙ (ap (λ (rules : List PreparedRule). keeps_by c.args.self.now.default_keep (map rule_of rules) fields values) c.deref.ensures.value ∙ table_decides table fields c.args.self.now values s))

pub returns-else-self : goal.returns-else-self
returns-else-self c = λ table s.
    (let fields = c.args.def.now.fields in
    let values = values_of fields c.args.rec.now in
    c.keeps_varying.ensures
    ∙ (ap (λ (rules : List PreparedRule). keeps_by c.args.self.now.default_keep (map rule_of rules) fields values) c.deref-else-self.ensures.value ∙ table_decides table fields c.args.self.now values s))
