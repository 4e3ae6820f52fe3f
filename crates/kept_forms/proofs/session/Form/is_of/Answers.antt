use Rattle.std.proofs.Common.{◌≡◌, true, false, sym, ◌∙◌}
use Rattle.template_def.specs.Same.{definition_Decides}
use Rattle.kept_forms.proofs.session.Form.is_of.Goals as goal

pub returns-clause-same : goal.returns-clause-same
returns-clause-same g c = λ e.
    let same = (definition_Decides c.deref.result.now c.deref-2.result.now).0 (sym c.eq.ensures ∙ e) in
    sym c.deref-2.ensures ∙ (sym same ∙ c.deref.ensures)

pub returns-clause-other : goal.returns-clause-other
returns-clause-other g c = λ e same.
    (let is = (definition_Decides c.deref.result.now c.deref-2.result.now).1 (c.deref.ensures ∙ (sym same ∙ sym c.deref-2.ensures)) in
    let wrong : false ≡ true = sym e ∙ (c.eq.ensures ∙ is) in
    cc)
