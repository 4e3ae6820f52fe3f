use Rattle.std.proofs.Common.{◌≡◌, ℕ, List, [], ◌∷◌, ap, sym, subst, ◌∙◌}
use Rattle.wire_spec.specs.Record.{IsRecord}
use Rattle.config_spec.specs.declared.conf.StageWork.{StageWork}
use Rattle.config_spec.specs.declared.conf.StageWork.TheVariants as W
use Rattle.act_spec.specs.Anonymise.{hidden_values}
use Rattle.act_spec.proofs.HiddenLemmas.{hidden_is}
use Rattle.run_spec.specs.Records.{Record, record_of}
use Rattle.result_spec.specs.Through.{records_through}
use Rattle.stage_chain.specs.declared.stage.PreparedStage.{PreparedStage}
use Rattle.stage_chain.specs.Table.{work_of, HasRows}
use Rattle.stage_chain.specs.Suits.{SuitsStage}
use Rattle.stage_chain.proofs.BehindLemmas.{hidden_one}
use Rattle.stage_chain.proofs.stage.Stage.passes.Goals as goal

pub returns-in-Anonymise-Anonymise-clause-left : goal.returns-in-Anonymise-Anonymise-clause-left
returns-in-Anonymise-Anonymise-clause-left c =
    let t = c.in-Anonymise-Anonymise.field-0-0 in
    let def = c.args.def.now in
    let is : c.args.self.now ≡ W.Anonymise t = sym c.self.view_is ∙ ap work_of c.in-Anonymise-Anonymise.is-0 in
    let suits = subst (λ (p : PreparedStage). SuitsStage (W.Anonymise t) def.fields p) c.in-Anonymise-Anonymise.is-1 (subst (λ (w : StageWork). SuitsStage w def.fields c.args.prepared.now) is c.requires.suits) in
    let holds = subst HasRows c.in-Anonymise-Anonymise.is-0 c.self.invariant in
    ap (λ (w : StageWork). records_through w def (record_of def.fields c.args.rec.now ∷ [])) is
    ∙ (ap (λ (r : Record). r ∷ []) (hidden_one t def c.args.rec.now c.requires.is_record) ∙ ap (λ (o : List ℕ). record_of def.fields o ∷ []) (sym (c.hide.ensures t holds suits)))

pub returns-in-Anonymise-Anonymise-clause-is_record : goal.returns-in-Anonymise-Anonymise-clause-is_record
returns-in-Anonymise-Anonymise-clause-is_record c =
    let t = c.in-Anonymise-Anonymise.field-0-0 in
    let def = c.args.def.now in
    let is : c.args.self.now ≡ W.Anonymise t = sym c.self.view_is ∙ ap work_of c.in-Anonymise-Anonymise.is-0 in
    let suits = subst (λ (p : PreparedStage). SuitsStage (W.Anonymise t) def.fields p) c.in-Anonymise-Anonymise.is-1 (subst (λ (w : StageWork). SuitsStage w def.fields c.args.prepared.now) is c.requires.suits) in
    let holds = subst HasRows c.in-Anonymise-Anonymise.is-0 c.self.invariant in
    let r = c.requires.is_record in
    (hidden_values t def.fields r.0, subst (λ (o : List ℕ). IsRecord def.fields o (hidden_values t def.fields r.0)) (sym (c.hide.ensures t holds suits)) (hidden_is t def.fields c.args.rec.now r.0 r.1))
