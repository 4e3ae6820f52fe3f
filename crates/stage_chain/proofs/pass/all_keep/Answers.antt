use Rattle.std.proofs.Common.{◌≡◌, ◌+◌, false, List, [], ◌∷◌, drop, ap, subst, ◌∙◌}
use Rattle.std.specs.List.{list_any}
use Rattle.std.proofs.lemmas.Bool.{or_parts}
use Rattle.std.proofs.lemmas.List.{drop_all}
use Rattle.config_spec.specs.declared.conf.StageWork.{StageWork}
use Rattle.run_spec.specs.Records.{record_of}
use Rattle.stage_chain.specs.Behind.{changes, records_behind}
use Rattle.stage_chain.proofs.BehindLemmas.{none_behind}
use Rattle.stage_chain.proofs.SuitLemmas.{first_of, suited_none}
use Rattle.stage_chain.proofs.pass.all_keep.Goals as goal

pub keeps-requires-clause-suits : goal.keeps-requires-clause-suits
keeps-requires-clause-suits c =
    let works = c.args._stages.now in
    let i = c.loop-stage.stage-index in
    let f = first_of works c.args.def.now.fields c.args.prepared.now i c.stage-item.result c.loop-stage-test.true c.stage-item.is c.loop-stage.invariant.suit in
    let none = or_parts (changes f.work) (list_any changes (drop (i + 1) works)) (subst (λ (l : List StageWork). list_any changes l ≡ false) f.split c.loop-stage.invariant.none) in
    (f.work, f.suits, none.0)

pub returns-then-not-keeps : goal.returns-then-not-keeps
returns-then-not-keeps c =
    let works = c.args._stages.now in
    let def = c.args.def.now in
    let i = c.loop-stage.stage-index in
    let f = first_of works def.fields c.args.prepared.now i c.stage-item.result c.loop-stage-test.true c.stage-item.is c.loop-stage.invariant.suit in
    let none = or_parts (changes f.work) (list_any changes (drop (i + 1) works)) (subst (λ (l : List StageWork). list_any changes l ≡ false) f.split c.loop-stage.invariant.none) in
    c.loop-stage.invariant.left
    ∙ (ap (λ (l : List StageWork). records_behind l def (record_of def.fields c.args.rec.now ∷ [])) f.split
    ∙ (ap (records_behind (drop (i + 1) works) def) (c.if-not-keeps.ensures f.work f.suits none.0) ∙ none_behind (drop (i + 1) works) def))

pub loop-stage-preserved : goal.loop-stage-preserved
loop-stage-preserved c =
    let works = c.args._stages.now in
    let def = c.args.def.now in
    let i = c.loop-stage.stage-index in
    let f = first_of works def.fields c.args.prepared.now i c.stage-item.result c.loop-stage-test.true c.stage-item.is c.loop-stage.invariant.suit in
    let none = or_parts (changes f.work) (list_any changes (drop (i + 1) works)) (subst (λ (l : List StageWork). list_any changes l ≡ false) f.split c.loop-stage.invariant.none) in
    record {
      left = c.loop-stage.invariant.left
          ∙ (ap (λ (l : List StageWork). records_behind l def (record_of def.fields c.args.rec.now ∷ [])) f.split
          ∙ ap (records_behind (drop (i + 1) works) def) (c.if-not-keeps.ensures f.work f.suits none.0));
      suit = f.rest;
      none = none.1;
    }

pub returns : goal.returns
returns c =
    let def = c.args.def.now in
    let i = c.loop-stage.stage-index in
    let none = suited_none (drop i c.args._stages.now) def.fields (drop i c.args.prepared.now) (drop_all i c.args.prepared.now c.loop-stage-test.false) c.loop-stage.invariant.suit in
    c.loop-stage.invariant.left ∙ ap (λ (l : List StageWork). records_behind l def (record_of def.fields c.args.rec.now ∷ [])) none
