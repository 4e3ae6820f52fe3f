use Rattle.std.proofs.Common.{◌≡◌, List, length, rules, ap, subst, ◌∙◌}
use Rattle.std.proofs.lemmas.List.{nil_from_length}
use Rattle.config_spec.specs.declared.conf.StageWork.{StageWork}
use Rattle.pipeline_message.specs.declared.message.DataMessage.{DataMessage}
use Rattle.pipeline_message.specs.Items.{item_of, IsSoundMessage}
use Rattle.message_stages.specs.Message.{IsLeftOf}
use Rattle.message_stages.proofs.MessageLemmas.{by_none, empty_behind, end_behind, left_behind, note_behind, tick_behind}
use Rattle.message_stages.proofs.stages.Stages.pass.Goals as goal
use Rattle.message_stages.proofs.stages.Stages.pass.Goals.{then-is_empty-via-then-is_empty, then-is_empty-via-else-is_empty+then-is_empty-2}

pub returns-then-is_empty-clause-ok : goal.returns-then-is_empty-clause-ok
returns-then-is_empty-clause-ok c = elim c.then-is_empty.branch [
  | then-is_empty-via-then-is_empty w ↦
      (let none : length c.args.self.now ≡ 0 = search rules in
      by_none c.args.self.now c.args.message.now (nil_from_length c.args.self.now none) c.requires)
  | then-is_empty-via-else-is_empty+then-is_empty-2 w ↦
      (let m = c.in-DataMsg.data.value in
      let none : length m.sets.items ≡ 0 = search rules in
      empty_behind c.args.self.now c.args.message.now m (ap item_of c.in-DataMsg.is) (nil_from_length m.sets.items none) c.requires (subst IsSoundMessage c.in-DataMsg.is c.requires))
]

pub invariant_of-self-then-not-note : goal.invariant_of-self-then-not-note
invariant_of-self-then-not-note c = c.close.ensures.ready c.self.inside.stages.items c.self.invariant

pub returns-in_ok-left-in-DataMsg-clause-ok : goal.returns-in_ok-left-in-DataMsg-clause-ok
returns-in_ok-left-in-DataMsg-clause-ok c =
    let m = c.in-DataMsg.data.value in
    let works = c.args.self.now in
    let left = c.in_ok-left-in-DataMsg.left in
    let is : IsLeftOf works m left =
    subst (λ (w : List StageWork). IsLeftOf w m left) (c.deref-in-DataMsg.ensures.value ∙ c.self.view_is)
    (subst (λ (d : DataMessage). IsLeftOf c.deref-in-DataMsg.result.now d left) c.deref-in-DataMsg-2.ensures c.in_ok-left-in-DataMsg.ensures.ok) in
    left_behind works c.args.message.now left m (ap item_of c.in-DataMsg.is) (subst IsSoundMessage c.in-DataMsg.is c.requires) is

pub returns-after-not-note-clause-ok : goal.returns-after-not-note-clause-ok
returns-after-not-note-clause-ok c = note_behind c.args.self.now c.args.message.now c.in-SessionMsg.note c.in-SessionMsg.is

pub returns-in-Periodic-clause-ok : goal.returns-in-Periodic-clause-ok
returns-in-Periodic-clause-ok c = tick_behind c.args.self.now c.args.message.now c.in-Periodic.input c.in-Periodic.seconds c.in-Periodic.is

pub returns-in-Terminate-clause-ok : goal.returns-in-Terminate-clause-ok
returns-in-Terminate-clause-ok c = end_behind c.args.self.now c.args.message.now c.in-Terminate.is
