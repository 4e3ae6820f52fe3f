use Rattle.std.proofs.Common.{◌++◌, ◌∷◌, []}
use Rattle.ipfix_reader.specs.Left.{kind_left, templates_left}
use Rattle.ipfix_reader.specs.Walk.{touch_by}
use Rattle.ipfix_reader.proofs.WalkLemmas.{touched_more}
use Rattle.file_templates.specs.DomainTemplates.{definition_of}
use Rattle.file_templates.proofs.TemplateRecordsLemmas.{one_touch_later}
use Rattle.file_templates.proofs.domain_templates.DomainTemplates.take_set.Goals as goal

pub loop-raw-preserved : goal.loop-raw-preserved
loop-raw-preserved c =
    let i = c.loop-raw.invariant in
    let raw = c.in-Some.raw in (
      i.0 ++ touch_by raw ∷ [],
      touched_more (kind_left c.next.new.self) (templates_left c.next.new.self) raw i.1 c.in-Some.ensures.steps,
      one_touch_later (definition_of c.args.self.now) (definition_of c.loop-raw.self) (definition_of c.take.new.self) i.0 (touch_by raw) i.2 c.in_ok-take.ensures,
    )
