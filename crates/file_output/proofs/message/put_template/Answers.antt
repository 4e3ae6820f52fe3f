use Rattle.std.proofs.Common.{◌≡◌, ◌++◌, ◌∙◌, ap, ◌+◌, length, arith}
use Rattle.wire_spec.specs.Specifiers.{two_octets, specifiers}
use Rattle.wire_spec.specs.Message.{set_id, front}
use Rattle.file_spec.specs.File.{scope_octets}
use Rattle.file_output.proofs.MessageLemmas.{template_written}
use Rattle.file_output.proofs.message.put_template.Goals as goal

-- src/message.rt:69:1
pub returns-clause-ok : goal.returns-clause-ok
returns-clause-ok c =
    let def = c.args.definition.now in
    let scope = scope_octets def.kind def.scope in
    let specs = specifiers def.fields in
    let kind = c.front.ensures ∙ ap front c.kind-kind.ensures in
    let written = c.specs_len.ensures.is in
    let sized : 4 + c.front.result + c.specs_len.result ≡ 4 + front def.kind + length specs = omega arith in
    c.in_ok-put_specs.ensures.ok
    ∙ (ap (λ o. o ++ specs) c.in_ok-put_scope.ensures.ok
    ∙ (ap (λ o. o ++ scope ++ specs) c.in_ok-put_pair-2.ensures.ok
    ∙ (ap (λ o. o ++ (two_octets c.args.number ++ two_octets c.count_fields.result) ++ scope ++ specs) c.in_ok-put_pair.ensures.ok
    ∙ template_written c.args.out.now c.put_head.new.out c.args.head c.args.number def c.set_id.result (4 + c.front.result + c.specs_len.result) c.count_fields.result
    (c.set_id.ensures ∙ ap set_id c.kind-kind.ensures) sized c.count_fields.ensures c.in_ok-put_head.ensures.ok)))
