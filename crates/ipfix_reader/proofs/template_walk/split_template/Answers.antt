use Rattle.std.proofs.Common.{take, drop, sym}
use Rattle.std.proofs.lemmas.Bool.{both_ways}
use Rattle.std.proofs.lemmas.List.{take-append-drop}
use Rattle.std.specs.Prelude.{Ok}
use Rattle.wire_spec.specs.Message.{is_padding}
use Rattle.wire_spec.proofs.BeginsLemmas.{template_first}
use Rattle.ipfix_reader.proofs.LeftLemmas.{templates_open, templates_rest}
use Rattle.ipfix_reader.proofs.template_walk.split_template.Goals as goal

pub returns-in-Ok-clause-first : goal.returns-in-Ok-clause-first
returns-in-Ok-clause-first c =
    let o = c.args.octets.now in
    rw c.split_at.ensures.front ((template_first c.args.kind o (both_ways (is_padding o) c.requires.some) (Ok c.in-Ok.size) c.in-Ok.ensures).item)

pub returns-in-Ok-clause-rest : goal.returns-in-Ok-clause-rest
returns-in-Ok-clause-rest c =
    let o = c.args.octets.now in
    let n = c.in-Ok.size in
    let first = (template_first c.args.kind o (both_ways (is_padding o) c.requires.some) (Ok n) c.in-Ok.ensures).item in
    rw c.split_at.ensures.back (templates_rest c.args.kind o (take n o) (drop n o) (sym (take-append-drop n o)) first c.requires.whole)

pub returns-in-Err-clause-joined : goal.returns-in-Err-clause-joined
returns-in-Err-clause-joined c = absurd (templates_open c.args.kind c.args.octets.now c.in-Err.field-0 c.requires.some c.requires.whole c.in-Err.ensures.0)

pub returns-in-Err-clause-length : goal.returns-in-Err-clause-length
returns-in-Err-clause-length c = absurd (templates_open c.args.kind c.args.octets.now c.in-Err.field-0 c.requires.some c.requires.whole c.in-Err.ensures.0)

pub returns-in-Err-clause-first : goal.returns-in-Err-clause-first
returns-in-Err-clause-first c = absurd (templates_open c.args.kind c.args.octets.now c.in-Err.field-0 c.requires.some c.requires.whole c.in-Err.ensures.0)
