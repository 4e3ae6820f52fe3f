use Rattle.std.proofs.Common.{◌∙◌, sym}
use Rattle.record_iter.specs.Left.{fields_left, octets_left, place_of}
use Rattle.filter_stage.proofs.MatchLemmas.{passes_matches, others_match}
use Rattle.filter_stage.proofs.plain.matches.Goals as goal

pub returns-then-field_passes : goal.returns-then-field_passes
returns-then-field_passes c =
    let old = c.loop-found.found-iterator in
    let it = c.next.new.self in
    sym (passes_matches c.args.rule.now (fields_left old) (place_of old) (octets_left old) c.in-Some.found (fields_left it) (place_of it) (octets_left it) c.in-Some.ensures.steps (sym c.field_passes.ensures ∙ c.if-field_passes.true)) ∙ c.loop-found.invariant

pub loop-found-preserved : goal.loop-found-preserved
loop-found-preserved c =
    let old = c.loop-found.found-iterator in
    let it = c.next.new.self in
    sym (others_match c.args.rule.now (fields_left old) (place_of old) (octets_left old) c.in-Some.found (fields_left it) (place_of it) (octets_left it) c.in-Some.ensures.steps (sym c.field_passes.ensures ∙ c.if-field_passes.false)) ∙ c.loop-found.invariant
