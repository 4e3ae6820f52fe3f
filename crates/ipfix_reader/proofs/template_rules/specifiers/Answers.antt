use Rattle.std.proofs.Common.{◌≡◌, ◌-◌, ◌∙◌, ap, drop, length, arith, length-drop}
use Rattle.wire_spec.specs.Message.{specifiers_size, shortest_of_specifiers, specifier_size, least_of}
use Rattle.col_base.specs.Numbers.{be16_at}
use Rattle.ipfix_reader.proofs.SpecifierLemmas.{size_step, least_step}
use Rattle.ipfix_reader.proofs.template_rules.specifiers.Goals as goal

pub loop-left-preserved : goal.loop-left-preserved
loop-left-preserved c =
    let i = c.loop-left.invariant in
    let left = c.loop-left.left in
    let rest = c.loop-left.rest.now in
    let s = size_step left rest c.loop-left-test.true in
    let t = least_step left rest c.loop-left-test.true in
    let first = c.specifier_size-first.ensures in
    let after : c.behind-rest.result.now ≡ drop (specifier_size rest) rest = c.behind-rest.ensures ∙ ap (λ n. drop n rest) first in
    let a = ap (specifiers_size (left - 1)) after in
    let b = ap (shortest_of_specifiers (left - 1)) after in
    let l = ap length after ∙ length-drop (specifier_size rest) rest in
    let least : c.least_of-least.result ≡ least_of (be16_at 2 rest) = c.least_of-least.ensures.is ∙ ap least_of c.be16.ensures in
    record { size = omega arith; least = omega arith; inside = omega arith; bound = omega arith }
