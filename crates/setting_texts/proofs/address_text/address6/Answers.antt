use Rattle.std.proofs.Common.{◌≡◌, ◌==◌, false, sym, arith}
use Rattle.std.specs.List.{list_any}
use Rattle.config_spec.proofs.AddressLemmas.{address6_from, address6_none, address6_dotted}
use Rattle.setting_texts.proofs.address_text.address6.Goals as goal

pub returns-then-has_dot : goal.returns-then-has_dot
returns-then-has_dot c = sym (address6_dotted _ (grind arith))

pub returns-in-Ok : goal.returns-in-Ok
returns-in-Ok c =
    let plain : list_any (λ o. o == 46) c.args.text.now ≡ false = grind arith in
    rw c.octets.ensures (sym (address6_from _ _ plain c.in-Ok.ensures.value))

pub returns-in-Err : goal.returns-in-Err
returns-in-Err c =
    let plain : list_any (λ o. o == 46) c.args.text.now ≡ false = grind arith in
    sym (address6_none _ plain c.in-Err.ensures.value)
