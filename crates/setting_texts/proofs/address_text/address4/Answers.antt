use Rattle.config_spec.proofs.AddressLemmas.{address4_from, address4_none}
use Rattle.std.proofs.Common.{sym}
use Rattle.setting_texts.proofs.address_text.address4.Goals as goal

pub returns-in-Ok : goal.returns-in-Ok
returns-in-Ok c = rw c.octets.ensures (sym (address4_from _ _ c.in-Ok.ensures.value))

pub returns-in-Err : goal.returns-in-Err
returns-in-Err c = sym (address4_none _ c.in-Err.ensures.value)
