use Rattle.std.proofs.Common.{◌≡◌, ◌++◌, drop}
use Rattle.config_spec.specs.Texts.{masked}
use Rattle.setting_texts.proofs.address_text.masked.Given as goal

abbrev pub invariant-loop-octet : goal.invariant-loop-octet
invariant-loop-octet l = masked l.bits l.octets ≡ l.made ++ masked l.left (drop l.octet-index l.octets)
