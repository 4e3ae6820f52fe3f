use Rattle.std.proofs.Common.{◌≡◌, ◌+◌, ◌*◌, ◌<◌, ◌^◌, drop}
use Rattle.std.specs.Prelude.{fold}
use Rattle.text_spec.specs.Number.{number_of}
use Rattle.config_spec.specs.Texts.{masked}
use Rattle.anonymise_stage.proofs.prepared_row.low_number.Given as goal

abbrev pub invariant-loop-octet : goal.invariant-loop-octet
invariant-loop-octet l = record { left : fold (λ n octet. 256 * n + octet) l.number (masked l.left (drop l.octet-index l.octets)) ≡ number_of (masked l.bits l.octets); small : l.number < 256 ^ l.octet-index }
