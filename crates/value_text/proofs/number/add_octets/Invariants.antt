use Rattle.std.proofs.Common.{◌≡◌, ◌<◌, ◌^◌, take}
use Rattle.text_spec.specs.Number.{number_of}
use Rattle.value_text.proofs.number.add_octets.Given as goal

abbrev pub invariant-loop-octet : goal.invariant-loop-octet
invariant-loop-octet l = record { so_far : l.n ≡ number_of (take l.octet-index l.value); small : l.n < 256 ^ l.octet-index }
