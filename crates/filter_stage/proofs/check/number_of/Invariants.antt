use Rattle.std.proofs.Common.{◌≡◌, ◌+◌, ◌*◌, ◌<◌, ◌^◌, drop}
use Rattle.std.specs.Prelude.{fold}
use Rattle.text_spec.specs.Number.{number_of}
use Rattle.filter_stage.proofs.check.number_of.Given as goal

abbrev pub invariant-loop-octet : goal.invariant-loop-octet
invariant-loop-octet l = record {
  left : fold (λ n octet. 256 * n + octet) l.number (drop l.octet-index l.value) ≡ number_of l.value;
  small : l.number < 256 ^ l.octet-index;
}
