use Rattle.std.proofs.Common.{◌∙◌, sym, ap}
use Rattle.wire_spec.specs.Record.{shortest}
use Rattle.wire_spec.specs.Size.{are_fixed}
use Rattle.record_iter.proofs.record_walk.Records.new.Goals as goal

pub invariant_of-result : goal.invariant_of-result
invariant_of-result c = record {
  some = c.min_len.ensures.some;
  shortest = c.min_len.ensures.is ∙ ap shortest (sym c.fields.ensures.are);
  fixed = c.is_fixed.ensures ∙ ap are_fixed (sym c.fields.ensures.are);
  whole = rw c.fields.ensures.are c.requires;
}
