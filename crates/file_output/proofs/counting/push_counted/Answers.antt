use Rattle.std.proofs.Common.{refl}
use Rattle.file_output.proofs.CountedLemmas.{counted_pushed, is_counted}
use Rattle.file_output.proofs.counting.push_counted.Goals as goal

pub returns : goal.returns
returns c = λ sets a.
    counted_pushed sets c.args.counted.now.items c.push.new.self.items c.args.set.now _ c.in_ok-push.ensures.items a
    (is_counted c.args.set.now _ c.deref.result.now c.as_slice-2.result.now c.deref.ensures c.as_slice-2.ensures refl c.as_slice.ensures c.count_records.ensures.records c.count_records.ensures.some)
