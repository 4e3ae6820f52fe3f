-- Counts of an input, from those of its events and those of its messages.
use Rattle.std.proofs.Common.{◌≡◌, ℕ, ◌+◌, ◌-◌, ◌^◌, arith, ap, sym, ◌∙◌, List, []}
use Rattle.std.specs.Prelude.{min, max}
use Rattle.arrival_spec.specs.Mark.{Mark}
use Rattle.run_spec.specs.Judge.{Inputs}
use Rattle.run_spec.specs.Work.{Work}
use Rattle.count_spec.specs.Counts.{Counts, counts}
use Rattle.count_spec.specs.More.{added}
use Rattle.count_spec.specs.Shown.{shown_number}
use Rattle.count_spec.proofs.MoreLemmas.{counts_apart}
use Rattle.pipeline_message.specs.declared.run_counts.RunCounts.{RunCounts}
use Rattle.pipeline_message.specs.Shown.{adds, shown_counts}
use Rattle.input_lane.specs.declared.tally.Tally.{Tally}
use Rattle.input_lane.specs.Tallies.{CountsMarks, counts_of}
use Rattle.run_input.specs.Sums.{both_counts}

shown_both : (a b : ℕ) → adds (shown_number a) (shown_number b) ≡ shown_number (a + b)
shown_both a b = by_end a b (2 ^ 64 - 1)
  where
    by_end : (a b m : ℕ) → max (min a m) (min (min a m + min b m) m) ≡ min (a + b) m
    by_end a b m = omega arith

pub both_shown : (a b : Counts) → both_counts (shown_counts a) (shown_counts b) ≡ shown_counts (added a b)
both_shown a b =
    let e1 = shown_both a.sessions b.sessions in
    let e2 = shown_both a.messages b.messages in
    let e3 = shown_both a.records b.records in
    let e4 = shown_both a.malformed b.malformed in
    let e5 = shown_both a.late b.late in
    let e6 = shown_both a.skipped b.skipped in
    let e7 = shown_both a.ignored b.ignored in
    let e8 = shown_both a.redefined b.redefined in
    let e9 = shown_both a.lost b.lost in
    let e10 = shown_both a.disordered b.disordered in
    let e11 = shown_both a.torn b.torn in
    let e12 = shown_both a.broken b.broken in
    let e13 = shown_both a.refused b.refused in
    let e14 = shown_both a.crowded b.crowded in
    let e15 = shown_both a.stray b.stray in
    cc

-- the counts of events alone
marks_shown : (inputs : Inputs) (marks : List Mark) (t : Tally) → CountsMarks marks t → counts_of t ≡ shown_counts (counts inputs marks [])
marks_shown inputs marks t m =
    let e1 = m.sessions in
    let e2 = m.torn in
    let e3 = m.broken in
    let e4 = m.refused in
    let e5 = m.stray in
    cc

-- those of events and messages
pub all_counted : (inputs : Inputs) (marks : List Mark) (works : List Work) (t : Tally) (c : RunCounts) → CountsMarks marks t → c ≡ shown_counts (counts inputs [] works) → both_counts (counts_of t) c ≡ shown_counts (counts inputs marks works)
all_counted inputs marks works t c m e =
    ap (both_counts (counts_of t)) e
    ∙ (ap (λ d. both_counts d (shown_counts (counts inputs [] works))) (marks_shown inputs marks t m)
    ∙ (both_shown (counts inputs marks []) (counts inputs [] works) ∙ ap shown_counts (sym (counts_apart inputs marks works))))
