-- What one arrival more adds to the counts.
use Rattle.std.proofs.Common.{◌≡◌, ℕ, ◌+◌, cond, List, [], ◌∷◌, ◌++◌, map, refl, ap, ◌∙◌, arith}
use Rattle.std.specs.Prelude.{Ok, Some, sum_by, count_by}
use Rattle.col_base.specs.declared.base.SessionKey.{SessionKey}
use Rattle.wire_spec.specs.Content.{Message}
use Rattle.arrival_spec.specs.Arrival.Arrival.{Raw}
use Rattle.arrival_spec.specs.Settings.{Settings}
use Rattle.run_spec.specs.Read.{ReadArrival}
use Rattle.template_spec.specs.Changes.{count_after, redefines}
use Rattle.run_spec.specs.Judge.{Judgement, messages_of}
use Rattle.run_spec.specs.Judge.Judgement.{Taken as IsTaken}
use Rattle.run_spec.specs.Touches.{touches_before, touches_in}
use Rattle.run_spec.specs.Outcome.{outcomes}
use Rattle.run_spec.specs.Work.{Work, outcomes_if, work_of, works_of}
use Rattle.run_spec.proofs.MoreLemmas.{one_more_work, same_arrivals}
use Rattle.count_spec.specs.Counts.{Counts, counts, expected, gap, gap_at, is_behind, is_skipped, left_out, records_in, redefined_by, taken_of}
use Rattle.count_spec.specs.More.{added, counts_of}
use Rattle.count_spec.specs.Shown.{shown_number}
use Rattle.count_spec.specs.Examples.{nothing_counted}
use Rattle.count_spec.proofs.MoreLemmas.{one_more_counts}
use Rattle.pipeline_message.specs.Shown.{adds, shown_counts}
use Rattle.session_domains.specs.declared.fate.Fate.TheVariants.{Crowded, Late, Taken}
use Rattle.session_domains.specs.declared.fate.TakenMessage.{TakenMessage}
use Rattle.parser_lane.specs.Parsers.{inputs, counts_by, malformed_by}

pub rises : (n k m : ℕ) → m ≡ shown_number k → adds (shown_number n) m ≡ shown_number (n + k)
rises n k m e = omega arith

pub stays : (n : ℕ) → shown_number n ≡ shown_number (n + 0)
stays n = omega arith

-- the counts of one arrival more
pub counts_more : (settings : Settings) (read : List ReadArrival) (r : ReadArrival) (z : Counts) → counts_of (inputs settings) (works_of (inputs settings) read) (work_of (inputs settings) read r) ≡ z
    → counts (inputs settings) [] (works_of (inputs settings) (read ++ r ∷ [])) ≡ added (counts (inputs settings) [] (works_of (inputs settings) read)) z
counts_more settings read r z e =
    ap (counts (inputs settings) []) (one_more_work (inputs settings) read r)
    ∙ (one_more_counts (inputs settings) (works_of (inputs settings) read) (work_of (inputs settings) read r) ∙ ap (added (counts (inputs settings) [] (works_of (inputs settings) read))) e)

pub add_nothing : (c : Counts) → shown_counts (added c nothing_counted) ≡ shown_counts c
add_nothing c =
    let a = stays c.sessions in
    let b = stays c.messages in
    let d = stays c.records in
    let e = stays c.malformed in
    let f = stays c.late in
    let g = stays c.skipped in
    let h = stays c.ignored in
    let i = stays c.redefined in
    let j = stays c.lost in
    let k = stays c.disordered in
    let l = stays c.torn in
    let m = stays c.broken in
    let n = stays c.refused in
    let o = stays c.crowded in
    let p = stays c.stray in
    cc

-- one malformed message more
pub add_malformed : (c : Counts) → malformed_by (shown_counts c) ≡ shown_counts (added c (record nothing_counted { malformed = 1 }))
add_malformed c =
    let a = stays c.sessions in
    let b = stays c.messages in
    let d = stays c.records in
    let e = rises c.malformed 1 1 refl in
    let f = stays c.late in
    let g = stays c.skipped in
    let h = stays c.ignored in
    let i = stays c.redefined in
    let j = stays c.lost in
    let k = stays c.disordered in
    let l = stays c.torn in
    let m = stays c.broken in
    let n = stays c.refused in
    let o = stays c.crowded in
    let p = stays c.stray in
    cc

-- one more that is late, or crowded out
pub add_late : (c : Counts) → counts_by Late (shown_counts c) ≡ shown_counts (added c (record nothing_counted { late = 1 }))
add_late c =
    let a = stays c.sessions in
    let b = stays c.messages in
    let d = stays c.records in
    let e = stays c.malformed in
    let f = rises c.late 1 1 refl in
    let g = stays c.skipped in
    let h = stays c.ignored in
    let i = stays c.redefined in
    let j = stays c.lost in
    let k = stays c.disordered in
    let l = stays c.torn in
    let m = stays c.broken in
    let n = stays c.refused in
    let o = stays c.crowded in
    let p = stays c.stray in
    cc

pub add_crowded : (c : Counts) → counts_by Crowded (shown_counts c) ≡ shown_counts (added c (record nothing_counted { crowded = 1 }))
add_crowded c =
    let a = stays c.sessions in
    let b = stays c.messages in
    let d = stays c.records in
    let e = stays c.malformed in
    let f = stays c.late in
    let g = stays c.skipped in
    let h = stays c.ignored in
    let i = stays c.redefined in
    let j = stays c.lost in
    let k = stays c.disordered in
    let l = stays c.torn in
    let m = stays c.broken in
    let n = stays c.refused in
    let o = rises c.crowded 1 1 refl in
    let p = stays c.stray in
    cc

-- one more that is taken
pub rises_by : (n k m : ℕ) → m ≡ k → adds (shown_number n) m ≡ shown_number (n + k)
rises_by n k m e = omega arith

abbrev pub taken_counts : ℕ → ℕ → ℕ → ℕ → ℕ → ℕ → Counts
taken_counts records skipped ignored redefined lost disordered =
    record nothing_counted { messages = 1; records = records; skipped = skipped; ignored = ignored; redefined = redefined; lost = lost; disordered = disordered }

pub add_taken : (c : Counts) (t : TakenMessage) (records skipped ignored redefined lost disordered : ℕ) → t.counts.records ≡ shown_number records → t.counts.skipped ≡ shown_number skipped → t.counts.ignored ≡ shown_number ignored
    → t.counts.redefined ≡ shown_number redefined → t.lost ≡ lost → cond t.behind 1 0 ≡ disordered
    → counts_by (Taken t) (shown_counts c) ≡ shown_counts (added c (taken_counts records skipped ignored redefined lost disordered))
add_taken c t records skipped ignored redefined lost disordered er es ei ed el eo =
    let a = stays c.sessions in
    let b = rises c.messages 1 1 refl in
    let d = rises c.records records t.counts.records er in
    let e = stays c.malformed in
    let f = stays c.late in
    let g = rises c.skipped skipped t.counts.skipped es in
    let h = rises c.ignored ignored t.counts.ignored ei in
    let i = rises c.redefined redefined t.counts.redefined ed in
    let j = rises_by c.lost lost t.lost el in
    let k = rises_by c.disordered disordered (cond t.behind 1 0) eo in
    let l = stays c.torn in
    let m = stays c.broken in
    let n = stays c.refused in
    let o = stays c.crowded in
    let p = stays c.stray in
    cc

alone : {X : Type 0} (f : X → ℕ) (x : X) → sum_by f (x ∷ []) ≡ f x
alone f x = omega arith

-- a well-formed message with its judgement
abbrev pub judged_work : Settings → List Message → SessionKey → Message → Judgement → Work
judged_work settings past key m j = record { arrival = Raw key (Ok m); judgement = Some j; outcomes = outcomes_if settings past m j }

-- what one that is taken adds
pub taken_adds : (settings : Settings) (read : List ReadArrival) (key : SessionKey) (m : Message)
    → (let works = works_of (inputs settings) read in
    let past = messages_of key read in
    let os = outcomes settings past m in
    let g = gap m.sequence (expected key m.domain works) in
    counts_of (inputs settings) works (judged_work settings past key m IsTaken)
    ≡ taken_counts (records_in os) (count_by is_skipped os) (sum_by (left_out settings) m.parts) (count_after (redefines settings.transport settings.life) (touches_before settings past m.domain) (touches_in settings.transport m))
    (cond (is_behind g) 0 g) (cond (is_behind g) 1 0))
taken_adds settings read key m =
    let works = works_of (inputs settings) read in
    let past = messages_of key read in
    let w = judged_work settings past key m IsTaken in
    let a = alone (λ (v : Work). records_in v.outcomes) w in
    let b = alone (λ (v : Work). count_by is_skipped v.outcomes) w in
    let c = alone (λ (v : Work). sum_by (λ t. sum_by (left_out settings) t.1.parts) (taken_of v)) w in
    let d = alone (λ (t : SessionKey × Message). sum_by (left_out settings) t.1.parts) (key, m) in
    let e = alone (λ (t : SessionKey × Message). redefined_by settings (messages_of t.0 (map (λ (v : Work). v.arrival) works)) t.1) (key, m) in
    let f = ap (λ l. redefined_by settings (messages_of key l) m) (same_arrivals (inputs settings) [] read) in
    let g = alone (λ (t : SessionKey × Message). cond (is_behind (gap_at works t)) 0 (gap_at works t)) (key, m) in
    let h = alone (λ (t : SessionKey × Message). cond (is_behind (gap_at works t)) 1 0) (key, m) in
    cc
