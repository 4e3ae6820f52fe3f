-- What a call promises, from what came and what was said.
use Rattle.std.proofs.Common.{◌≡◌, ◌≢◌, inl, inr, ℕ, Bool, true, false, cond, max, List, [], ◌∷◌, ◌++◌, Option, None, Some, refl, ap, sym, subst, ◌∙◌, arith, append-nil}
use Rattle.std.specs.Prelude.{Result, Ok, Err, ◌||◌, is_some}
use Rattle.arrival_spec.specs.declared.event.Scripted.{Scripted}
use Rattle.site_io.specs.declared.outside.OutsideFault.{OutsideFault}
use Rattle.site_io.specs.declared.outside.OutsideFault.TheVariants as fault
use Rattle.site_io.specs.Seen.{Seen, TextSeen, PlaceSeen, SinkSeen, ChangesPlace, ChangesSink, SourceGoesOut, SourceComesBack, SinkGoesOut, SinkComesBack, PlaceRefuses, SinkRefuses}
use Rattle.words_spec.specs.Commands.{Command}
use Rattle.words_spec.specs.Commands.Command.{Direct, Check}
use Rattle.call_spec.specs.declared.end.InputEnd.{InputEnd}
use Rattle.call_spec.specs.Names.{times, has}
use Rattle.call_spec.specs.Counts.{TextKept, PlaceKept, SinkKept}
use Rattle.call_spec.specs.declared.end.OutputFault.{OutputFault}
use Rattle.call_spec.specs.declared.end.OutputFault.TheVariants as output
use Rattle.call_spec.specs.Ends.{source_failed, wants_memory, has_failed, output_failed, EndsOutput, HoldsAs, HoldsBy}
use Rattle.call_spec.specs.Came.Came.{BadWords, Fine, Refused}
use Rattle.call_spec.specs.Came.Came.{Ran as RanCame}
use Rattle.call_spec.specs.Texts.{Judges}
use Rattle.call_spec.specs.Lines as lines
use Rattle.call_spec.specs.Status as codes
use Rattle.call_spec.specs.Lines.{input_line, output_line, sink_line, fine_text, usage_text}
use Rattle.call_spec.specs.Status.{end_code, fault_code, output_code, said_code, wanted_code}
use Rattle.call_spec.specs.Plan.{in_name, out_name, no_parties, direct_parties}
use Rattle.call_spec.specs.Plan.Plan.{Nothing, OneFile}
use Rattle.call_spec.specs.Call.{MayCome, IsOfDirect, Calls}
use Rattle.file_lines.specs.declared.run.Ended.{Ended}
use Rattle.file_lines.specs.Run.{Ran}
use Rattle.collector_top.specs.declared.direct.Unopened.{Unopened}
use Rattle.collector_top.specs.declared.direct.Unopened.TheVariants as unopened
use Rattle.described_texts.specs.declared.verdict.Refusal.{Refusal}
use Rattle.described_texts.specs.Read.{reason_of, CountsTexts, KeepsRest}
use Rattle.described_texts.specs.Reports.{ReportsRefusal}
use Rattle.described_texts.proofs.KeptLemmas.{still, unsunk, unread, failed_here, failed_away, calls_said, calls_refused, comes_fine, comes_refused}
use Rattle.run_lines.specs.Says.{Says}
use Rattle.collector_top.specs.Direct.{refusal_of, unopened_line, unopened_code, output_of, one_run, CameToRun, CameToRefusal}
use Rattle.call_spec.proofs.NameLemmas.{same_or}
use Rattle.collector_top.proofs.OpenLemmas.{by_name, marked_here, marked_away, place_back, place_refused, sink_back, sink_refused, place_taken, place_ends, place_left, sink_holds_as, or_none}

-- ---- how the one output ended

output_fails : (f : Option OutsideFault) → output_failed (output_of f) ≡ has_failed f
output_fails None = refl
output_fails (Some fault.Failed) = refl
output_fails (Some fault.NoMemory) = refl

output_says : (name : List ℕ) (f : Option OutsideFault) → output_line name (output_of f) ≡ sink_line name f
output_says name None = refl
output_says name (Some fault.Failed) = refl
output_says name (Some fault.NoMemory) = refl

output_codes : (f : Option OutsideFault) → output_code (output_of f) ≡ fault_code f
output_codes None = refl
output_codes (Some fault.Failed) = refl
output_codes (Some fault.NoMemory) = refl

never_limited : (cut : Bool) (f : Option OutsideFault) → EndsOutput cut (output_of f) ⊥
never_limited false None = λ e. e
never_limited true None = tt
never_limited false (Some fault.Failed) = tt
never_limited false (Some fault.NoMemory) = tt
never_limited true (Some fault.Failed) = tt
never_limited true (Some fault.NoMemory) = tt

held_by : (cut : Bool) (f : Option OutsideFault) (old now : Option (List ℕ)) (text : List ℕ) → HoldsAs (is_some f || cut) old now text → HoldsBy cut (output_of f) old now text []
held_by cut None old now text h = h
held_by cut (Some fault.Failed) old now text h = h
held_by cut (Some fault.NoMemory) old now text h = h

module _ {S : Type 0} (left : S → Option (List Scripted)) (faults : S → ℕ) where
  -- ---- direct: before its lines are said

  -- nothing was opened
  pub nothing_opened : (place out : List ℕ) (a : Seen) → CameToRefusal left faults place out a a unopened.Memory
  nothing_opened place out a = (
    0,
    0,
    record {
      texts = λ p. unread (a.text p);
      places = λ p. still (a.place p);
      sinks = λ p. unsunk (a.sink p);
      leaves = ((omega arith, omega arith, inr refl), (λ p events is. is), λ p. refl);
    },
    refl,
  )

  -- the source was refused
  pub source_refused : (place out : List ℕ) (a b : Seen) → ChangesPlace place a b → PlaceRefuses (a.place place) (b.place place) → CameToRefusal left faults place out a b unopened.NoSource
  source_refused place out a b ch r = (
    1,
    0,
    record {
      texts = λ p. subst (λ (f : List ℕ → TextSeen). TextKept false (a.text p) (f p)) (sym ch.texts) (unread (a.text p));
      places = by_name PlaceKept place (place ∷ []) true a.place b.place still (failed_here place) (failed_away place) (place_refused (a.place place) (b.place place) r) ch.others;
      sinks = λ p. subst (λ (f : List ℕ → SinkSeen). SinkKept 0 false (a.sink p) (f p)) (sym ch.sinks) (unsunk (a.sink p));
      leaves = ((refl, omega arith, refl), lefts, λ p. ap (λ (f : List ℕ → SinkSeen). (f p).held) ch.sinks);
    },
    ch.say,
  )
    where
      lefts : (p : List ℕ) (events : List Scripted) → (a.place p).left ≡ Some events → (b.place p).left ≡ Some events
      lefts p events is = elim (same_or p place) [
        | inl s ↦ subst (λ q. (b.place q).left ≡ Some events) (sym s.1) (r.left ∙ subst (λ q. (a.place q).left ≡ Some events) s.1 is)
        | inr d ↦ ap (λ (x : PlaceSeen). x.left) (ch.others p d.1) ∙ is
      ]

  -- all texts and places after a source went out and came back
  texts_kept : (place out : List ℕ) (a b c d : Seen) → ChangesPlace place a b → ChangesSink out b c → ChangesPlace place c d → (p : List ℕ) → TextKept false (a.text p) (d.text p)
  texts_kept place out a b c d ch ch2 ch3 p = subst (λ (f : List ℕ → TextSeen). TextKept false (a.text p) (f p)) (sym (ch3.texts ∙ (ch2.texts ∙ ch.texts))) (unread (a.text p))

  place_here : (place out : List ℕ) (b c : Seen) → ChangesSink out b c → c.place place ≡ b.place place
  place_here place out b c ch = ap (λ (f : List ℕ → PlaceSeen). f place) ch.places

  place_others : (place out : List ℕ) (a b c d : Seen) → ChangesPlace place a b → ChangesSink out b c → ChangesPlace place c d → (q : List ℕ) → q ≢ place → d.place q ≡ a.place q
  place_others place out a b c d ch ch2 ch3 q ne = ch3.others q ne ∙ (ap (λ (f : List ℕ → PlaceSeen). f q) ch2.places ∙ ch.others q ne)

  say_same : (place out : List ℕ) (a b c d : Seen) → ChangesPlace place a b → ChangesSink out b c → ChangesPlace place c d → d.say ≡ a.say
  say_same place out a b c d ch ch2 ch3 = ch3.say ∙ (ch2.say ∙ ch.say)

  -- what is left at all places, where nothing was asked of the source
  lefts_kept : (place out : List ℕ) (a b c d : Seen) (src : S) → ChangesPlace place a b → SourceGoesOut (a.place place) (b.place place) (left src) (faults src) → ChangesSink out b c → ChangesPlace place c d
      → SourceComesBack (c.place place) (d.place place) (left src) (faults src) → (p : List ℕ) (events : List Scripted) → (a.place p).left ≡ Some events → (d.place p).left ≡ Some events
  lefts_kept place out a b c d src ch g ch2 ch3 back p events is =
      elim (same_or p place) [
        | inl s ↦ subst (λ q. (d.place q).left ≡ Some events) (sym s.1) (place_left (a.place place).left (d.place place).left (left src) g.told back.shown events (subst (λ q. (a.place q).left ≡ Some events) s.1 is))
        | inr e ↦ ap (λ (x : PlaceSeen). x.left) (place_others place out a b c d ch ch2 ch3 p e.1) ∙ is
      ]

  places_kept : (place out : List ℕ) (a b c d : Seen) (src : S) → ChangesPlace place a b → SourceGoesOut (a.place place) (b.place place) (left src) (faults src) → ChangesSink out b c → ChangesPlace place c d
      → SourceComesBack (c.place place) (d.place place) (left src) (faults src) → (p : List ℕ) → PlaceKept (times p (place ∷ [])) (has p []) (a.place p) (d.place p)
  places_kept place out a b c d src ch g ch2 ch3 back =
      by_name PlaceKept place [] false a.place d.place still refl (λ q ne. refl)
      (place_back false (a.place place) (b.place place) (c.place place) (d.place place) (left src) (left src) (faults src) (faults src) g (place_here place out b c ch2) back refl) (place_others place out a b c d ch ch2 ch3)

  -- the sink was refused
  pub sink_refused_after : (place out : List ℕ) (a b c d : Seen) (src : S) → ChangesPlace place a b → SourceGoesOut (a.place place) (b.place place) (left src) (faults src) → ChangesSink out b c → SinkRefuses (b.sink out) (c.sink out)
      → ChangesPlace place c d → SourceComesBack (c.place place) (d.place place) (left src) (faults src) → CameToRefusal left faults place out a d unopened.NoSink
  sink_refused_after place out a b c d src ch g ch2 r ch3 back = (
    1,
    1,
    record {
      texts = texts_kept place out a b c d ch ch2 ch3;
      places = places_kept place out a b c d src ch g ch2 ch3 back;
      sinks = λ p. subst (λ (f : List ℕ → SinkSeen). SinkKept (times p (out ∷ [])) (has p (out ∷ [])) (f p) (d.sink p)) ch.sinks
          (subst (λ (f : List ℕ → SinkSeen). SinkKept (times p (out ∷ [])) (has p (out ∷ [])) (b.sink p) (f p)) (sym ch3.sinks)
          (by_name SinkKept out (out ∷ []) true b.sink c.sink unsunk (failed_here out) (failed_away out) (sink_refused (b.sink out) (c.sink out) r) ch2.others p));
      leaves = ((refl, omega arith, refl), lefts_kept place out a b c d src ch g ch2 ch3 back, helds);
    },
    say_same place out a b c d ch ch2 ch3,
  )
    where
      helds : (p : List ℕ) → (d.sink p).held ≡ (a.sink p).held
      helds p = ap (λ (f : List ℕ → SinkSeen). (f p).held) ch3.sinks ∙ (elim (same_or p out) [
        | inl s ↦ subst (λ q. (c.sink q).held ≡ (b.sink q).held) (sym s.1) r.held
        | inr e ↦ ap (λ (x : SinkSeen). x.held) (ch2.others p e.1)
      ] ∙ ap (λ (f : List ℕ → SinkSeen). (f p).held) ch.sinks)

  -- memory was wanted for the sink
  pub sink_wanting : (place out : List ℕ) (a b c d : Seen) (src : S) → ChangesPlace place a b → SourceGoesOut (a.place place) (b.place place) (left src) (faults src) → ChangesSink out b c → c.sink out ≡ b.sink out
      → ChangesPlace place c d → SourceComesBack (c.place place) (d.place place) (left src) (faults src) → CameToRefusal left faults place out a d unopened.Memory
  sink_wanting place out a b c d src ch g ch2 same ch3 back = (
    1,
    0,
    record {
      texts = texts_kept place out a b c d ch ch2 ch3;
      places = places_kept place out a b c d src ch g ch2 ch3 back;
      sinks = λ p. subst (λ (x : SinkSeen). SinkKept 0 false (a.sink p) x) (sym (sink_same p)) (unsunk (a.sink p));
      leaves = ((omega arith, omega arith, inl refl), lefts_kept place out a b c d src ch g ch2 ch3 back, λ p. ap (λ (x : SinkSeen). x.held) (sink_same p));
    },
    say_same place out a b c d ch ch2 ch3,
  )
    where
      sink_same : (p : List ℕ) → d.sink p ≡ a.sink p
      sink_same p = ap (λ (f : List ℕ → SinkSeen). f p) ch3.sinks ∙ (elim (same_or p out) [ inl s ↦ subst (λ q. c.sink q ≡ b.sink q) (sym s.1) same | inr e ↦ ch2.others p e.1 ] ∙ ap (λ (f : List ℕ → SinkSeen). f p) ch.sinks)

  -- memory was wanted for the source
  pub source_wanting : (place out : List ℕ) (a b : Seen) → ChangesPlace place a b → b.place place ≡ a.place place → CameToRefusal left faults place out a b unopened.Memory
  source_wanting place out a b ch same = (
    0,
    0,
    record {
      texts = λ p. subst (λ (f : List ℕ → TextSeen). TextKept false (a.text p) (f p)) (sym ch.texts) (unread (a.text p));
      places = λ p. subst (λ (x : PlaceSeen). PlaceKept 0 false (a.place p) x) (sym (place_same p)) (still (a.place p));
      sinks = λ p. subst (λ (f : List ℕ → SinkSeen). SinkKept 0 false (a.sink p) (f p)) (sym ch.sinks) (unsunk (a.sink p));
      leaves = ((omega arith, omega arith, inr refl), (λ p events is. ap (λ (x : PlaceSeen). x.left) (place_same p) ∙ is), λ p. ap (λ (f : List ℕ → SinkSeen). (f p).held) ch.sinks);
    },
    ch.say,
  )
    where
      place_same : (p : List ℕ) → b.place p ≡ a.place p
      place_same p = elim (same_or p place) [ inl s ↦ subst (λ q. b.place q ≡ a.place q) (sym s.1) same | inr d ↦ ch.others p d.1 ]

  -- ---- direct: a run

  module _ {K : Type 0} (held : K → Option (List ℕ)) (sink_faults : K → ℕ) where
    -- both went out, and came back after the run
    pub came_to_run : (place out : List ℕ) (a b c d e : Seen) (src now_src : S) (sink now_sink : K) (total : Option ℕ) (ended : Ended) → ChangesPlace place a b → SourceGoesOut (a.place place) (b.place place) (left src) (faults src)
        → ChangesSink out b c → SinkGoesOut (b.sink out) (c.sink out) (held sink) total (sink_faults sink) → Ran left faults held sink_faults src now_src sink now_sink ended.input ended.output
        → ChangesSink out c d → SinkComesBack (c.sink out) (d.sink out) (held now_sink) (sink_faults now_sink) → ChangesPlace place d e → SourceComesBack (d.place place) (e.place place) (left now_src) (faults now_src)
        → CameToRun left faults place out a e ended
    came_to_run place out a b c d e src now_src sink now_sink total ended ch g ch2 h r ch3 back2 ch4 back = (
      r.given,
      record {
        texts = λ p. subst (λ (f : List ℕ → TextSeen). TextKept false (a.text p) (f p)) (sym (ch4.texts ∙ (ch3.texts ∙ (ch2.texts ∙ ch.texts)))) (unread (a.text p));
        places = by_name PlaceKept place (cond (source_failed ended.input) (place ∷ []) []) (source_failed ended.input) a.place e.place still (marked_here place (source_failed ended.input)) (marked_away place (source_failed ended.input))
            (place_back (source_failed ended.input) (a.place place) (b.place place) (d.place place) (e.place place) (left src) (left now_src) (faults src) (faults now_src) g (ap (λ (f : List ℕ → PlaceSeen). f place) (ch3.places ∙ ch2.places)) back r.counts)
            (λ q ne. ch4.others q ne ∙ (ap (λ (f : List ℕ → PlaceSeen). f q) (ch3.places ∙ ch2.places) ∙ ch.others q ne));
        sinks = λ p. subst (λ (b : Bool). SinkKept (times p (out ∷ [])) (has p (cond b (out ∷ []) [])) (a.sink p) (e.sink p)) (sym (output_fails ended.output)) (subst (λ (f : List ℕ → SinkSeen). SinkKept (times p (out ∷ [])) (has p (cond (has_failed ended.output) (out ∷ []) [])) (f p) (e.sink p)) ch.sinks
            (subst (λ (f : List ℕ → SinkSeen). SinkKept (times p (out ∷ [])) (has p (cond (has_failed ended.output) (out ∷ []) [])) (b.sink p) (f p)) (sym ch4.sinks)
            (by_name SinkKept out (cond (has_failed ended.output) (out ∷ []) []) (has_failed ended.output) b.sink d.sink unsunk (marked_here out (has_failed ended.output)) (marked_away out (has_failed ended.output))
            (sink_back (has_failed ended.output) (b.sink out) (c.sink out) (c.sink out) (d.sink out) (held sink) (held now_sink) total (sink_faults sink) (sink_faults now_sink) h refl back2 r.sink_counts)
            (λ q ne. ch3.others q ne ∙ ch2.others q ne) p)));
        leaves = record {
          gave = (
            record {
              taken = place_taken (a.place place).left (e.place place).left (left src) (left now_src) r.given g.told back.shown r.taken;
              unfailed = (r.unfailed.0, r.unfailed.1 ∙ g.fresh, place_taken (a.place place).left (left r.unfailed.0) (left src) (left r.unfailed.0) r.given g.told refl r.unfailed.2);
              ends = (place_ends (a.place place).left (e.place place).left (left src) (left now_src) r.given ended.input g.told back.shown r.ends, refl);
            },
            tt,
          );
          ordered = tt;
          logged = refl;
          stages = refl;
          holds = (
            record {
              text = r.text;
              is = r.is;
              ends = never_limited (wants_memory ended.input || false) ended.output;
              holds = held_by (wants_memory ended.input || false) ended.output (a.sink out).held (e.sink out).held r.text (subst (λ x. HoldsAs x (a.sink out).held (e.sink out).held r.text) (or_none (is_some ended.output) (wants_memory ended.input))
                  (subst (λ (f : List ℕ → SinkSeen). HoldsAs (is_some ended.output || wants_memory ended.input) (f out).held (e.sink out).held r.text) ch.sinks
                  (sink_holds_as (is_some ended.output || wants_memory ended.input) (b.sink out).held (e.sink out).held (held sink) (held now_sink) r.text h.nothing h.told (ap (λ (f : List ℕ → SinkSeen). (f out).held) ch4.sinks ∙ back2.shown) r.octets)));
            },
            tt,
          );
          counted = tt;
        };
      },
      ch4.say ∙ (ch3.say ∙ (ch2.say ∙ ch.say)),
    )

  -- ---- what was said

  one_line : (e : InputEnd) (f : Option OutsideFault) → input_line in_name e ++ sink_line out_name f ≡ ((input_line in_name e ++ []) ++ ([] ++ ([] ++ (output_line out_name (output_of f) ++ [])))) ++ []
  one_line e f = subst (λ (l : List ℕ). input_line in_name e ++ sink_line out_name f ≡ ((input_line in_name e ++ []) ++ ([] ++ ([] ++ (l ++ [])))) ++ []) (sym (output_says out_name f))
      ((ap (λ l. l ++ sink_line out_name f) (sym (append-nil (input_line in_name e))) ∙ ap (λ l. (input_line in_name e ++ []) ++ l) (sym (append-nil (sink_line out_name f)))) ∙ sym (append-nil ((input_line in_name e ++ []) ++ (sink_line out_name f ++ []))))

  most : (e f s : ℕ) → max (max e f) s ≡ max (max (max 0 e) (max 0 (max 0 (max 0 f)))) s
  most e f s = omega arith

  pub calls_ran : (place out : List ℕ) (ended : Ended) (a b c : Seen) (status : ℕ) → CameToRun left faults place out a b ended
      → (said : Result (Unit {0}) OutsideFault) × Says b c (input_line in_name ended.input ++ sink_line out_name ended.output) said × (status ≡ max (max (end_code ended.input) (fault_code ended.output)) (said_code said))
      → Calls left faults (Direct place out) a c status
  calls_ran place out ended a b c status k s =
      calls_said left faults (MayCome (Direct place out)) (OneFile place out) (RanCame (one_run k.0 ended)) a b c s.0 status (refl, tt) k.1 k.2
      (subst (λ (t : List ℕ). Says b c t s.0) (one_line ended.input ended.output) s.1) (s.2 ∙ (most (end_code ended.input) (fault_code ended.output) (said_code s.0) ∙ ap (λ n. max (max (max 0 (end_code ended.input)) (max 0 (max 0 (max 0 n)))) (said_code s.0)) (sym (output_codes ended.output))))

  -- the line and the code of a refusal
  refused_line : (place out : List ℕ) (r : Unopened) → unopened_line r ≡ lines.refusal_line (direct_parties place out) (refusal_of r)
  refused_line place out unopened.NoSource = sym (append-nil (unopened_line unopened.NoSource))
  refused_line place out unopened.NoSink = sym (append-nil (unopened_line unopened.NoSink))
  refused_line place out unopened.Memory = refl

  refused_code : (r : Unopened) → unopened_code r ≡ codes.refusal_code (refusal_of r)
  refused_code unopened.NoSource = refl
  refused_code unopened.NoSink = refl
  refused_code unopened.Memory = refl

  may_refuse : (r : Unopened) (n m : ℕ) → IsOfDirect (Refused (refusal_of r) n m)
  may_refuse unopened.NoSource n m = tt
  may_refuse unopened.NoSink n m = tt
  may_refuse unopened.Memory n m = tt

  pub calls_unopened : (place out : List ℕ) (r : Unopened) (a b c : Seen) (status : ℕ) → CameToRefusal left faults place out a b r
      → (said : Result (Unit {0}) OutsideFault) × Says b c (unopened_line r) said × (status ≡ max (unopened_code r) (wanted_code said)) → Calls left faults (Direct place out) a c status
  calls_unopened place out r a b c status k s =
      calls_refused left faults (MayCome (Direct place out)) (OneFile place out) (refusal_of r) k.0 k.1 a b c status (refl, may_refuse r k.0 k.1) k.2 k.3
      (s.0, subst (λ (t : List ℕ). Says b c t s.0) (refused_line place out r) s.1, s.2 ∙ ap (λ n. max n (wanted_code s.0)) (refused_code r))

  -- ---- check, and refused words

  pub calls_fine : (file : List ℕ) (a b c : Seen) (status : ℕ) → Judges a.text file (Ok tt) → b.text ≡ a.text → KeepsRest a b
      → (said : Result (Unit {0}) OutsideFault) × Says b c fine_text said × (status ≡ said_code said) → Calls left faults (Check file) a c status
  calls_fine file a b c status judged texts keeps s = calls_said left faults (MayCome (Check file)) Nothing Fine a b c s.0 status (refl, judged) (comes_fine left faults a b texts keeps) keeps.say s.1 s.2

  pub calls_judged : (T : Type 0) (file : List ℕ) (r : Refusal) (a b c : Seen) (status : ℕ) → Judges a.text file (Err (reason_of r)) → CountsTexts {T = T} a.text b.text (Err r) → KeepsRest a b
      → ReportsRefusal no_parties (reason_of r) b c status → Calls left faults (Check file) a c status
  calls_judged T file r a b c status judged counts keeps s =
      calls_refused left faults (MayCome (Check file)) Nothing (reason_of r) 0 0 a b c status (refl, judged) (comes_refused left faults T r a b counts keeps) keeps.say s

  -- words that are refused
  pub calls_words : (command : Command) (a b : Seen) (status : ℕ) → MayCome command a.text Nothing BadWords
      → ((said : Result (Unit {0}) OutsideFault) × Says a b usage_text said) → status ≡ 1 → Calls left faults command a b status
  calls_words command a b status may s is =
      calls_said left faults (MayCome command) Nothing BadWords a a b s.0 status may (record { texts = λ p. unread (a.text p); places = λ p. still (a.place p); sinks = λ p. unsunk (a.sink p); leaves = tt }) refl s.1 is
