-- What came of the log of a run, and of the sinks of its outputs, by their names.
use Rattle.std.proofs.Common.{◌≡◌, ℕ, suc, ◌≤◌, Bool, false, List, [], ◌∷◌, ◌++◌, Option, Some, None, length, take, map, refl, ap, sym, subst, ◌∙◌, arith, append-nil, append_assoc}
use Rattle.std.specs.Prelude.{MatchOption, is_some, nat_lt, option_to_list}
use Rattle.std.proofs.lemmas.List.{length-map}
use Rattle.site_io.specs.Seen.{SinkSeen}
use Rattle.site_io.specs.Writes.{Grows}
use Rattle.site_io.specs.declared.outside.OutsideFault.{OutsideFault}
use Rattle.call_spec.specs.Counts.{MovesBy, SinkKept}
use Rattle.call_spec.specs.Ends.{Holds, has_failed}
use Rattle.call_spec.specs.Leaves.{beside, log_and}
use Rattle.call_spec.specs.Log.{entry_octets, log_text}
use Rattle.call_spec.specs.Names.{times}
use Rattle.call_spec.specs.Pairs.{Each}
use Rattle.call_spec.proofs.PairLemmas.{renumber, same_length}
use Rattle.order_log.specs.declared.order_log.OrderLog.{OrderLog}
use Rattle.order_log.specs.Entries.{HasEntries, Stands}
use Rattle.logged_outputs.specs.declared.output.Output.{Output}
use Rattle.logged_outputs.specs.Entries.{Entry, order_of}
use Rattle.logged_outputs.specs.Logs.{LogTook, next_of}
use Rattle.site_openings.specs.Out.{AreDistinct, Begins, CameBack, Shows, WentOut}
use Rattle.site_openings.specs.Sinks.{nothing_held, sink_faults, sink_held, sink_openings, sink_out}
use Rattle.run_came.specs.Ends.{log_fault}
use Rattle.run_came.specs.Ran.{IsNewLog, log_sinks, output_sinks}
use Rattle.run_came.proofs.InputLemmas.{counted_failed}

-- a name whose sink went out and came back
pub sink_kept : (n : ℕ) (f : Bool) (a b c : SinkSeen) → WentOut sink_faults sink_openings sink_out n a b → CameBack sink_faults sink_openings sink_out n f b c → SinkKept n f a c
sink_kept n f a b c o r = record {
  out = omega (arith, o.out_now, r.out_now);
  openings = r.openings_now ∙ o.openings_now;
  faults = subst (λ u. MovesBy f u c.faults) o.faults_now r.faults_now;
  same = λ e. r.same e ∙ o.same e;
}

-- ---- where a name tells what it holds, its sink begins with nothing, and what the sink holds is what stands there

abbrev pub Told : Option (List ℕ) → Option (List ℕ) → Option (List ℕ) → Option (List ℕ) → Type 0
Told o m was now = (octets : List ℕ) → o ≡ Some octets → (was ≡ Some []) × (m ≡ now)

grown : (now : Option (List ℕ)) (text : List ℕ) → Grows (Some []) now text → now ≡ Some text
grown None text g = absurd g
grown (Some x) text g = ap Some g

pub holds_at : (o m was now : Option (List ℕ)) (text : List ℕ) → Told o m was now → Grows was now text → Holds o m text
holds_at None m was now text f g = tt
holds_at (Some octets) m was now text f g = let h = f octets refl in h.1 ∙ grown now text (subst (λ (x : Option (List ℕ)). Grows x now text) h.0 g)

pub grows_none : (a : Option (List ℕ)) → Grows a a []
grows_none None = tt
grows_none (Some xs) = sym (append-nil xs)

grows_more : (a b c : Option (List ℕ)) (first second : List ℕ) → Grows a b first → Grows b c second → Grows a c (first ++ second)
grows_more None b c first second p q = tt
grows_more (Some xs) None c first second p q = absurd p
grows_more (Some xs) (Some ys) None first second p q = absurd q
grows_more (Some xs) (Some ys) (Some zs) first second p q = q ∙ (ap (λ l. l ++ second) p ∙ append_assoc xs first second)

none_of : {X : Type 0} (o : Option X) → is_some o ≡ false → o ≡ None
none_of None e = refl
none_of (Some x) e = absurd cc

pub none_next : (rest : List Entry) → next_of rest ≡ None → rest ≡ []
none_next [] e = refl
none_next (x ∷ rest) e = absurd cc

-- what a log shows, where it has not ended and where it has
abbrev pub LogHeld : Option OutsideFault → List Entry → List Entry → Option (List ℕ) → Option (List ℕ) → Type 0
LogHeld None front rest old now = Holds old now (log_text (order_of front))
LogHeld (Some fault) front rest old now = (x : Entry) × (more : List Entry) × (rest ≡ x ∷ more) × ((n : ℕ) × (n ≤ 2) × Holds old now (log_text (order_of front) ++ take n (entry_octets x.input)))

log_held : (fault : Option OutsideFault) (front rest : List Entry) (o m was now : Option (List ℕ)) → is_some fault ≡ is_some (next_of rest) → Told o m was now → HasEntries (next_of rest) was now (order_of front) → LogHeld fault front rest o m
log_held None front [] o m was now ends f h = holds_at o m was now (log_text (order_of front)) f h
log_held None front (x ∷ rest) o m was now ends f h = absurd cc
log_held (Some fault) front [] o m was now ends f h = absurd cc
log_held (Some fault) front (x ∷ rest) o m was now ends f h = (x, rest, refl, (h.0, h.1, holds_at o m was now (log_text (order_of front) ++ take h.0 (entry_octets x.input)) f h.2))

-- what came of the log and of the outputs behind it, whose names and sinks stand side by side
pub record SinksCame {T K : Type 0} (held : K → Option (List ℕ)) (faults : K → ℕ) (names : List (List ℕ)) (path : Option (List ℕ)) (ats : List (List ℕ)) (front rest : List Entry) (log : Option (OrderLog K)) (firsts nows : List (Output T K))
    (b e : List ℕ → SinkSeen) : Type 0 where
  pub logged : MatchOption path (log_fault log ≡ None) (λ p. LogHeld (log_fault log) front rest (b p).held (e p).held)
  pub none_left : is_some (log_fault log) ≡ false → rest ≡ []
  pub began : Each (Begins sink_held sink_faults sink_openings sink_out held faults nothing_held b) 0 ats (output_sinks firsts)
  pub shown : Each (λ k name sink. Shows sink_held sink_faults sink_openings sink_out held faults names e k name sink × (1 ≤ times name names)) 0 ats (output_sinks nows)
  pub marks : (own : List Bool) → map (λ t. nat_lt 0 (faults t)) (output_sinks nows) ≡ own → map (λ t. nat_lt 0 (faults t)) (log_sinks log ++ output_sinks nows) ≡ beside path (has_failed (log_fault log)) own

module _ {K : Type 0} (held : K → Option (List ℕ)) (faults : K → ℕ) where
  pub no_log : (front rest : List Entry) (old new : Option (OrderLog K)) → old ≡ None → LogTook held faults front rest old new → (new ≡ None) × (rest ≡ [])
  no_log front rest None None e l = (refl, l)
  no_log front rest None (Some m) e l = absurd l
  no_log front rest (Some f) new e l = absurd cc

  -- since its sink was new the log has taken entries
  since : (front rest : List Entry) (a : K) (made now : OrderLog K) → Stands held faults a [] None made → Stands held faults made.sink (order_of front) (next_of rest) now → Stands held faults a (order_of front) (next_of rest) now
  since front rest a made now s t =
      let whole : made.fault ≡ None = none_of made.fault s.ended in
      let still : faults made.sink ≡ faults a = subst (λ f. MovesBy (has_failed f) (faults a) (faults made.sink)) whole s.counts in
      record {
        entries = by_next (next_of rest) t.entries;
        ended = t.ended;
        counts = subst (λ n. MovesBy (has_failed now.fault) n (faults now.sink)) still t.counts;
      }
    where
      by_next : (next : Option ℕ) → HasEntries next (held made.sink) (held now.sink) (order_of front) → HasEntries next (held a) (held now.sink) (order_of front)
      by_next None g = grows_more (held a) (held made.sink) (held now.sink) [] (log_text (order_of front)) s.entries g
      by_next (Some x) g = (g.0, g.1, grows_more (held a) (held made.sink) (held now.sink) [] (log_text (order_of front) ++ take g.0 (entry_octets x)) s.entries g.2)

  a_log : (front rest : List Entry) (a : K) (made : OrderLog K) (old new : Option (OrderLog K)) → old ≡ Some made → Stands held faults a [] None made → LogTook held faults front rest old new
      → (now : OrderLog K) × (new ≡ Some now) × Stands held faults a (order_of front) (next_of rest) now
  a_log front rest a made None new e s l = absurd cc
  a_log front rest a made (Some f) None e s l = absurd l
  a_log front rest a made (Some f) (Some m) e s l =
      let same : f ≡ made = cc in
      (m, refl, since front rest a made m s (subst (λ (x : OrderLog K). Stands held faults x.sink (order_of front) (next_of rest) m) same l))

  new_log : (front rest : List Entry) (a : K) (old new : Option (OrderLog K)) → IsNewLog held faults (Some a) old → LogTook held faults front rest old new → (now : OrderLog K) × (new ≡ Some now) × Stands held faults a (order_of front) (next_of rest) now
  new_log front rest a old new is l = a_log front rest a is.0 old new is.1 is.2 l

  -- there are as many sinks as before
  pub as_many : {T : Type 0} (front rest : List Entry) (log_sink : Option K) (old new : Option (OrderLog K)) (firsts nows : List (Output T K)) → length nows ≡ length firsts → IsNewLog held faults log_sink old → LogTook held faults front rest old new
      → length (log_sinks new ++ output_sinks nows) ≡ length (option_to_list log_sink ++ output_sinks firsts)
  as_many {T} front rest None old new firsts nows long is l =
      ap (λ (x : Option (OrderLog K)). length (log_sinks x ++ output_sinks nows)) (no_log front rest old new is l).0
      ∙ (length-map nows (λ (o : Output T K). o.sink) ∙ (long ∙ sym (length-map firsts (λ (o : Output T K). o.sink))))
  as_many {T} front rest (Some a) old new firsts nows long is l =
      ap (λ (x : Option (OrderLog K)). length (log_sinks x ++ output_sinks nows)) (new_log front rest a old new is l).1
      ∙ ap suc (length-map nows (λ (o : Output T K). o.sink) ∙ (long ∙ sym (length-map firsts (λ (o : Output T K). o.sink))))

  module _ {T : Type 0} (names : List (List ℕ)) (distinct : AreDistinct names) (front rest : List Entry) (b e : List ℕ → SinkSeen) (ats : List (List ℕ)) (firsts nows : List (Output T K)) (few : length ats ≡ length firsts) where
    abbrev Began : ℕ → List ℕ → K → Type 0
    Began k name first = Begins sink_held sink_faults sink_openings sink_out held faults nothing_held b k name first

    abbrev Shown : ℕ → List ℕ → K → Type 0
    Shown k name sink = Shows sink_held sink_faults sink_openings sink_out held faults names e k name sink × (1 ≤ times name names)

    pub told_of : (k m : ℕ) (name : List ℕ) (first sink : K) → Began k name first → Shown m name sink → Told (b name).held (e name).held (held first) (held sink)
    told_of k m name first sink g s octets is = (g.0 octets is, s.0 (let d = distinct name in let l = s.1 in omega arith))

    own_long : length (output_sinks firsts) ≡ length ats
    own_long = length-map firsts (λ (o : Output T K). o.sink) ∙ sym few

    pub sinks_came : (path : Option (List ℕ)) (log_sink : Option K) (old new : Option (OrderLog K)) → Each Began 0 (log_and path ats) (option_to_list log_sink ++ output_sinks firsts) → IsNewLog held faults log_sink old → LogTook held faults front rest old new
        → Each Shown 0 (log_and path ats) (log_sinks new ++ output_sinks nows) → SinksCame held faults names path ats front rest new firsts nows b e
    sinks_came None None old new g is l s =
        let n = no_log front rest old new is l in
        subst (λ (x : Option (OrderLog K)). SinksCame held faults names None ats front rest x firsts nows b e) (sym n.0)
        (record {
          logged = refl;
          none_left = λ _. n.1;
          began = g;
          shown = subst (λ (x : Option (OrderLog K)). Each Shown 0 ats (log_sinks x ++ output_sinks nows)) n.0 s;
          marks = λ own m. m;
        })
    sinks_came None (Some a) old new g is l s =
        absurd (let long : length ats ≡ suc (length (output_sinks firsts)) = same_length Began 0 ats (a ∷ output_sinks firsts) g in let own = own_long in omega (arith, long, own))
    sinks_came (Some path) None old new g is l s =
        absurd (let long : suc (length ats) ≡ length (output_sinks firsts) = same_length Began 0 (path ∷ ats) (output_sinks firsts) g in let own = own_long in omega (arith, long, own))
    sinks_came (Some path) (Some a) old new g is l s =
        let n = new_log front rest a old new is l in
        let now = n.0 in
        let both : Each Shown 0 (path ∷ ats) (now.sink ∷ output_sinks nows) = subst (λ (x : Option (OrderLog K)). Each Shown 0 (path ∷ ats) (log_sinks x ++ output_sinks nows)) n.1 s in
        subst (λ (x : Option (OrderLog K)). SinksCame held faults names (Some path) ats front rest x firsts nows b e) (sym n.1)
        (record {
          logged = log_held now.fault front rest (b path).held (e path).held (held a) (held now.sink) n.2.ended (told_of 0 0 path a now.sink g.0 both.0) n.2.entries;
          none_left = λ none. none_next rest (none_of (next_of rest) (sym n.2.ended ∙ none));
          began = renumber (Began 0) 1 0 ats (output_sinks firsts) g.1;
          shown = renumber (Shown 0) 1 0 ats (output_sinks nows) both.1;
          marks = λ own m. let own_log = counted_failed (has_failed now.fault) (faults a) (faults now.sink) g.0.1 n.2.counts in λ i. own_log i ∷ m i;
        })
