-- Sinks go out and come back.
use Rattle.std.proofs.Common.{◌≡◌, inl, inr, ℕ, zero, suc, ◌+◌, ◌≤◌, ◌<◌, Bool, true, false, cond, List, [], ◌∷◌, ◌++◌, length, take, get_or, Option, Some, None, refl, ap, sym, subst, ◌∙◌, arith, add-zero}
use Rattle.std.specs.Prelude.{IfSome, IsSome, nat_lt, Ok, Err, bytes_eq}
use Rattle.std.proofs.lemmas.List.{take_all}
use Rattle.site_io.specs.Seen.{Seen, SinkSeen, SinkGoesOut, SinkComesBack, ChangesSink}
use Rattle.call_spec.specs.Names.{times, has}
use Rattle.call_spec.specs.Counts.{SinkKept}
use Rattle.call_spec.specs.Leaves.{KeepsHeld}
use Rattle.call_spec.proofs.NameLemmas.{zero_or, same_or, itself, one_if, times_more, times_take, has_none, has_some}
use Rattle.site_openings.specs.declared.stopped.Stopped.{Stopped}
use Rattle.site_openings.specs.declared.stopped.Stopped.TheVariants.{At, Memory}
use Rattle.site_openings.specs.Out.{AreDistinct, Kept, GoesOut, ComesBack}
use Rattle.site_openings.specs.Sinks.{sink_held, sink_faults, sink_openings, sink_out, nothing_held, ChangesSinks, SinksOut, SinksBack, OpensSink, SinksStopped}
use Rattle.site_openings.proofs.OutLemmas.{is_told, none_out, out_more, refused_counts, shows_start, others_same, untried}
use Rattle.site_openings.proofs.OpenLemmas.{BackSoFar, taken_next, number_is, still_out, counts_at, counts_memory, no_count, no_mark}

some_empty : (o : Option (List ℕ)) → IsSome o → IfSome o (λ octets. octets ≡ []) → o ≡ Some []
some_empty None s e = absurd (cc)
some_empty (Some x) s e = ap Some e

kept_of : (n : ℕ) (f : Bool) (x y : SinkSeen) → SinkKept n f x y → Kept sink_faults sink_openings sink_out n f x y
kept_of n f x y k = record { out_now = k.out; openings_now = k.openings; faults_now = k.faults; same = k.same }

of_kept : (n : ℕ) (f : Bool) (x y : SinkSeen) → Kept sink_faults sink_openings sink_out n f x y → SinkKept n f x y
of_kept n f x y k = record { out = k.out_now; openings = k.openings_now; faults = k.faults_now; same = k.same }

module _ {K : Type 0} (held : K → Option (List ℕ)) (faults : K → ℕ) where
  goes : (old new : SinkSeen) (sink : K) (total : Option ℕ) → SinkGoesOut old new (held sink) total (faults sink) → GoesOut sink_held sink_faults sink_openings sink_out held faults nothing_held old new sink
  goes old new sink total g = record {
    begins = λ octets is. some_empty (held sink) (g.told (is_told old.held octets is)) g.nothing;
    fresh = g.fresh;
    out_now = g.out;
    openings_now = g.openings;
    faults_now = g.no_fault;
  }

  pub comes : (old new : SinkSeen) (sink : K) → SinkComesBack old new (held sink) (faults sink) → ComesBack sink_held sink_faults sink_openings sink_out held faults old new sink
  comes old new sink c = record { shown = c.shown; out_now = c.out; openings_now = c.openings; later = c.later; rose = c.rose; no_fault = c.no_fault }

  pub none_sinks : (old : Seen) → SinksOut held faults [] [] old old
  none_sinks old = record { all = none_out sink_held sink_faults sink_openings sink_out held faults nothing_held old.sink; rest = record { texts = refl; places = refl; say = refl } }

  -- so far these came back, and nothing else changed
  pub record SinksBackSoFar (names : List (List ℕ)) (all items : List K) (a b : Seen) : Type 0 where
    pub back : BackSoFar sink_held sink_faults sink_openings sink_out held faults names all items a.sink b.sink
    pub rest : ChangesSinks a b

  pub rest_more : (name : List ℕ) (a b c : Seen) → ChangesSinks a b → ChangesSink name b c → ChangesSinks a c
  rest_more name a b c r ch = record { texts = ch.texts ∙ r.texts; places = ch.places ∙ r.places; say = ch.say ∙ r.say }

  module _ (names : List (List ℕ)) (i : ℕ) (name : List ℕ) (sinks now_sinks : List K) (a b c : Seen) (lt : i < length names) (is : name ≡ get_or names i name) (distinct : AreDistinct names)
      (o : SinksOut held faults (take i names) sinks a b) (ch : ChangesSink name b c) where
    alone : times name (take i names) ≡ 0
    alone =
        let d = distinct name in
        let t = times_take name (i + 1) names in
        let n : times name (take (i + 1) names) ≡ times name (take i names) + one_if name name = ap (times name) (taken_next names i name lt is) ∙ times_more name (take i names) name in
        let one : one_if name name ≡ 1 = ap (λ b. cond b 1 0) (itself name) in
        omega arith

    pub open_ok : OpensSink held faults i sinks now_sinks (b.sink name) (c.sink name) (Ok tt) → SinksOut held faults (take (i + 1) names) now_sinks a c
    open_ok n =
        subst (λ (l : List (List ℕ)). SinksOut held faults l now_sinks a c) (sym (taken_next names i name lt is))
        (subst (λ (l : List K). SinksOut held faults (take i names ++ name ∷ []) l a c) (sym n.2)
        (record {
          all = out_more sink_held sink_faults sink_openings sink_out held faults nothing_held (take i names) sinks name n.0 a.sink b.sink c.sink (λ t. alone) o.all (goes (b.sink name) (c.sink name) n.0 n.1.0 n.1.1) ch.others;
          rest = rest_more name a b c o.rest ch;
        }))

    pub same_sinks : (stopped : Stopped) → OpensSink held faults i sinks now_sinks (b.sink name) (c.sink name) (Err stopped) → now_sinks ≡ sinks
    same_sinks Memory n = n.0
    same_sinks (At j) n = n.1

    pub out_same : (stopped : Stopped) → OpensSink held faults i sinks now_sinks (b.sink name) (c.sink name) (Err stopped) → (c.sink name).out ≡ (b.sink name).out
    out_same Memory n = n.1.2.out
    out_same (At j) n = n.2.out

    pub sinks_long : i ≡ length sinks
    sinks_long = number_is sink_held sink_faults sink_openings sink_out held faults nothing_held names i name sinks a.sink b.sink c.sink lt is o.all ch.others

    pub sinks_out : (stopped : Stopped) → OpensSink held faults i sinks now_sinks (b.sink name) (c.sink name) (Err stopped) → (p : List ℕ) → times p (take i names) ≤ (c.sink p).out
    sinks_out stopped n p = still_out sink_held sink_faults sink_openings sink_out held faults nothing_held names i name sinks a.sink b.sink c.sink lt is o.all ch.others (out_same stopped n) p

    -- one sink more may be opened, or none
    first_times : (k : ℕ) (p : List ℕ) → k ≤ 1 → times p (take (i + k) names) ≡ times p (take i names) + cond (nat_lt 0 k) (one_if p name) 0
    first_times zero p le = ap (λ n. times p (take n names)) (add-zero i) ∙ sym (add-zero (times p (take i names)))
    first_times (suc zero) p le = ap (times p) (taken_next names i name lt is) ∙ times_more p (take i names) name
    first_times (suc (suc k)) p le = absurd (omega arith)

    as_held : (b : Bool) (x y : SinkSeen) → y.held ≡ x.held → KeepsHeld b x y
    as_held true x y e = λ octets is. inl (e ∙ is)
    as_held false x y e = e

    moved : (b : Bool) (w x y z : SinkSeen) → x ≡ w → z ≡ y → KeepsHeld b x y → KeepsHeld b w z
    moved b w x y z p q k = subst (λ (s : SinkSeen). KeepsHeld b s z) p (subst (λ (s : SinkSeen). KeepsHeld b x s) (sym q) k)

    module _ (d : Seen) (n : ℕ) (f : Bool) (k : ℕ) (le : k ≤ 1) (kept : SinkKept n f (b.sink name) (c.sink name)) (keeps : KeepsHeld (nat_lt 0 k) (b.sink name) (c.sink name)) (back : SinksBack held faults (take i names) sinks c d) where
      -- a name that was not opened before
      fresh : (p : List ℕ) → times p (take i names) ≡ 0 → KeepsHeld (has p (take (i + k) names)) (b.sink p) (c.sink p)
      fresh p none = elim (same_or p name) [
        | inl same ↦ subst (λ q. KeepsHeld (has q (take (i + k) names)) (b.sink q) (c.sink q)) (sym same.1) (here k le keeps)
        | inr differ ↦ as_held (has p (take (i + k) names)) (b.sink p) (c.sink p) (ap sink_held (ch.others p differ.1))
      ]
        where
          here : (k : ℕ) → k ≤ 1 → KeepsHeld (nat_lt 0 k) (b.sink name) (c.sink name) → KeepsHeld (has name (take (i + k) names)) (b.sink name) (c.sink name)
          here zero l h = as_held (has name (take (i + 0) names)) (b.sink name) (c.sink name) h
          here (suc zero) l h =
              let one : one_if name name ≡ 1 = ap (λ b. cond b 1 0) (itself name) in
              let t = first_times 1 name l in
              subst (λ e. KeepsHeld e (b.sink name) (c.sink name)) (sym (has_some name (take (i + 1) names) (let u : times name (take (i + 1) names) ≡ times name (take i names) + one_if name name = t in omega arith))) h
          here (suc (suc m)) l h = absurd (omega arith)

      helds : (p : List ℕ) → KeepsHeld (has p (take (i + k) names)) (a.sink p) (d.sink p)
      helds p = elim (zero_or (times p (take i names))) [
        | inl none ↦ (
            let same = others_same sink_held sink_faults sink_openings sink_out held faults nothing_held (take i names) sinks name n f a.sink b.sink c.sink d.sink o.all (kept_of n f (b.sink name) (c.sink name) kept) ch.others back.all p none in
            moved (has p (take (i + k) names)) (a.sink p) (b.sink p) (c.sink p) (d.sink p) same.1 same.0 (fresh p none))
        | inr some ↦ subst (λ e. KeepsHeld e (a.sink p) (d.sink p)) (sym (has_some p (take (i + k) names) (let t = first_times k p le in omega arith)))
            (λ octets is. inr (shows_start sink_held sink_faults sink_openings sink_out held faults nothing_held (take i names) sinks name n f a.sink b.sink c.sink d.sink o.all (kept_of n f (b.sink name) (c.sink name) kept) ch.others back.all p some octets is))
      ]

      rest_all : ChangesSinks a d
      rest_all = record { texts = back.rest.texts ∙ (ch.texts ∙ o.rest.texts); places = back.rest.places ∙ (ch.places ∙ o.rest.places); say = back.rest.say ∙ (ch.say ∙ o.rest.say) }

    pub stopped_sinks : (stopped : Stopped) (d : Seen) → OpensSink held faults i sinks now_sinks (b.sink name) (c.sink name) (Err stopped) → SinksBack held faults (take i names) now_sinks c d → (n : ℕ) × SinksStopped n names stopped a d
    stopped_sinks (At j) d n r =
        let back = subst (λ (l : List K). SinksBack held faults (take i names) l c d) n.1 r in
        subst (λ k. (n : ℕ) × SinksStopped n names (At k) a d) (sym n.0) (
          i + 1,
          record {
            tried = (refl, lt);
            counts = λ p. of_kept _ _ (a.sink p) (d.sink p) (counts_at sink_held sink_faults sink_openings sink_out held faults nothing_held names i name sinks a.sink b.sink c.sink lt is o.all ch.others d.sink (kept_of 1 true (b.sink name) (c.sink name) n.2) back.all p);
            held = λ p. subst (λ m. KeepsHeld (has p (take m names)) (a.sink p) (d.sink p)) (add-zero i) (helds d 1 true 0 (omega arith) n.2 n.3 back p);
            rest = rest_all d 1 true 0 (omega arith) n.2 n.3 back;
          },
        )
    stopped_sinks Memory d n r =
        let back = subst (λ (l : List K). SinksBack held faults (take i names) l c d) n.0 r in (
          i + n.1.0,
          record {
            tried = omega (arith, n.1.1);
            counts = λ p. of_kept _ _ (a.sink p) (d.sink p) (counts_memory sink_held sink_faults sink_openings sink_out held faults nothing_held names i name sinks a.sink b.sink c.sink lt is o.all ch.others d.sink n.1.0 n.1.1 (kept_of n.1.0 false (b.sink name) (c.sink name) n.1.2) back.all p);
            held = helds d n.1.0 false n.1.0 n.1.1 n.1.2 n.1.3 back;
            rest = rest_all d n.1.0 false n.1.0 n.1.1 n.1.2 n.1.3 back;
          },
        )

  -- all went out and came back, and nothing was done with them
  pub unused_sinks : (names : List (List ℕ)) (sinks : List K) (a b c : Seen) → SinksOut held faults names sinks a b → SinksBack held faults names sinks b c → SinksStopped (length names) names Memory a c
  unused_sinks names sinks a b c o r =
      let same : take (length names) names ≡ names = take_all (length names) names (omega arith) in
      let none = untried sink_faults sink_openings sink_out (b.sink []) in
      record {
        tried = omega arith;
        counts = λ p.
            subst (λ (l : List (List ℕ)). SinkKept (times p l) false (a.sink p) (c.sink p)) (sym same)
            (of_kept (times p names) false (a.sink p) (c.sink p)
            (subst (λ m. Kept sink_faults sink_openings sink_out m false (a.sink p) (c.sink p)) (ap (λ k. times p names + k) (no_count p []) ∙ add-zero (times p names))
            (subst (λ f. Kept sink_faults sink_openings sink_out (times p names + cond (bytes_eq p []) 0 0) f (a.sink p) (c.sink p)) (no_mark p [])
            (refused_counts sink_held sink_faults sink_openings sink_out held faults nothing_held names sinks [] 0 false a.sink b.sink b.sink c.sink o.all none (λ q ne. refl) r.all p))));
        held = λ p. subst (λ (l : List (List ℕ)). KeepsHeld (has p l) (a.sink p) (c.sink p)) (sym same) (elim (zero_or (times p names)) [
          | inl out ↦ (
              let s = others_same sink_held sink_faults sink_openings sink_out held faults nothing_held names sinks [] 0 false a.sink b.sink b.sink c.sink o.all none (λ q ne. refl) r.all p out in
              subst (λ e. KeepsHeld e (a.sink p) (c.sink p)) (sym (has_none p names out)) (ap sink_held (s.0 ∙ s.1)))
          | inr some ↦ subst (λ e. KeepsHeld e (a.sink p) (c.sink p)) (sym (has_some p names some))
              (λ octets is. inr (shows_start sink_held sink_faults sink_openings sink_out held faults nothing_held names sinks [] 0 false a.sink b.sink b.sink c.sink o.all none (λ q ne. refl) r.all p some octets is))
        ]);
        rest = record { texts = r.rest.texts ∙ o.rest.texts; places = r.rest.places ∙ o.rest.places; say = r.rest.say ∙ o.rest.say };
      }
