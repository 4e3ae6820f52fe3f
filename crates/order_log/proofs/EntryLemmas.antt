-- One entry more.
use Rattle.std.proofs.Common.{◌≡◌, ℕ, ◌+◌, ◌≤◌, Bool, true, false, List, [], ◌∷◌, ◌++◌, length, take, Option, Some, None, refl, ap, sym, subst, ◌∙◌, append_assoc, append-nil, arith}
use Rattle.std.specs.Prelude.{is_some, MatchOption, flat_map}
use Rattle.site_io.specs.Writes.{Grows}
use Rattle.site_io.specs.declared.outside.OutsideFault.{OutsideFault}
use Rattle.site_io.specs.declared.outside.OutsideFault.TheVariants as fault
use Rattle.call_spec.specs.Counts.{MovesBy}
use Rattle.call_spec.specs.Ends.{has_failed}
use Rattle.call_spec.specs.Log.{entry_octets, log_text}
use Rattle.order_log.specs.declared.order_log.OrderLog.{OrderLog}
use Rattle.order_log.specs.Entries.{HasEntries, WritesEntry, Stands, Enters}

grows_none : (a : Option (List ℕ)) → Grows a a []
grows_none None = tt
grows_none (Some xs) = sym (append-nil xs)

grows_more : (a b c : Option (List ℕ)) (first second : List ℕ) → Grows a b first → Grows b c second → Grows a c (first ++ second)
grows_more None b c first second p q = tt
grows_more (Some xs) None c first second p q = absurd p
grows_more (Some xs) (Some ys) None first second p q = absurd q
grows_more (Some xs) (Some ys) (Some zs) first second p q = q ∙ (ap (λ l. l ++ second) p ∙ append_assoc xs first second)

log_more : (order : List ℕ) (k : ℕ) → log_text (order ++ k ∷ []) ≡ log_text order ++ entry_octets k
log_more [] k = refl
log_more (x ∷ order) k = ap (λ l. entry_octets x ++ l) (log_more order k)

module _ {K : Type 0} (held : K → Option (List ℕ)) (faults : K → ℕ) where
  pub entered : (input : ℕ) (old new : OrderLog K) → old.fault ≡ None → WritesEntry held faults input old.sink new.sink new.fault → Enters held faults input old new
  entered input old new whole w first order s = by_fault new.fault refl w
    where
      still : MovesBy false (faults first) (faults old.sink)
      still = subst (λ f. MovesBy (has_failed f) (faults first) (faults old.sink)) whole s.counts

      by_fault : (f : Option OutsideFault) → new.fault ≡ f → WritesEntry held faults input old.sink new.sink f → MatchOption f (Stands held faults first (order ++ input ∷ []) None new) (λ _. Stands held faults first order (Some input) new)
      by_fault None is x = record {
        entries = subst (λ t. Grows (held first) (held new.sink) t) (sym (log_more order input)) (grows_more (held first) (held old.sink) (held new.sink) (log_text order) (entry_octets input) s.entries x.0);
        ended = ap is_some is;
        counts = subst (λ f. MovesBy (has_failed f) (faults first) (faults new.sink)) (sym is) (x.1 ∙ still);
      }
      by_fault (Some fault.Failed) is x = record {
        entries = (x.0.0, x.0.1, grows_more (held first) (held old.sink) (held new.sink) (log_text order) (take x.0.0 (entry_octets input)) s.entries x.0.2);
        ended = ap is_some is;
        counts = subst (λ f. MovesBy (has_failed f) (faults first) (faults new.sink)) (sym is) (subst (λ n. MovesBy true n (faults new.sink)) still x.1);
      }
      by_fault (Some fault.NoMemory) is x = record {
        entries = (0, omega arith, subst (λ (o : Option (List ℕ)). Grows (held first) o (log_text order ++ [])) (sym x.0) (subst (λ t. Grows (held first) (held old.sink) t) (sym (append-nil (log_text order))) s.entries));
        ended = ap is_some is;
        counts = subst (λ f. MovesBy (has_failed f) (faults first) (faults new.sink)) (sym is) (x.1 ∙ still);
      }
