-- Logs that no run has, and inputs that end.
use Rattle.std.proofs.Common.{◌≡◌, inl, inr, ℕ, List, [], ◌∷◌, Some, None, false, arith}
use Rattle.arrival_spec.specs.declared.event.Scripted.{Scripted}
use Rattle.site_io.specs.declared.outside.OutsideFault.TheVariants as fault
use Rattle.call_spec.specs.declared.end.InputEnd.TheVariants as end
use Rattle.call_spec.specs.Ends.{EndsInput}
use Rattle.call_spec.specs.Log.{HoldsLog}

pub fewer : (lists : List (List ℕ)) → HoldsLog (Some fault.Failed) lists (Some []) (Some (0 ∷ 0 ∷ [])) (0 ∷ 1 ∷ []) → ⊥
fewer lists h = let e = h.4 in absurd (cc)

pub fewer_whole : (lists : List (List ℕ)) → HoldsLog None lists (Some []) (Some (0 ∷ 0 ∷ [])) (0 ∷ 1 ∷ []) → ⊥
fewer_whole lists h = absurd (cc)

pub more_whole : (lists : List (List ℕ)) → HoldsLog None lists (Some []) (Some (0 ∷ 0 ∷ 0 ∷ 1 ∷ 0 ∷ 0 ∷ [])) (0 ∷ 1 ∷ []) → ⊥
more_whole lists h = absurd (cc)

pub nothing_left : (old now given : List Scripted) → EndsInput 0 (Some old) (Some now) given end.End false → now ≡ []
nothing_left old now given e = elim e.1 [ inl n ↦ n.0 | inr f ↦ absurd (let lt = f.0 in omega arith) ]
