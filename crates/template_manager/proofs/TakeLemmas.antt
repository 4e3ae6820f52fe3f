-- What a manager stands for once a template record was taken, by transport.
use Rattle.std.proofs.Common.{◌≡◌, ℕ, ◌+◌, ◌≤◌, Bool, false, List, [], ◌∷◌, ◌++◌, None, ap, sym, subst, ◌∙◌, refl}
use Rattle.std.specs.Prelude.{Option, Result, Ok, Err, IfOk, OnOk, option_map}
use Rattle.std.proofs.lemmas.Bool.{ltb-false}
use Rattle.std.proofs.lemmas.List.Sums.{fold-append}
use Rattle.std.specs.declared.sync.Arc.{Arc}
use Rattle.std.specs.declared.alloc.Global.{Global}
use Rattle.col_base.specs.declared.base.Lifetimes.{Lifetimes}
use Rattle.col_base.specs.declared.base.Transport.{Transport}
use Rattle.col_base.specs.declared.base.Transport.TheVariants.{Tcp, Udp, File}
use Rattle.wire_spec.specs.Content.{Definition, Touch}
use Rattle.wire_spec.specs.Content.Touch.{Define, Withdraw, WithdrawAll}
use Rattle.template_spec.specs.Valid.{newer, touched, while_alive}
use Rattle.template_spec.specs.Late.{is_late}
use Rattle.template_spec.specs.Changes.{changes, is_new_to}
use Rattle.template_history.specs.declared.version.Version.{Version}
use Rattle.template_history.specs.Versions.{version_at}
use Rattle.template_spec.specs.declared.outcome.Taken.{Taken}
use Rattle.template_manager.specs.Kinds.{changes_by_time, taken_by_time, taken_in_order}
use Rattle.template_spec.specs.Taken.{defined_as, taken}
use Rattle.template_manager.specs.Stands.{StandsBy, StandsFor}
use Rattle.template_manager.specs.State.{State}
use Rattle.template_manager.specs.Table.{definition_in}
use Rattle.template_manager.proofs.OrderLemmas.{taken_file, taken_tcp, touched_more}

not_late : (life : Lifetimes) (greatest time : ℕ) → is_late Udp life greatest time ≡ false → greatest ≤ time + life.late
not_late life greatest time l = ltb-false (time + life.late) greatest l

-- ---- over UDP

pub udp_is : {E : Type 0} (m : State) (r : Result (Taken × Bool) E) (time : ℕ) (t : Touch) → m.transport ≡ Udp → is_late m.transport m.life m.greatest time ≡ false → IfOk r (λ x. x.0 ≡ taken_by_time m.life (version_at m.timed) time t)
    → IfOk r (λ x. (past : List (ℕ × Touch)) → StandsFor m past → x.0 ≡ taken m.transport m.life past (time, t))
udp_is m (Err e) time t is l p = tt
udp_is m (Ok x) time t is l p = λ past s. p ∙ subst (λ (by : Transport). StandsBy by m past → is_late by m.life m.greatest time ≡ false → taken_by_time m.life (version_at m.timed) time t ≡ taken by m.life past (time, t)) (sym is) (λ s l. by t past s l) s l
  where
    by : (t : Touch) (past : List (ℕ × Touch)) → StandsBy Udp m past → is_late Udp m.life m.greatest time ≡ false → taken_by_time m.life (version_at m.timed) time t ≡ taken Udp m.life past (time, t)
    by (Define id d) past s l = ap (λ o. defined_as (while_alive m.life time o) d) (s time id (not_late m.life m.greatest time l))
    by (Withdraw id) past s l = refl
    by (WithdrawAll kind) past s l = refl

pub udp_changes : {E : Type 0} (m : State) (r : Result (Taken × Bool) E) (time : ℕ) (t : Touch) → m.transport ≡ Udp → is_late m.transport m.life m.greatest time ≡ false → IfOk r (λ x. x.1 ≡ changes_by_time (version_at m.timed) time t)
    → IfOk r (λ x. (past : List (ℕ × Touch)) → StandsFor m past → changes m.transport past (time, t) ≡ x.1)
udp_changes m (Err e) time t is l p = tt
udp_changes m (Ok x) time t is l p = λ past s. sym (p ∙ subst (λ (by : Transport). StandsBy by m past → is_late by m.life m.greatest time ≡ false → changes_by_time (version_at m.timed) time t ≡ changes by past (time, t)) (sym is) (λ s l. by t past s l) s l)
  where
    by : (t : Touch) (past : List (ℕ × Touch)) → StandsBy Udp m past → is_late Udp m.life m.greatest time ≡ false → changes_by_time (version_at m.timed) time t ≡ changes Udp past (time, t)
    by (Define id d) past s l = ap (λ o. is_new_to (option_map (λ v. v.1) o) d) (s time id (not_late m.life m.greatest time l))
    by (Withdraw id) past s l = refl
    by (WithdrawAll kind) past s l = refl

abbrev pub with_timed : State → List (ℕ × List Version) → State
with_timed m timed = record { transport = m.transport; life = m.life; greatest = m.greatest; ordered = m.ordered; timed = timed; live = m.live; retired = m.retired; spare = m.spare }

pub udp_ok : {A E : Type 0} (m : State) (timed : List (ℕ × List Version)) (r : Result A E) (time : ℕ) (t : Touch) → m.transport ≡ Udp → OnOk r ((e k : ℕ) → version_at timed e k ≡ newer e k (version_at m.timed e k) (time, t))
    → OnOk r ((past : List (ℕ × Touch)) → StandsFor m past → StandsFor (with_timed m timed) (past ++ (time, t) ∷ []))
udp_ok m timed (Err e) time t is p = tt
udp_ok m timed (Ok x) time t is p = λ past s. subst (λ (by : Transport). StandsBy by m past → StandsBy by (with_timed m timed) (past ++ (time, t) ∷ [])) (sym is)
    (λ s e id le. p e id ∙ (ap (λ (f : Option (ℕ × Definition)). newer e id f (time, t)) (s e id le) ∙ sym (fold-append (newer e id) None past ((time, t) ∷ [])))) s

-- ---- over TCP and in files

abbrev pub with_ordered : State → List (ℕ × Arc Definition Global) → State
with_ordered m ordered = record { transport = m.transport; life = m.life; greatest = m.greatest; ordered = ordered; timed = m.timed; live = m.live; retired = m.retired; spare = m.spare }

pub tcp_ok : {A E : Type 0} (m : State) (ordered : List (ℕ × Arc Definition Global)) (r : Result A E) (time : ℕ) (t : Touch) → m.transport ≡ Tcp → OnOk r ((k : ℕ) → definition_in ordered k ≡ touched k (definition_in m.ordered k) t)
    → OnOk r ((past : List (ℕ × Touch)) → StandsFor m past → StandsFor (with_ordered m ordered) (past ++ (time, t) ∷ []))
tcp_ok m ordered (Err e) time t is p = tt
tcp_ok m ordered (Ok x) time t is p = λ past s. subst (λ (by : Transport). StandsBy by m past → StandsBy by (with_ordered m ordered) (past ++ (time, t) ∷ [])) (sym is) (λ s. touched_more (definition_in m.ordered) (definition_in ordered) past time t s p) s

pub file_ok : {A E : Type 0} (m : State) (ordered : List (ℕ × Arc Definition Global)) (r : Result A E) (time : ℕ) (t : Touch) → m.transport ≡ File → OnOk r ((k : ℕ) → definition_in ordered k ≡ touched k (definition_in m.ordered k) t)
    → OnOk r ((past : List (ℕ × Touch)) → StandsFor m past → StandsFor (with_ordered m ordered) (past ++ (time, t) ∷ []))
file_ok m ordered (Err e) time t is p = tt
file_ok m ordered (Ok x) time t is p = λ past s. subst (λ (by : Transport). StandsBy by m past → StandsBy by (with_ordered m ordered) (past ++ (time, t) ∷ [])) (sym is) (λ s. touched_more (definition_in m.ordered) (definition_in ordered) past time t s p) s

pub tcp_is : {E : Type 0} (m : State) (r : Result (Taken × Bool) E) (time : ℕ) (t : Touch) → m.transport ≡ Tcp → IfOk r (λ x. x.0 ≡ taken_in_order (definition_in m.ordered) t)
    → IfOk r (λ x. (past : List (ℕ × Touch)) → StandsFor m past → x.0 ≡ taken m.transport m.life past (time, t))
tcp_is m (Err e) time t is p = tt
tcp_is m (Ok x) time t is p = λ past s. p ∙ subst (λ (by : Transport). StandsBy by m past → taken_in_order (definition_in m.ordered) t ≡ taken by m.life past (time, t)) (sym is) (λ s. taken_tcp m.life (definition_in m.ordered) past time t s) s

pub file_is : {E : Type 0} (m : State) (r : Result (Taken × Bool) E) (time : ℕ) (t : Touch) → m.transport ≡ File → IfOk r (λ x. x.0 ≡ taken_in_order (definition_in m.ordered) t)
    → IfOk r (λ x. (past : List (ℕ × Touch)) → StandsFor m past → x.0 ≡ taken m.transport m.life past (time, t))
file_is m (Err e) time t is p = tt
file_is m (Ok x) time t is p = λ past s. p ∙ subst (λ (by : Transport). StandsBy by m past → taken_in_order (definition_in m.ordered) t ≡ taken by m.life past (time, t)) (sym is) (λ s. taken_file m.life (definition_in m.ordered) past time t s) s
