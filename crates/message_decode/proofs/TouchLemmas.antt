-- Template records are taken one after another, and counted.
use Rattle.std.proofs.Common.{◌≡◌, ℕ, ◌+◌, Bool, true, false, not, cond, List, [], ◌∷◌, ◌++◌, map, refl, ap, sym, subst, ◌∙◌, arith, append_assoc, append-nil, Some, None}
use Rattle.std.specs.Prelude.{Option, count_by, filter}
use Rattle.std.proofs.lemmas.List.{map-append}
use Rattle.std.proofs.lemmas.List.Elements.{filter-append}
use Rattle.std.proofs.lemmas.List.Sums.{sum_by-append}
use Rattle.col_base.specs.declared.base.Lifetimes.{Lifetimes}
use Rattle.col_base.specs.declared.base.Transport.{Transport}
use Rattle.col_base.specs.declared.base.Transport.TheVariants.{Tcp, Udp, File}
use Rattle.wire_spec.specs.Content.{Definition, Touch}
use Rattle.wire_spec.specs.Content.Touch.{Define, Withdraw, WithdrawAll}
use Rattle.wire_spec.specs.Content.Part.{Touches}
use Rattle.template_spec.specs.declared.outcome.Taken.{Taken}
use Rattle.template_spec.specs.declared.outcome.Taken.TheVariants.{New, Same, Redefined, Withdrawn, Ignored}
use Rattle.template_spec.specs.Taken.{defined_as, is_redefined, taken}
use Rattle.template_spec.specs.Changes.{count_after, redefines}
use Rattle.template_spec.specs.Late.{is_kept}
use Rattle.template_spec.specs.Same.{same_definition}
use Rattle.template_spec.specs.Valid.{valid}
use Rattle.template_spec.proofs.TakenLemmas.{newest_without}
use Rattle.template_manager.specs.State.{State}
use Rattle.template_manager.specs.Stands.{StandsBy, StandsFor}
use Rattle.template_manager.specs.Snapshots.{KeepsSettings}
use Rattle.run_spec.specs.Touches.{dated}
use Rattle.pipeline_message.specs.Shown.{adds}
use Rattle.message_decode.specs.declared.counts.SetCounts.{SetCounts}
use Rattle.message_decode.specs.Steps.{Stands, counted_as, TakesTouches}

-- ---- counts that rise

pub none_more : (n : ℕ) → n ≡ adds n 0
none_more n = omega arith

pub twice : (n a b : ℕ) → adds (adds n a) b ≡ adds n (a + b)
twice n a b = omega arith

pub then : (a b x y z : ℕ) → y ≡ adds x a → z ≡ adds y b → z ≡ adds x (a + b)
then a b x y z e f = f ∙ (ap (λ n. adds n b) e ∙ twice x a b)

-- ---- settings that stay

pub keeps_none : (m : State) → KeepsSettings m m
keeps_none m = record { transport = refl; life = refl; greatest = refl }

pub keeps_then : {a b c : State} → KeepsSettings a b → KeepsSettings b c → KeepsSettings a c
keeps_then {a} {b} {c} p q = record { transport = q.transport ∙ p.transport; life = q.life ∙ p.life; greatest = q.greatest ∙ p.greatest }

-- ---- lists of template records

dated_both : (transport : Transport) (time : ℕ) (a b : List Touch) → dated transport time (Touches (a ++ b)) ≡ dated transport time (Touches a) ++ dated transport time (Touches b)
dated_both transport time a b =
    ap (map (λ (t : Touch). (time, t))) (filter-append (is_kept transport) a b) ∙ map-append (λ (t : Touch). (time, t)) (filter (is_kept transport) a) (filter (is_kept transport) b)

pub count_both : (test : List (ℕ × Touch) → ℕ × Touch → Bool) (past a b : List (ℕ × Touch)) → count_after test past (a ++ b) ≡ count_after test past a + count_after test (past ++ a) b
count_both test past [] b = (let e : count_after test (past ++ []) b ≡ count_after test past b = ap (λ p. count_after test p b) (append-nil past) in omega arith)
count_both test past (t ∷ a) b =
    let more = count_both test (past ++ t ∷ []) a b in
    let e : count_after test ((past ++ t ∷ []) ++ a) b ≡ count_after test (past ++ t ∷ a) b = ap (λ p. count_after test p b) (append_assoc past (t ∷ []) a) in
    omega arith

pub touches_none : (time : ℕ) (m : State) (c : SetCounts) → TakesTouches time [] m m c c
touches_none time m c = record {
  keeps = keeps_none m;
  found = λ settings past s. record { stands = subst (λ l. Stands settings l m) (sym (append-nil past)) s; redefined = none_more c.redefined; ignored = none_more c.ignored; records = refl; skipped = refl };
}

pub touches_then : {time : ℕ} {a b : List Touch} {old mid new : State} {x y z : SetCounts} → TakesTouches time a old mid x y → TakesTouches time b mid new y z → TakesTouches time (a ++ b) old new x z
touches_then {time} {a} {b} {old} {mid} {new} {x} {y} {z} p q = record {
  keeps = keeps_then p.keeps q.keeps;
  found = λ settings past s.
      let f = p.found settings past s in
      let g = q.found settings (past ++ dated settings.transport time (Touches a)) f.stands in
      let both = dated_both settings.transport time a b in
      record {
        stands = subst (λ l. Stands settings l new) (append_assoc past (dated settings.transport time (Touches a)) (dated settings.transport time (Touches b)) ∙ ap (λ l. past ++ l) (sym both)) g.stands;
        redefined = then _ _ x.redefined y.redefined z.redefined f.redefined g.redefined
            ∙ ap (adds x.redefined) (sym (ap (count_after (redefines settings.transport settings.life) past) both ∙ count_both (redefines settings.transport settings.life) past (dated settings.transport time (Touches a)) (dated settings.transport time (Touches b))));
        ignored = then _ _ x.ignored y.ignored z.ignored f.ignored g.ignored ∙ ap (adds x.ignored) (sym (sum_by-append (λ (t : Touch). cond (not (is_kept settings.transport t)) 1 0) a b));
        records = g.records ∙ f.records;
        skipped = g.skipped ∙ f.skipped;
      };
}

-- ---- one template record

abbrev is_ignored : Taken → Bool
is_ignored New = false
is_ignored Same = false
is_ignored Redefined = false
is_ignored Withdrawn = false
is_ignored Ignored = true

redefined_by : (t : Taken) (c : SetCounts) → (counted_as t c).redefined ≡ adds c.redefined (cond (is_redefined t) 1 0)
redefined_by New c = none_more c.redefined
redefined_by Same c = none_more c.redefined
redefined_by Redefined c = refl
redefined_by Withdrawn c = none_more c.redefined
redefined_by Ignored c = none_more c.redefined

ignored_by : (t : Taken) (c : SetCounts) → (counted_as t c).ignored ≡ adds c.ignored (cond (is_ignored t) 1 0)
ignored_by New c = none_more c.ignored
ignored_by Same c = none_more c.ignored
ignored_by Redefined c = none_more c.ignored
ignored_by Withdrawn c = none_more c.ignored
ignored_by Ignored c = refl

same_records : (t : Taken) (c : SetCounts) → (counted_as t c).records ≡ c.records
same_records New c = refl
same_records Same c = refl
same_records Redefined c = refl
same_records Withdrawn c = refl
same_records Ignored c = refl

same_skipped : (t : Taken) (c : SetCounts) → (counted_as t c).skipped ≡ c.skipped
same_skipped New c = refl
same_skipped Same c = refl
same_skipped Redefined c = refl
same_skipped Withdrawn c = refl
same_skipped Ignored c = refl

by_same : (b : Bool) → is_ignored (cond b Same Redefined) ≡ false
by_same true = refl
by_same false = refl

not_defined : (found : Option Definition) (d : Definition) → is_ignored (defined_as found d) ≡ false
not_defined None d = refl
not_defined (Some f) d = by_same (same_definition f d)

-- a template record is ignored where it is left out
ignored_is : (transport : Transport) (life : Lifetimes) (past : List (ℕ × Touch)) (time : ℕ) (touch : Touch) → is_ignored (taken transport life past (time, touch)) ≡ not (is_kept transport touch)
ignored_is Tcp life past time (Define id d) = not_defined (valid Tcp life past time id) d
ignored_is Tcp life past time (Withdraw id) = refl
ignored_is Tcp life past time (WithdrawAll kind) = refl
ignored_is File life past time (Define id d) = not_defined (valid File life past time id) d
ignored_is File life past time (Withdraw id) = refl
ignored_is File life past time (WithdrawAll kind) = refl
ignored_is Udp life past time (Define id d) = not_defined (valid Udp life past time id) d
ignored_is Udp life past time (Withdraw id) = refl
ignored_is Udp life past time (WithdrawAll kind) = refl

-- what is left out plays no part for those that come later
stand_by : (transport : Transport) (time : ℕ) (past : List (ℕ × Touch)) (touch : Touch) (m : State) → StandsBy transport m (past ++ (time, touch) ∷ []) → StandsBy transport m (past ++ dated transport time (Touches (touch ∷ [])))
stand_by Tcp time past touch m s = s
stand_by File time past touch m s = s
stand_by Udp time past (Define id d) m s = s
stand_by Udp time past (Withdraw id) m s = λ e k le. s e k le ∙ newest_without past [] (time, Withdraw id) e k refl
stand_by Udp time past (WithdrawAll kind) m s = λ e k le. s e k le ∙ newest_without past [] (time, WithdrawAll kind) e k refl

once : (b : Bool) → cond b 1 0 ≡ cond b 1 0 + 0
once true = refl
once false = refl

counted_by : (transport : Transport) (life : Lifetimes) (time : ℕ) (past : List (ℕ × Touch)) (touch : Touch)
    → cond (is_redefined (taken transport life past (time, touch))) 1 0 ≡ count_after (redefines transport life) past (dated transport time (Touches (touch ∷ [])))
counted_by Tcp life time past touch = once (redefines Tcp life past (time, touch))
counted_by File life time past touch = once (redefines File life past (time, touch))
counted_by Udp life time past (Define id d) = once (redefines Udp life past (time, Define id d))
counted_by Udp life time past (Withdraw id) = refl
counted_by Udp life time past (WithdrawAll kind) = refl

one_counted : (p : Touch → Bool) (t : Touch) → cond (p t) 1 0 ≡ count_by p (t ∷ [])
one_counted p t = omega arith

pub one_touch : (time : ℕ) (touch : Touch) (old new : State) (t : Taken) (before after : SetCounts)
    → ((past : List (ℕ × Touch)) → StandsFor old past → t ≡ taken old.transport old.life past (time, touch))
    → ((past : List (ℕ × Touch)) → StandsFor old past → StandsFor new (past ++ (time, touch) ∷ [])) → KeepsSettings old new → after ≡ counted_as t before → TakesTouches time (touch ∷ []) old new before after
one_touch time touch old new t before after is goes keeps counts = record {
  keeps = keeps;
  found = λ settings past s.
      let transport : new.transport ≡ settings.transport = keeps.transport ∙ s.transport in
      let so : t ≡ taken settings.transport settings.life past (time, touch) = is past s.records ∙ (ap (λ x. taken x old.life past (time, touch)) s.transport ∙ ap (λ x. taken settings.transport x past (time, touch)) s.life) in
      let counted : after ≡ counted_as (taken settings.transport settings.life past (time, touch)) before = counts ∙ ap (λ x. counted_as x before) so in
      let here = taken settings.transport settings.life past (time, touch) in
      let given : StandsBy settings.transport new (past ++ (time, touch) ∷ []) = subst (λ x. StandsBy x new (past ++ (time, touch) ∷ [])) transport (goes past s.records) in
      record {
        stands = record {
          transport = transport;
          life = keeps.life ∙ s.life;
          records = subst (λ x. StandsBy x new (past ++ dated settings.transport time (Touches (touch ∷ [])))) (sym transport) (stand_by settings.transport time past touch new given);
        };
        redefined = ap (λ (c : SetCounts). c.redefined) counted ∙ (redefined_by here before ∙ ap (adds before.redefined) (counted_by settings.transport settings.life time past touch));
        ignored = ap (λ (c : SetCounts). c.ignored) counted ∙ (ignored_by here before ∙ ap (adds before.ignored) (ap (λ b. cond b 1 0) (ignored_is settings.transport settings.life past time touch) ∙ one_counted (λ (x : Touch). not (is_kept settings.transport x)) touch));
        records = ap (λ (c : SetCounts). c.records) counted ∙ same_records here before;
        skipped = ap (λ (c : SetCounts). c.skipped) counted ∙ same_skipped here before;
      };
}
