-- A message more of a session: its domain is known, or new, or crowded out, and the other domains stay.
use Rattle.std.proofs.Common.{◌≡◌, ℕ, ◌+◌, ◌<◌, ◌≤◌, Bool, true, false, not, ◌&&◌, ◌||◌, cond, List, [], ◌∷◌, ◌++◌, Some, None, length, refl, ap, sym, subst, ◌∙◌, arith, append-nil, length-append}
use Rattle.std.specs.Prelude.{◌==◌, nat_eq, nat_le, Option, max, is_some}
use Rattle.std.proofs.lemmas.Bool.{eq-eqb, eqb-true, le-leb, lt-leb, cond-true, cond-false, or_left, or_right}
use Rattle.std.proofs.lemmas.List.Folds.{list_any-append}
use Rattle.indexmap.specs.IndexMap.{get, index_map_len}
use Rattle.col_base.specs.Numbers.{be32_at}
use Rattle.wire_spec.specs.Content.{Message, Says, Touch}
use Rattle.template_spec.specs.Late.{is_late}
use Rattle.arrival_spec.specs.Settings.{Settings}
use Rattle.run_spec.specs.Judge.{is_crowded, judge, is_taken, newest_export}
use Rattle.run_spec.specs.Judge.Judgement.{Malformed as IsMalformed, Crowded as IsCrowded, Late as IsLate, Taken as IsTaken}
use Rattle.run_spec.specs.Domains.{is_among, kept_domains}
use Rattle.run_spec.specs.Touches.{touches_before, touches_in}
use Rattle.run_spec.specs.Outcome.{outcomes}
use Rattle.run_spec.proofs.DomainLemmas.{kept_domains-more, crowded_if}
use Rattle.run_spec.proofs.MoreLemmas.{one_more_touches, newer_export}
use Rattle.count_spec.specs.Counts.{next_number}
use Rattle.message_decode.specs.Steps.{Stands}
use Rattle.session_domains.specs.declared.domain.Domain.{Domain}
use Rattle.session_domains.specs.declared.domains.Domains.{Domains}
use Rattle.session_domains.specs.declared.fate.Fate.{Fate}
use Rattle.session_domains.specs.declared.fate.Fate.TheVariants.{Crowded, Late, Taken}
use Rattle.session_domains.specs.Domain.{DomainStands, DomainTakes}
use Rattle.session_domains.specs.Session.{due_later, IsUnknown, StandsAt, StandFor, FateOf, Takes}

and_false : (b : Bool) → b && false ≡ false
and_false true = refl
and_false false = refl

-- ---- what a message leaves of a domain

abbrev StandsLater : Settings → List Message → (ℕ → Option ℕ) → Message → ℕ → Option Domain → Type 0
StandsLater settings past due m domain o = StandsAt settings (past ++ m ∷ []) (due_later settings past due m) domain o

later : (settings : Settings) (past : List Message) (due : ℕ → Option ℕ) (m : Message) (domain : ℕ) (touches : List (ℕ × Touch)) (newest : ℕ) (number : Option ℕ) (d : Domain) → touches_before settings (past ++ m ∷ []) domain ≡ touches
    → newest_export domain (past ++ m ∷ []) ≡ newest → due_later settings past due m domain ≡ number → DomainStands settings touches newest number d → StandsLater settings past due m domain (Some d)
later settings past due m domain touches newest number d t n e s =
    record { templates = subst (λ l. Stands settings l d.manager) (sym t) s.templates; newest_is = s.newest_is ∙ sym n; due_is = s.due_is ∙ sym e }

-- by its judgement
touches_by : (settings : Settings) (past : List Message) (m : Message) (domain : ℕ) (b : Bool) → (is_taken (judge settings past m) && (m.domain == domain)) ≡ b
    → touches_before settings (past ++ m ∷ []) domain ≡ touches_before settings past domain ++ cond b (touches_in settings.transport m) []
touches_by settings past m domain b e = one_more_touches settings past m domain ∙ ap (λ x. touches_before settings past domain ++ cond x (touches_in settings.transport m) []) e

due_by : (settings : Settings) (past : List Message) (due : ℕ → Option ℕ) (m : Message) (domain : ℕ) (b : Bool) → (is_taken (judge settings past m) && (m.domain == domain)) ≡ b
    → due_later settings past due m domain ≡ cond b (next_number m.sequence (outcomes settings past m)) (due domain)
due_by settings past due m domain b e = ap (λ x. cond x (next_number m.sequence (outcomes settings past m)) (due domain)) e

newest_here : (past : List Message) (m : Message) → newest_export m.domain (past ++ m ∷ []) ≡ max (newest_export m.domain past) m.export
newest_here past m = newer_export m.domain past m ∙ cond-true (m.domain == m.domain) (max (newest_export m.domain past) m.export) (newest_export m.domain past) (eq-eqb m.domain m.domain refl)

judge_by : (settings : Settings) (past : List Message) (m : Message) (b : Bool) → is_crowded past m ≡ false → is_late settings.transport settings.life (max (newest_export m.domain past) m.export) m.export ≡ b
    → judge settings past m ≡ cond b IsLate IsTaken
judge_by settings past m b inside late =
    ap (λ x. cond x IsCrowded (cond (is_late settings.transport settings.life (newest_export m.domain (past ++ m ∷ [])) m.export) IsLate IsTaken)) inside
    ∙ ap (λ x. cond x IsLate IsTaken) (ap (λ n. is_late settings.transport settings.life n m.export) (newest_here past m) ∙ late)

-- the domain of a message that isn't crowded out
here : (octets : List ℕ) (settings : Settings) (past : List Message) (due : ℕ → Option ℕ) (m : Message) (old new : Domain) (fate : Fate) → is_crowded past m ≡ false → Says octets m
    → DomainStands settings (touches_before settings past m.domain) (newest_export m.domain past) (due m.domain) old → DomainTakes octets old new fate → FateOf settings octets past due m fate × StandsLater settings past due m m.domain (Some new)
here octets settings past due m old new Crowded inside says s t = absurd (t m says settings (touches_before settings past m.domain) (newest_export m.domain past) (due m.domain) s)
here octets settings past due m old new Late inside says s t =
    let f = t m says settings (touches_before settings past m.domain) (newest_export m.domain past) (due m.domain) s in
    let j : judge settings past m ≡ IsLate = judge_by settings past m true inside f.0 in
    let no : (is_taken (judge settings past m) && (m.domain == m.domain)) ≡ false = ap (λ x. is_taken x && (m.domain == m.domain)) j in (
      j,
      later settings past due m m.domain _ _ _ new (touches_by settings past m m.domain false no ∙ append-nil (touches_before settings past m.domain)) (newest_here past m) (due_by settings past due m m.domain false no) f.1,
    )
here octets settings past due m old new (Taken x) inside says s t =
    let f = t m says settings (touches_before settings past m.domain) (newest_export m.domain past) (due m.domain) s in
    let j : judge settings past m ≡ IsTaken = judge_by settings past m false inside f.0 in
    let yes : (is_taken (judge settings past m) && (m.domain == m.domain)) ≡ true = ap (λ x. is_taken x && (m.domain == m.domain)) j ∙ eq-eqb m.domain m.domain refl in (
      (j, f.1),
      later settings past due m m.domain _ _ _ new (touches_by settings past m m.domain true yes) (newest_here past m) (due_by settings past due m m.domain true yes) f.2,
    )

-- ---- which domains are kept

more_kept : (b : Bool) (kept : List ℕ) (domain : ℕ) → length kept ≤ length (cond b kept (kept ++ domain ∷ []))
more_kept true kept domain = omega arith
more_kept false kept domain = (let e = length-append kept (domain ∷ []) in omega arith)

kept_grows : (past : List Message) (m : Message) → length (kept_domains past) ≤ length (kept_domains (past ++ m ∷ []))
kept_grows past m =
    subst (λ l. length (kept_domains past) ≤ length l) (sym (kept_domains-more past m)) (more_kept (is_among m.domain (kept_domains past) || nat_le 1024 (length (kept_domains past))) (kept_domains past) m.domain)

-- any other domain stays
away : (settings : Settings) (past : List Message) (due : ℕ → Option ℕ) (m : Message) (domain : ℕ) (o : Option Domain) → (m.domain == domain) ≡ false → StandsAt settings past due domain o → StandsLater settings past due m domain o
away settings past due m domain None other s =
    let no : (is_taken (judge settings past m) && (m.domain == domain)) ≡ false = ap (λ x. is_taken (judge settings past m) && x) other ∙ and_false (is_taken (judge settings past m)) in
    record {
      touches = touches_by settings past m domain false no ∙ (append-nil (touches_before settings past domain) ∙ s.touches);
      due_is = due_by settings past due m domain false no ∙ s.due_is;
      newest_is = λ less. newer_export domain past m ∙ (cond-false (m.domain == domain) (max (newest_export domain past) m.export) (newest_export domain past) other ∙ s.newest_is (let more = kept_grows past m in omega arith));
    }
away settings past due m domain (Some d) other s =
    let no : (is_taken (judge settings past m) && (m.domain == domain)) ≡ false = ap (λ x. is_taken (judge settings past m) && x) other ∙ and_false (is_taken (judge settings past m)) in
    later settings past due m domain _ _ _ d (touches_by settings past m domain false no ∙ append-nil (touches_before settings past domain))
    (newer_export domain past m ∙ cond-false (m.domain == domain) (max (newest_export domain past) m.export) (newest_export domain past) other) (due_by settings past due m domain false no) s

-- the domain of a message that is crowded out
shut : (settings : Settings) (past : List Message) (due : ℕ → Option ℕ) (m : Message) → judge settings past m ≡ IsCrowded → 1024 ≤ length (kept_domains past) → IsUnknown settings past due m.domain → StandsLater settings past due m m.domain None
shut settings past due m j full u =
    let no : (is_taken (judge settings past m) && (m.domain == m.domain)) ≡ false = ap (λ x. is_taken x && (m.domain == m.domain)) j in
    record {
      touches = touches_by settings past m m.domain false no ∙ (append-nil (touches_before settings past m.domain) ∙ u.touches);
      due_is = due_by settings past due m m.domain false no ∙ u.due_is;
      newest_is = λ less. absurd (let more = kept_grows past m in omega arith);
    }

-- ---- the three ways

is_kept_now : (domain k : ℕ) (y : Domain) (rows : ℕ → Option Domain) (kept : List ℕ) → is_some (rows k) ≡ is_among k kept → (b : Bool) → (domain == k) ≡ b → is_some (cond b (Some y) (rows k)) ≡ is_among k (kept ++ domain ∷ [])
is_kept_now domain k y rows kept was true e = sym (list_any-append (λ (n : ℕ). n == k) kept (domain ∷ []) ∙ or_right (is_among k kept) ((domain == k) || false) (or_left (domain == k) false e))
is_kept_now domain k y rows kept was false e = was ∙ sym (list_any-append (λ (n : ℕ). n == k) kept (domain ∷ []) ∙ (ap (λ b. is_among k kept || (b || false)) e ∙ or_none (is_among k kept)))
  where
    or_none : (b : Bool) → b || false ≡ b
    or_none true = refl
    or_none false = refl

stays_shut : (settings : Settings) (past : List Message) (due : ℕ → Option ℕ) (m : Message) (k : ℕ) (rows : ℕ → Option Domain) → rows m.domain ≡ None → StandsLater settings past due m m.domain None → StandsAt settings past due k (rows k)
    → (b : Bool) → (m.domain == k) ≡ b → StandsLater settings past due m k (rows k)
stays_shut settings past due m k rows none h was true e = subst (λ n. StandsLater settings past due m n (rows n)) (eqb-true m.domain k e) (subst (StandsLater settings past due m m.domain) (sym none) h)
stays_shut settings past due m k rows none h was false e = away settings past due m k (rows k) e was

is_kept_still : (domain k : ℕ) (y : Domain) (rows : ℕ → Option Domain) (kept : List ℕ) → is_among domain kept ≡ true → is_some (rows k) ≡ is_among k kept → (b : Bool) → (domain == k) ≡ b → is_some (cond b (Some y) (rows k)) ≡ is_among k kept
is_kept_still domain k y rows kept among was true e = sym (ap (λ n. is_among n kept) (sym (eqb-true domain k e)) ∙ among)
is_kept_still domain k y rows kept among was false e = was

stands_still : (settings : Settings) (past : List Message) (due : ℕ → Option ℕ) (m : Message) (k : ℕ) (y : Domain) (o : Option Domain) → StandsLater settings past due m m.domain (Some y) → StandsAt settings past due k o
    → (b : Bool) → (m.domain == k) ≡ b → StandsLater settings past due m k (cond b (Some y) o)
stands_still settings past due m k y o h was true e = subst (λ n. StandsLater settings past due m n (Some y)) (eqb-true m.domain k e) h
stands_still settings past due m k y o h was false e = away settings past due m k o e was

-- a domain that is known takes its message
pub known_later : (octets : List ℕ) (old new : Domains) (key : ℕ) (x y : Domain) (fate : Fate) → key ≡ be32_at 12 octets → new.transport ≡ old.transport → new.life ≡ old.life → index_map_len new.rows ≡ index_map_len old.rows
    → get nat_eq old.rows key ≡ Some x → ((k : ℕ) → get nat_eq new.rows k ≡ cond (nat_eq key k) (Some y) (get nat_eq old.rows k)) → DomainTakes octets x y fate → Takes octets old new fate
known_later octets old new key x y fate e transport life len found updates t = λ m says settings past due s.
    let at : key ≡ m.domain = e ∙ sym says.domain in
    let found_so : get nat_eq old.rows m.domain ≡ Some x = ap (get nat_eq old.rows) (sym at) ∙ found in
    let updates_so : (k : ℕ) → get nat_eq new.rows k ≡ cond (m.domain == k) (Some y) (get nat_eq old.rows k) = λ k. updates k ∙ ap (λ n. cond (nat_eq n k) (Some y) (get nat_eq old.rows k)) at in
    let among : is_among m.domain (kept_domains past) ≡ true = sym (s.kept m.domain) ∙ ap is_some found_so in
    let inside : is_crowded past m ≡ false = crowded_if past m ∙ ap (λ b. not b && nat_le 1024 (length (kept_domains past))) among in
    let kept : kept_domains (past ++ m ∷ []) ≡ kept_domains past = kept_domains-more past m ∙ ap (λ b. cond (b || nat_le 1024 (length (kept_domains past))) (kept_domains past) (kept_domains past ++ m.domain ∷ [])) among in
    let h = here octets settings past due m x y fate inside says (subst (StandsAt settings past due m.domain) found_so (s.each m.domain)) t in (
      h.0,
      record {
        transport = transport ∙ s.transport;
        life = life ∙ s.life;
        count = len ∙ (s.count ∙ ap length (sym kept));
        kept = λ k. ap is_some (updates_so k) ∙ (is_kept_still m.domain k y (get nat_eq old.rows) (kept_domains past) among (s.kept k) (m.domain == k) refl ∙ ap (is_among k) (sym kept));
        each = λ k. subst (StandsLater settings past due m k) (sym (updates_so k)) (stands_still settings past due m k y (get nat_eq old.rows k) h.1 (s.each k) (m.domain == k) refl);
      },
    )

-- a domain for which there is no room leaves all as it was
pub full_later : (octets : List ℕ) (old : Domains) (key : ℕ) → key ≡ be32_at 12 octets → get nat_eq old.rows key ≡ None → 1024 ≤ index_map_len old.rows → Takes octets old old Crowded
full_later octets old key e none full = λ m says settings past due s.
    let found : get nat_eq old.rows m.domain ≡ None = ap (get nat_eq old.rows) (sym (e ∙ sym says.domain)) ∙ none in
    let long : 1024 ≤ length (kept_domains past) = subst (λ n. 1024 ≤ n) s.count full in
    let among : is_among m.domain (kept_domains past) ≡ false = sym (s.kept m.domain) ∙ ap is_some found in
    let crowded : is_crowded past m ≡ true = crowded_if past m ∙ (ap (λ b. not b && nat_le 1024 (length (kept_domains past))) among ∙ le-leb 1024 (length (kept_domains past)) long) in
    let j : judge settings past m ≡ IsCrowded = ap (λ x. cond x IsCrowded (cond (is_late settings.transport settings.life (newest_export m.domain (past ++ m ∷ [])) m.export) IsLate IsTaken)) crowded in
    let kept : kept_domains (past ++ m ∷ []) ≡ kept_domains past =
    kept_domains-more past m ∙ ap (λ b. cond b (kept_domains past) (kept_domains past ++ m.domain ∷ [])) (ap (λ b. b || nat_le 1024 (length (kept_domains past))) among ∙ le-leb 1024 (length (kept_domains past)) long) in
    let unknown : IsUnknown settings past due m.domain = subst (StandsAt settings past due m.domain) found (s.each m.domain) in
    let h : StandsLater settings past due m m.domain None = shut settings past due m j long unknown in (
      j,
      record {
        transport = s.transport;
        life = s.life;
        count = s.count ∙ ap length (sym kept);
        kept = λ k. s.kept k ∙ ap (is_among k) (sym kept);
        each = λ k. stays_shut settings past due m k (get nat_eq old.rows) found h (s.each k) (m.domain == k) refl;
      },
    )

-- a new domain takes its message
pub new_later : (octets : List ℕ) (old new : Domains) (key : ℕ) (x y : Domain) (fate : Fate) → key ≡ be32_at 12 octets → new.transport ≡ old.transport → new.life ≡ old.life → index_map_len new.rows ≡ index_map_len old.rows + 1
    → index_map_len old.rows < 1024 → get nat_eq old.rows key ≡ None → ((k : ℕ) → get nat_eq new.rows k ≡ cond (nat_eq key k) (Some y) (get nat_eq old.rows k))
    → ((settings : Settings) → old.transport ≡ settings.transport → old.life ≡ settings.life → DomainStands settings [] 0 None x) → DomainTakes octets x y fate → Takes octets old new fate
new_later octets old new key x y fate e transport life len room none updates fresh t = λ m says settings past due s.
    let at : key ≡ m.domain = e ∙ sym says.domain in
    let found : get nat_eq old.rows m.domain ≡ None = ap (get nat_eq old.rows) (sym at) ∙ none in
    let updates_so : (k : ℕ) → get nat_eq new.rows k ≡ cond (m.domain == k) (Some y) (get nat_eq old.rows k) = λ k. updates k ∙ ap (λ n. cond (nat_eq n k) (Some y) (get nat_eq old.rows k)) at in
    let short : length (kept_domains past) < 1024 = subst (λ n. n < 1024) s.count room in
    let among : is_among m.domain (kept_domains past) ≡ false = sym (s.kept m.domain) ∙ ap is_some found in
    let inside : is_crowded past m ≡ false = crowded_if past m ∙ (ap (λ b. not b && nat_le 1024 (length (kept_domains past))) among ∙ lt-leb 1024 (length (kept_domains past)) short) in
    let kept : kept_domains (past ++ m ∷ []) ≡ kept_domains past ++ m.domain ∷ [] =
    kept_domains-more past m ∙ ap (λ b. cond b (kept_domains past) (kept_domains past ++ m.domain ∷ [])) (ap (λ b. b || nat_le 1024 (length (kept_domains past))) among ∙ lt-leb 1024 (length (kept_domains past)) short) in
    let u : IsUnknown settings past due m.domain = subst (StandsAt settings past due m.domain) found (s.each m.domain) in
    let f = fresh settings s.transport s.life in
    let first : DomainStands settings (touches_before settings past m.domain) (newest_export m.domain past) (due m.domain) x =
    record { templates = subst (λ l. Stands settings l x.manager) (sym u.touches) f.templates; newest_is = f.newest_is ∙ sym (u.newest_is short); due_is = f.due_is ∙ sym u.due_is } in
    let h = here octets settings past due m x y fate inside says first t in (
      h.0,
      record {
        transport = transport ∙ s.transport;
        life = life ∙ s.life;
        count = len ∙ (ap (λ n. n + 1) s.count ∙ (sym (length-append (kept_domains past) (m.domain ∷ [])) ∙ ap length (sym kept)));
        kept = λ k. ap is_some (updates_so k) ∙ (is_kept_now m.domain k y (get nat_eq old.rows) (kept_domains past) (s.kept k) (m.domain == k) refl ∙ ap (is_among k) (sym kept));
        each = λ k. subst (StandsLater settings past due m k) (sym (updates_so k)) (stands_still settings past due m k y (get nat_eq old.rows k) h.1 (s.each k) (m.domain == k) refl);
      },
    )

-- no message came
pub none_stands : (settings : Settings) (d : Domains) → d.transport ≡ settings.transport → d.life ≡ settings.life → index_map_len d.rows ≡ 0 → ((k : ℕ) → get nat_eq d.rows k ≡ None) → StandFor settings [] (λ domain. None) d
none_stands settings d transport life len rows = record {
  transport = transport;
  life = life;
  count = len;
  kept = λ k. ap is_some (rows k);
  each = λ k. subst (StandsAt settings [] (λ domain. None) k) (sym (rows k)) (record { touches = refl; due_is = refl; newest_is = λ less. refl });
}
