-- What went before in two ways, so that all goes on alike: behind a dropped message as without it, and over UDP behind
-- withdrawals as without them.
use Rattle.std.proofs.Common.{◌≡◌, ℕ, ◌+◌, ◌<◌, ◌≤◌, inl, inr, Bool, true, false, not, ◌&&◌, ◌||◌, cond, List, [], ◌∷◌, ◌++◌, length, refl, ap, sym, subst, ◌∙◌, map, take, take_all, arith, length-take-le}
use Rattle.std.specs.Prelude.{◌==◌, nat_le, nat_lt, max, filter, flat_map, fold}
use Rattle.std.specs.List.{list_any}
use Rattle.std.proofs.lemmas.Bool.{cases_lt, eqb-true, eq-eqb, le-leb, ltb-true}
use Rattle.std.proofs.Math.Bool.{and-false}
use Rattle.std.proofs.lemmas.List.Folds.{list_any-append}
use Rattle.col_base.specs.declared.base.Lifetimes.{Lifetimes}
use Rattle.col_base.specs.declared.base.Transport.{Transport}
use Rattle.col_base.specs.declared.base.Transport.TheVariants.{Tcp, Udp, File}
use Rattle.wire_spec.specs.Content.{Touch, Part, Message}
use Rattle.wire_spec.specs.Content.Part.{Touches, Body}
use Rattle.template_spec.specs.Late.{is_late, is_kept}
use Rattle.arrival_spec.specs.Settings.{Settings}
use Rattle.run_spec.specs.Judge.{Judgement, different, is_crowded, newest_export, judge, is_taken}
use Rattle.run_spec.specs.Judge.Judgement.{Crowded, Late, Taken}
use Rattle.run_spec.specs.Domains.{is_among, kept_domains, with_domain}
use Rattle.run_spec.specs.Touches.{dated, touches_in, touches_of, touches_before}
use Rattle.run_spec.specs.Outcome.{outcome, outcomes_after}
use Rattle.run_spec.specs.Apart.{definitions_alone, without_withdrawals}
use Rattle.run_spec.proofs.DomainLemmas.{grown, among_last, kept_domains-more, crowded_if}
use Rattle.run_spec.proofs.LateLemmas.{late_if}
use Rattle.run_spec.proofs.MoreLemmas.{newer_export, one_more_touches, dropped_touches}

-- a domain that isn't kept, and no room for it
abbrev is_out : ℕ → List ℕ → Bool
is_out domain kept = not (is_among domain kept) && nat_le 1024 (length kept)

abbrev judged : Settings → Bool → ℕ → ℕ → Judgement
judged settings crowded newest export = cond crowded Crowded (cond (is_late settings.transport settings.life newest export) Late Taken)

-- the same domains are kept, and each that is or may be has the same newest export time and template records
pub record Alike (settings : Settings) (a b : List Message) : Type 0 where
  pub kept : kept_domains a ≡ kept_domains b
  pub newest : (domain : ℕ) → is_out domain (kept_domains a) ≡ false → newest_export domain a ≡ newest_export domain b
  pub touches : (domain : ℕ) → touches_before settings a domain ≡ touches_before settings b domain

pub alike_same : (settings : Settings) (a b : List Message) → a ≡ b → Alike settings a b
alike_same settings a b e = record {
  kept = ap kept_domains e;
  newest = λ domain room. ap (newest_export domain) e;
  touches = λ domain. ap (λ l. touches_before settings l domain) e;
}

-- a number stands among the different ones of a list where it stands in the list
among_grown : (d : ℕ) (seen : List ℕ) (n : ℕ) → is_among d seen ≡ true → is_among d (grown seen n) ≡ true
among_grown d seen n e = by_test (list_any (λ (m : ℕ). m == n) seen)
  where
    by_test : (b : Bool) → is_among d (cond b seen (seen ++ n ∷ [])) ≡ true
    by_test true = e
    by_test false = list_any-append (λ (m : ℕ). m == d) seen (n ∷ []) ∙ ap (λ b. b || is_among d (n ∷ [])) e

among_own : (seen : List ℕ) (n : ℕ) → is_among n (grown seen n) ≡ true
among_own seen n = by_test (list_any (λ (m : ℕ). m == n) seen) refl
  where
    by_test : (b : Bool) → is_among n seen ≡ b → is_among n (cond b seen (seen ++ n ∷ [])) ≡ true
    by_test true e = e
    by_test false e = among_last n seen

all_among : (d : ℕ) (seen numbers : List ℕ) → is_among d seen ≡ true → is_among d (fold grown seen numbers) ≡ true
all_among d seen [] e = e
all_among d seen (n ∷ numbers) e = all_among d (grown seen n) numbers (among_grown d seen n e)

among_fold : (d : ℕ) (seen numbers : List ℕ) → is_among d numbers ≡ true → is_among d (fold grown seen numbers) ≡ true
among_fold d seen [] e = absurd cc
among_fold d seen (n ∷ numbers) e = by_test (n == d) refl e (among_fold d (grown seen n) numbers)
  where
    by_test : (b : Bool) → (n == d) ≡ b → b || is_among d numbers ≡ true → (is_among d numbers ≡ true → is_among d (fold grown (grown seen n) numbers) ≡ true) → is_among d (fold grown (grown seen n) numbers) ≡ true
    by_test true same f further = subst (λ (x : ℕ). is_among x (fold grown (grown seen n) numbers) ≡ true) (eqb-true n d same) (all_among n (grown seen n) numbers (among_own seen n))
    by_test false other f further = further f

pub among_different : (d : ℕ) (numbers : List ℕ) → is_among d numbers ≡ true → is_among d (different numbers) ≡ true
among_different d numbers e = among_fold d [] numbers e

-- the domain of a message that passes a test stands among those of all
among_domains : (d : ℕ) (test : Message → Bool) (messages : List Message) → list_any (λ (n : Message). n.domain == d && test n) messages ≡ true → is_among d (map (λ (n : Message). n.domain) messages) ≡ true
among_domains d test [] e = absurd cc
among_domains d test (n ∷ messages) e = by_test (n.domain == d) e (among_domains d test messages)
  where
    by_test : (b : Bool) → (b && test n) || list_any (λ (o : Message). o.domain == d && test o) messages ≡ true
        → (list_any (λ (o : Message). o.domain == d && test o) messages ≡ true → is_among d (map (λ (o : Message). o.domain) messages) ≡ true) → b || is_among d (map (λ (o : Message). o.domain) messages) ≡ true
    by_test true f further = refl
    by_test false f further = further f

-- a domain that is known and not out is kept already
stays_kept : (domain : ℕ) (others : List ℕ) → is_among domain others ≡ true → is_out domain (take 1024 others) ≡ false → with_domain (take 1024 others) domain ≡ take 1024 others
stays_kept domain others known room = by_test (is_among domain (take 1024 others)) refl room
  where
    by_test : (b : Bool) → is_among domain (take 1024 others) ≡ b → not b && nat_le 1024 (length (take 1024 others)) ≡ false
        → cond (b || nat_le 1024 (length (take 1024 others))) (take 1024 others) (take 1024 others ++ domain ∷ []) ≡ take 1024 others
    by_test true e f = refl
    by_test false e f =
        elim (cases_lt (length others) 1024) [
          | inl small ↦
              (let no : true ≡ false = sym known ∙ (ap (is_among domain) (sym (take_all 1024 others (omega arith))) ∙ e) in
              absurd cc)
          | inr long ↦
              (let full : nat_le 1024 (length (take 1024 others)) ≡ true = le-leb 1024 (length (take 1024 others)) (let l = length-take-le 1024 others long in omega arith) in
              absurd (let no : true ≡ false = sym full ∙ f in cc))
        ]

full_stays : (among full : Bool) (kept : List ℕ) (domain : ℕ) → not among && full ≡ true → cond (among || full) kept (kept ++ domain ∷ []) ≡ kept
full_stays true full kept domain e = refl
full_stays false true kept domain e = refl
full_stays false false kept domain e = absurd cc

dropped_late : (late : Bool) → is_taken (cond late Late Taken) ≡ false → late ≡ true
dropped_late true e = refl
dropped_late false e = absurd cc

late_is_newer : (transport : Transport) (life : Lifetimes) (newest export : ℕ) → is_late transport life newest export ≡ true → is_late Udp life newest export ≡ true
late_is_newer Tcp life newest export e = absurd cc
late_is_newer File life newest export e = absurd cc
late_is_newer Udp life newest export e = e

module _ (settings : Settings) (before : List Message) (m : Message) where
  abbrev kept : List ℕ
  kept = kept_domains before

  -- what is out and what isn't are two domains
  other_domain : (domain : ℕ) → is_out m.domain kept ≡ true → is_out domain kept ≡ false → (b : Bool) → (m.domain == domain) ≡ b
      → cond b (max (newest_export domain before) m.export) (newest_export domain before) ≡ newest_export domain before
  other_domain domain out room true e =
      let no : true ≡ false = sym out ∙ (ap (λ d. is_out d kept) (eqb-true m.domain domain e) ∙ room) in
      absurd cc
  other_domain domain out room false e = refl

  no_newer : (domain : ℕ) → m.export ≤ newest_export m.domain before → (b : Bool) → (m.domain == domain) ≡ b
      → cond b (max (newest_export domain before) m.export) (newest_export domain before) ≡ newest_export domain before
  no_newer domain le true e =
      let most : m.export ≤ newest_export domain before = subst (λ (d : ℕ). m.export ≤ newest_export d before) (eqb-true m.domain domain e) le in
      omega arith
  no_newer domain le false e = refl

  -- behind a message that is crowded out, or late, all goes on as without it
  behind_crowded : is_taken (judge settings before m) ≡ false → is_out m.domain kept ≡ true → Alike settings (before ++ m ∷ []) before
  behind_crowded dropped out =
      let same : kept_domains (before ++ m ∷ []) ≡ kept = kept_domains-more before m ∙ full_stays (is_among m.domain kept) (nat_le 1024 (length kept)) kept m.domain out in
      record {
        kept = same;
        newest = λ domain room. newer_export domain before m ∙ other_domain domain out (sym (ap (is_out domain) same) ∙ room) (m.domain == domain) refl;
        touches = λ domain. dropped_touches settings before m domain dropped;
      }

  behind_late : is_taken (judge settings before m) ≡ false → is_out m.domain kept ≡ false → Alike settings (before ++ m ∷ []) before
  behind_late dropped room =
      let newest = newest_export m.domain (before ++ m ∷ []) in
      let now : is_taken (judged settings false newest m.export) ≡ false = ap (λ c. is_taken (judged settings c newest m.export)) (sym (crowded_if before m ∙ room)) ∙ dropped in
      let late : is_late settings.transport settings.life newest m.export ≡ true = dropped_late (is_late settings.transport settings.life newest m.export) now in
      let older : is_late Udp settings.life newest m.export ≡ true = late_is_newer settings.transport settings.life newest m.export late in
      let found : list_any (λ (n : Message). n.domain == m.domain && nat_lt (m.export + settings.life.late) n.export) before ≡ true = sym (late_if settings.life before m) ∙ older in
      let known : is_among m.domain (map (λ (n : Message). n.domain) before) ≡ true = among_domains m.domain (λ (n : Message). nat_lt (m.export + settings.life.late) n.export) before found in
      let same : kept_domains (before ++ m ∷ []) ≡ kept = kept_domains-more before m
      ∙ stays_kept m.domain (different (map (λ (n : Message). n.domain) before)) (among_different m.domain (map (λ (n : Message). n.domain) before) known) room in
      let greatest : newest ≡ max (newest_export m.domain before) m.export = newer_export m.domain before m ∙ ap (λ b. cond b (max (newest_export m.domain before) m.export) (newest_export m.domain before)) (eq-eqb m.domain m.domain refl) in
      let less : m.export + settings.life.late < newest = ltb-true (m.export + settings.life.late) newest older in
      let le : m.export ≤ newest_export m.domain before = omega arith in
      record {
        kept = same;
        newest = λ domain out. newer_export domain before m ∙ no_newer domain le (m.domain == domain) refl;
        touches = λ domain. dropped_touches settings before m domain dropped;
      }

  pub alike_dropped : is_taken (judge settings before m) ≡ false → Alike settings (before ++ m ∷ []) before
  alike_dropped dropped = by_room (is_out m.domain kept) refl
    where
      by_room : (b : Bool) → is_out m.domain kept ≡ b → Alike settings (before ++ m ∷ []) before
      by_room true e = behind_crowded dropped e
      by_room false e = behind_late dropped e

  -- a message is judged by its domain and export time
  same_judgement : (n : Message) → m.domain ≡ n.domain → m.export ≡ n.export → judge settings before m ≡ judge settings before n
  same_judgement n d e =
      let crowded : is_crowded before m ≡ is_crowded before n = crowded_if before m ∙ (ap (λ x. is_out x kept) d ∙ sym (crowded_if before n)) in
      let newest : newest_export m.domain (before ++ m ∷ []) ≡ newest_export n.domain (before ++ n ∷ []) =
      newer_export m.domain before m
      ∙ (ap (λ x. cond (m.domain == m.domain) (max (newest_export m.domain before) x) (newest_export m.domain before)) e
      ∙ (ap (λ x. cond (x == x) (max (newest_export x before) n.export) (newest_export x before)) d ∙ sym (newer_export n.domain before n))) in
      ap (λ c. judged settings c (newest_export m.domain (before ++ m ∷ [])) m.export) crowded
      ∙ (ap (λ x. judged settings (is_crowded before n) x m.export) newest ∙ ap (judged settings (is_crowded before n) (newest_export n.domain (before ++ n ∷ []))) e)

  pub alike_replaced : (n : Message) → m.domain ≡ n.domain → m.export ≡ n.export → touches_in settings.transport m ≡ touches_in settings.transport n → Alike settings (before ++ m ∷ []) (before ++ n ∷ [])
  alike_replaced n d e t = record {
    kept = kept_domains-more before m ∙ (ap (with_domain kept) d ∙ sym (kept_domains-more before n));
    newest = λ domain room. newer_export domain before m
        ∙ (ap (λ x. cond (x == domain) (max (newest_export domain before) m.export) (newest_export domain before)) d
        ∙ (ap (λ x. cond (n.domain == domain) (max (newest_export domain before) x) (newest_export domain before)) e ∙ sym (newer_export domain before n)));
    touches = λ domain. one_more_touches settings before m domain
        ∙ (ap (λ j. touches_before settings before domain ++ cond (is_taken j && m.domain == domain) (touches_in settings.transport m) []) (same_judgement n d e)
        ∙ (ap (λ x. touches_before settings before domain ++ cond (is_taken (judge settings before n) && x == domain) (touches_in settings.transport m) []) d
        ∙ (ap (λ l. touches_before settings before domain ++ cond (is_taken (judge settings before n) && n.domain == domain) l []) t ∙ sym (one_more_touches settings before n domain))));
  }

module _ (settings : Settings) (a b : List Message) (alike : Alike settings a b) where
  -- what went before alike judges alike
  pub judged_alike : (m : Message) → judge settings a m ≡ judge settings b m
  judged_alike m = by_room (is_out m.domain (kept_domains a)) refl
    where
      out_alike : is_out m.domain (kept_domains a) ≡ is_out m.domain (kept_domains b)
      out_alike = ap (is_out m.domain) alike.kept

      by_room : (c : Bool) → is_out m.domain (kept_domains a) ≡ c → judge settings a m ≡ judge settings b m
      by_room true e =
          ap (λ c. judged settings c (newest_export m.domain (a ++ m ∷ [])) m.export) (crowded_if a m ∙ e)
          ∙ sym (ap (λ c. judged settings c (newest_export m.domain (b ++ m ∷ [])) m.export) (crowded_if b m ∙ (sym out_alike ∙ e)))
      by_room false e =
          ap (λ c. judged settings c (newest_export m.domain (a ++ m ∷ [])) m.export) (crowded_if a m ∙ (out_alike ∙ sym (crowded_if b m)))
          ∙ ap (λ x. judged settings (is_crowded b m) x m.export) (newer_export m.domain a m
          ∙ (ap (λ x. cond (m.domain == m.domain) (max x m.export) x) (alike.newest m.domain e) ∙ sym (newer_export m.domain b m)))

  -- and goes on alike
  pub alike_more : (m : Message) → Alike settings (a ++ m ∷ []) (b ++ m ∷ [])
  alike_more m = record {
    kept = kept_domains-more a m ∙ (ap (λ k. with_domain k m.domain) alike.kept ∙ sym (kept_domains-more b m));
    newest = λ domain room. newer_export domain a m
        ∙ (ap (λ x. cond (m.domain == domain) (max x m.export) x) (alike.newest domain (room_before domain (sym (ap (is_out domain) (kept_domains-more a m)) ∙ room))) ∙ sym (newer_export domain b m));
    touches = λ domain. one_more_touches settings a m domain
        ∙ (ap (λ l. l ++ touches_of settings domain a m) (alike.touches domain)
        ∙ (ap (λ j. touches_before settings b domain ++ cond (is_taken j && m.domain == domain) (touches_in settings.transport m) []) (judged_alike m) ∙ sym (one_more_touches settings b m domain)));
  }
    where
      by_full : (domain : ℕ) (among full : Bool) → nat_le 1024 (length (kept_domains a)) ≡ full → is_out domain (cond (among || full) (kept_domains a) (kept_domains a ++ m.domain ∷ [])) ≡ false → is_out domain (kept_domains a) ≡ false
      by_full domain true full e f = f
      by_full domain false true e f = f
      by_full domain false false e f = ap (λ x. not (is_among domain (kept_domains a)) && x) e ∙ and-false (not (is_among domain (kept_domains a)))

      room_before : (domain : ℕ) → is_out domain (with_domain (kept_domains a) m.domain) ≡ false → is_out domain (kept_domains a) ≡ false
      room_before domain f = by_full domain (is_among m.domain (kept_domains a)) (nat_le 1024 (length (kept_domains a))) refl f

-- over UDP the template records of a message are its definitions
filter_again : {X : Type 0} (p : X → Bool) (xs : List X) → filter p (filter p xs) ≡ filter p xs
filter_again p [] = refl
filter_again p (x ∷ xs) = by_test (p x) refl (filter_again p xs)
  where
    by_test : (b : Bool) → p x ≡ b → filter p (filter p xs) ≡ filter p xs → filter p (cond b (x ∷ filter p xs) (filter p xs)) ≡ cond b (x ∷ filter p xs) (filter p xs)
    by_test true e further = ap (λ b. cond b (x ∷ filter p (filter p xs)) (filter p (filter p xs))) e ∙ ap (λ l. x ∷ l) further
    by_test false e further = further

dated_alone : (time : ℕ) (p : Part) → dated Udp time (definitions_alone p) ≡ dated Udp time p
dated_alone time (Touches touches) = ap (map (λ (t : Touch). (time, t))) (filter_again (is_kept Udp) touches)
dated_alone time (Body id octets) = refl

all_dated_alone : (time : ℕ) (parts : List Part) → flat_map (dated Udp time) (map definitions_alone parts) ≡ flat_map (dated Udp time) parts
all_dated_alone time [] = refl
all_dated_alone time (p ∷ parts) = ap (λ l. l ++ flat_map (dated Udp time) (map definitions_alone parts)) (dated_alone time p) ∙ ap (λ l. dated Udp time p ++ l) (all_dated_alone time parts)

module _ (settings : Settings) (udp : settings.transport ≡ Udp) where
  pub touches_alone : (m : Message) → touches_in settings.transport m ≡ touches_in settings.transport (without_withdrawals m)
  touches_alone m = ap (λ t. touches_in t m) udp ∙ (sym (all_dated_alone m.export m.parts) ∙ sym (ap (λ t. touches_in t (without_withdrawals m)) udp))

  outcome_alone : (time : ℕ) (touches : List (ℕ × Touch)) (p : Part) → outcome settings time touches (definitions_alone p) ≡ outcome settings time touches p
  outcome_alone time touches (Touches new) = refl
  outcome_alone time touches (Body id octets) = refl

  pub outcomes_alone : (time : ℕ) (touches : List (ℕ × Touch)) (parts : List Part) → outcomes_after settings time touches (map definitions_alone parts) ≡ outcomes_after settings time touches parts
  outcomes_alone time touches [] = refl
  outcomes_alone time touches (p ∷ parts) =
      let same : dated settings.transport time (definitions_alone p) ≡ dated settings.transport time p =
      ap (λ t. dated t time (definitions_alone p)) udp ∙ (dated_alone time p ∙ sym (ap (λ t. dated t time p) udp)) in
      ap (λ o. o ∷ outcomes_after settings time (touches ++ dated settings.transport time (definitions_alone p)) (map definitions_alone parts)) (outcome_alone time touches p)
      ∙ ap (λ l. outcome settings time touches p ∷ l) (ap (λ d. outcomes_after settings time (touches ++ d) (map definitions_alone parts)) same ∙ outcomes_alone time (touches ++ dated settings.transport time p) parts)

  pub alike_alone : (before : List Message) (m : Message) → Alike settings (before ++ m ∷ []) (before ++ without_withdrawals m ∷ [])
  alike_alone before m = alike_replaced settings before m (without_withdrawals m) refl refl (touches_alone m)

  pub judged_alone : (before : List Message) (m : Message) → judge settings before m ≡ judge settings before (without_withdrawals m)
  judged_alone before m = same_judgement settings before m (without_withdrawals m) refl refl
