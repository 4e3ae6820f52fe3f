-- A parser stands for one arrival more.
use Rattle.std.proofs.Common.{◌≡◌, ℕ, ◌≤◌, length, arith, Bool, true, false, ◌&&◌, cond, List, [], ◌∷◌, ◌++◌, map, Some, None, refl, ap, sym, subst, ◌∙◌, append-nil}
use Rattle.std.specs.Prelude.{◌==◌, nat_eq, Option, Result, Ok, Err, IsSome, fold}
use Rattle.std.proofs.lemmas.Bool.{true≢false}
use Rattle.std.proofs.lemmas.List.Concat.{flat_map-append}
use Rattle.indexmap.specs.IndexMap.{get}
use Rattle.col_base.specs.declared.base.SessionKey.{SessionKey}
use Rattle.col_base.specs.declared.base.Transport.{Transport}
use Rattle.wire_spec.specs.declared.malformed.Malformed.{Malformed}
use Rattle.wire_spec.specs.Content.{Message, Says}
use Rattle.wire_spec.specs.Message.{FirstFault}
use Rattle.arrival_spec.specs.Arrival.Arrival.{SessionOpen, Raw, SessionClose, Periodic}
use Rattle.arrival_spec.specs.Order.{same_key, has_key, open_keys, opened_keys}
use Rattle.arrival_spec.specs.Settings.{Settings}
use Rattle.run_spec.specs.Read.{ReadArrival}
use Rattle.run_spec.specs.Judge.{Judgement, judge, is_taken, message_of, messages_of}
use Rattle.run_spec.specs.Judge.Judgement.{Malformed as IsMalformed, Crowded as IsCrowded, Late as IsLate, Taken as IsTaken}
use Rattle.run_spec.specs.Outcome.{Outcome, outcomes, decoded_sets}
use Rattle.run_spec.specs.Work.{Item, outcomes_if, work_of, works_of}
use Rattle.run_spec.specs.Work.Item.{Note, Tick, Data}
use Rattle.run_spec.proofs.ApartLemmas.{same_is, own_is}
use Rattle.run_spec.proofs.MoreLemmas.{one_more_work}
use Rattle.file_spec.specs.Fit.{message_octets}
use Rattle.count_spec.specs.Counts.{Counts, counts, expected, expected_by, next_number, taken_as}
use Rattle.count_spec.specs.Examples.{nothing_counted}
use Rattle.count_spec.specs.More.{added, counts_of}
use Rattle.count_spec.proofs.MoreLemmas.{one_more_expected}
use Rattle.count_spec.proofs.OpenLemmas.{not_true}
use Rattle.pipeline_message.specs.declared.message.DataSet.{DataSet}
use Rattle.pipeline_message.specs.declared.message.Msg.{Msg}
use Rattle.pipeline_message.specs.declared.message.Msg.TheVariants.{SessionMsg, DataMsg, Terminate}
use Rattle.pipeline_message.specs.declared.message.Msg.TheVariants.{Periodic as PeriodicMsg}
use Rattle.pipeline_message.specs.Items.{item_of, set_of, IsSoundMessage}
use Rattle.pipeline_message.specs.Shown.{shown_counts}
use Rattle.session_table.specs.declared.arrival.Arrival as given
use Rattle.session_table.specs.declared.arrival.Arrival.TheVariants as gives
use Rattle.message_decode.specs.Steps.{AreSound}
use Rattle.session_domains.specs.declared.domain.Domain.{Domain}
use Rattle.session_domains.specs.declared.domains.Domains.{Domains}
use Rattle.session_domains.specs.declared.fate.Fate.{Fate}
use Rattle.session_domains.specs.declared.fate.Fate.TheVariants.{Crowded, Late, Taken}
use Rattle.session_domains.specs.Session.{due_later, StandsAt, StandFor, FateOf, Takes}
use Rattle.parser_lane.specs.declared.open_sessions.OpenSessions.{OpenSessions}
use Rattle.parser_lane.specs.declared.parser.Parser.{Parser}
use Rattle.parser_lane.specs.Parsers.{MayCome, HasSession, inputs, numbers_due, SessionAt, IsFresh, Stands, CanCome, HasOctets, IsMadeOf, GivesItem, WorksBy, counts_by, malformed_by, sets_in}
use Rattle.parser_lane.proofs.KeyLemmas.{open_more, same_turned, other_key, opened_later, unopened_before, open_here, open_away, close_here, close_away}
use Rattle.parser_lane.proofs.RoomLemmas.{judged_room}
use Rattle.parser_lane.proofs.CountLemmas.{counts_more, add_nothing, add_malformed, add_late, add_crowded, add_taken, taken_adds, judged_work}

-- ---- what an arrival adds to a session

pub messages_more : (key : SessionKey) (read : List ReadArrival) (r : ReadArrival) → messages_of key (read ++ r ∷ []) ≡ messages_of key read ++ message_of key r
messages_more key read r = flat_map-append (message_of key) read (r ∷ []) ∙ ap (λ l. messages_of key read ++ l) (append-nil (message_of key r))

due_more : (settings : Settings) (read : List ReadArrival) (r : ReadArrival) (key : SessionKey) (domain : ℕ)
    → numbers_due settings (read ++ r ∷ []) key domain ≡ expected_by key domain (numbers_due settings read key domain) (work_of (inputs settings) read r)
due_more settings read r key domain = ap (expected key domain) (one_more_work (inputs settings) read r) ∙ one_more_expected key domain (works_of (inputs settings) read) (work_of (inputs settings) read r)

-- a session that an arrival brings nothing
pub record Quiet (settings : Settings) (read : List ReadArrival) (r : ReadArrival) (key : SessionKey) : Type 0 where
  pub messages : messages_of key (read ++ r ∷ []) ≡ messages_of key read
  pub due : (domain : ℕ) → numbers_due settings (read ++ r ∷ []) key domain ≡ numbers_due settings read key domain

quiet : {settings : Settings} {read : List ReadArrival} {r : ReadArrival} {key : SessionKey} → message_of key r ≡ [] → ((domain : ℕ) (x : Option ℕ) → expected_by key domain x (work_of (inputs settings) read r) ≡ x) → Quiet settings read r key
quiet {settings} {read} {r} {key} none same = record {
  messages = messages_more key read r ∙ (ap (λ l. messages_of key read ++ l) none ∙ append-nil (messages_of key read));
  due = λ domain. due_more settings read r key domain ∙ same domain (numbers_due settings read key domain);
}

not_of : (key k : SessionKey) (domain : ℕ) (x : Option ℕ) (m : Message) (os : List Outcome) (j : Judgement) → same_key k key ≡ false
    → fold (λ (y : Option ℕ) (t : SessionKey × Message). cond (same_key t.0 key && (t.1.domain == domain)) (next_number t.1.sequence os) y) x (taken_as (Raw k (Ok m)) (Some j)) ≡ x
not_of key k domain x m os (IsMalformed f) other = refl
not_of key k domain x m os IsCrowded other = refl
not_of key k domain x m os IsLate other = refl
not_of key k domain x m os IsTaken other = ap (λ b. cond (b && (m.domain == domain)) (next_number m.sequence os) x) other

quiet_away : (settings : Settings) (read : List ReadArrival) (k key : SessionKey) (m : Message) → same_key k key ≡ false → Quiet settings read (Raw k (Ok m)) key
quiet_away settings read k key m other =
    quiet (ap (λ b. cond b (m ∷ []) []) other)
    (λ domain x. not_of key k domain x m (outcomes_if settings (messages_of k read) m (judge settings (messages_of k read) m)) (judge settings (messages_of k read) m) other)

-- ---- the domains of a session

stand_due : {settings : Settings} {past : List Message} {due now : ℕ → Option ℕ} {d : Domains} → ((domain : ℕ) → now domain ≡ due domain) → StandFor settings past due d → StandFor settings past now d
stand_due {settings} {past} {due} {now} {d} e s = record { transport = s.transport; life = s.life; count = s.count; kept = s.kept; each = λ k. at k (get nat_eq d.rows k) (s.each k) }
  where
    at : (k : ℕ) (o : Option Domain) → StandsAt settings past due k o → StandsAt settings past now k o
    at k None u = record { touches = u.touches; due_is = e k ∙ u.due_is; newest_is = u.newest_is }
    at k (Some x) u = record { templates = u.templates; newest_is = u.newest_is; due_is = u.due_is ∙ sym (e k) }

still : (settings : Settings) (read : List ReadArrival) (r : ReadArrival) (key : SessionKey) (o : Option Domains) → Quiet settings read r key → has_key key (open_keys (read ++ r ∷ [])) ≡ has_key key (open_keys read) → SessionAt settings read key o
    → SessionAt settings (read ++ r ∷ []) key o
still settings read r key None q e s = e ∙ s
still settings read r key (Some d) q e s = (e ∙ s.0, stand_due q.due (subst (λ l. StandFor settings l (numbers_due settings read key) d) (sym q.messages) s.1))

-- ---- all sessions

fresh_later : {settings : Settings} {read : List ReadArrival} {p : OpenSessions} (r : ReadArrival) → Stands settings read p → ((key : SessionKey) → has_key key (opened_keys read) ≡ false → Quiet settings read r key)
    → (key : SessionKey) → has_key key (opened_keys (read ++ r ∷ [])) ≡ false → IsFresh settings (read ++ r ∷ []) key
fresh_later {settings} {read} {p} r s q key e =
    let before = unopened_before read r key e in
    let f = s.fresh key before in
    let g = q key before in
    record { messages = g.messages ∙ f.messages; due = λ domain. g.due domain ∙ f.due domain }

-- the parser stands for one arrival more where each session does, and the counts rose by those of the arrival
pub stands_later : {settings : Settings} {read : List ReadArrival} {old : OpenSessions} (r : ReadArrival) (new : OpenSessions) → Stands settings read old → new.transport ≡ old.transport → new.life ≡ old.life
    → ((key : SessionKey) → has_key key (opened_keys read) ≡ false → Quiet settings read r key) → ((key : SessionKey) → SessionAt settings (read ++ r ∷ []) key (get same_key new.rows key))
    → new.counts ≡ shown_counts (counts (inputs settings) [] (works_of (inputs settings) (read ++ r ∷ []))) → Stands settings (read ++ r ∷ []) new
stands_later {settings} {read} {old} r new s transport life q each counted = record {
  transport = transport ∙ s.transport;
  life = life ∙ s.life;
  each = each;
  counts_are = counted;
  opened = λ key. opened_later read r key (s.opened key);
  fresh = fresh_later r s q;
}

-- arrivals without a message add no count
none_counted : (settings : Settings) (read : List ReadArrival) (r : ReadArrival) → counts_of (inputs settings) (works_of (inputs settings) read) (work_of (inputs settings) read r) ≡ nothing_counted
    → shown_counts (counts (inputs settings) [] (works_of (inputs settings) read)) ≡ shown_counts (counts (inputs settings) [] (works_of (inputs settings) (read ++ r ∷ [])))
none_counted settings read r e = sym (ap shown_counts (counts_more settings read r nothing_counted e) ∙ add_nothing (counts (inputs settings) [] (works_of (inputs settings) read)))

-- seconds
pub tick_worked : (input seconds : ℕ) (p : OpenSessions) (msg : Msg) → item_of msg ≡ Some (Tick input seconds) → IsSoundMessage msg → WorksBy (Some (Periodic input seconds)) p p msg
tick_worked input seconds p msg item sound = (
  Periodic input seconds,
  refl,
  λ settings read s come. record {
    item = item;
    sound = sound;
    octets = tt;
    stands = stands_later (Periodic input seconds) p s refl refl (λ key e. quiet refl (λ domain x. refl)) (λ key. still settings read (Periodic input seconds) key (get same_key p.rows key) (quiet refl (λ domain x. refl)) (periodic_open read input seconds key) (s.each key))
        (s.counts_are ∙ none_counted settings read (Periodic input seconds) refl);
  },
)
  where
    periodic_open : (read : List ReadArrival) (input seconds : ℕ) (key : SessionKey) → has_key key (open_keys (read ++ Periodic input seconds ∷ [])) ≡ has_key key (open_keys read)
    periodic_open read input seconds key = ap (has_key key) (open_more read (Periodic input seconds))

-- a session opens
pub open_worked : (key : SessionKey) (transport : Transport) (old new : OpenSessions) (fresh : Domains) (msg : Msg) → item_of msg ≡ Some (Note key transport true) → IsSoundMessage msg → new.transport ≡ old.transport → new.life ≡ old.life → new.counts ≡ old.counts
    → ((k : SessionKey) → get same_key new.rows k ≡ cond (same_key key k) (Some fresh) (get same_key old.rows k))
    → ((settings : Settings) → old.transport ≡ settings.transport → old.life ≡ settings.life → StandFor settings [] (λ domain. None) fresh) → WorksBy (Some (SessionOpen key transport)) old new msg
open_worked key transport old new fresh msg item sound same_transport same_life same_counts updates begins = (
  SessionOpen key transport,
  refl,
  λ settings read s come. record {
    item = item;
    sound = sound;
    octets = tt;
    stands = stands_later (SessionOpen key transport) new s same_transport same_life (λ k e. quiet refl (λ domain x. refl))
        (λ k. subst (SessionAt settings (read ++ SessionOpen key transport ∷ []) k) (sym (updates k)) (at settings read s come k (same_key key k) refl))
        (same_counts ∙ (s.counts_are ∙ none_counted settings read (SessionOpen key transport) refl));
  },
)
  where
    here : (settings : Settings) (read : List ReadArrival) → Stands settings read old → CanCome read (Some (SessionOpen key transport)) → SessionAt settings (read ++ SessionOpen key transport ∷ []) key (Some fresh)
    here settings read s come =
        let f = s.fresh key (not_true (has_key key (opened_keys read)) come) in
        let q : Quiet settings read (SessionOpen key transport) key = quiet refl (λ domain x. refl) in (
          open_here read key transport,
          stand_due (λ domain. q.due domain ∙ f.due domain) (subst (λ l. StandFor settings l (λ domain. None) fresh) (sym (q.messages ∙ f.messages)) (begins settings s.transport s.life)),
        )

    at : (settings : Settings) (read : List ReadArrival) → Stands settings read old → CanCome read (Some (SessionOpen key transport)) → (k : SessionKey) (b : Bool) → same_key key k ≡ b
        → SessionAt settings (read ++ SessionOpen key transport ∷ []) k (cond b (Some fresh) (get same_key old.rows k))
    at settings read s come k true e = subst (λ n. SessionAt settings (read ++ SessionOpen key transport ∷ []) n (Some fresh)) (same_is key k e) (here settings read s come)
    at settings read s come k false e = still settings read (SessionOpen key transport) k (get same_key old.rows k) (quiet refl (λ domain x. refl)) (open_away read key k transport (same_turned key k e)) (s.each k)

-- a session closes
pub close_worked : (key : SessionKey) (old new : OpenSessions) (msg : Msg) → item_of msg ≡ Some (Note key old.transport false) → IsSoundMessage msg → new.transport ≡ old.transport → new.life ≡ old.life → new.counts ≡ old.counts
    → ((k : SessionKey) → get same_key new.rows k ≡ cond (same_key key k) None (get same_key old.rows k)) → WorksBy (Some (SessionClose key)) old new msg
close_worked key old new msg item sound same_transport same_life same_counts updates = (
  SessionClose key,
  refl,
  λ settings read s come. record {
    item = item ∙ ap (λ t. Some (Note key t false)) s.transport;
    sound = sound;
    octets = tt;
    stands = stands_later (SessionClose key) new s same_transport same_life (λ k e. quiet refl (λ domain x. refl))
        (λ k. subst (SessionAt settings (read ++ SessionClose key ∷ []) k) (sym (updates k)) (at settings read s k (same_key key k) refl))
        (same_counts ∙ (s.counts_are ∙ none_counted settings read (SessionClose key) refl));
  },
)
  where
    at : (settings : Settings) (read : List ReadArrival) → Stands settings read old → (k : SessionKey) (b : Bool) → same_key key k ≡ b → SessionAt settings (read ++ SessionClose key ∷ []) k (cond b None (get same_key old.rows k))
    at settings read s k true e = subst (λ n. has_key n (open_keys (read ++ SessionClose key ∷ [])) ≡ false) (same_is key k e) (close_here read key)
    at settings read s k false e = still settings read (SessionClose key) k (get same_key old.rows k) (quiet refl (λ domain x. refl)) (close_away read key k (same_turned key k e)) (s.each k)

-- ---- messages

raw_open : (read : List ReadArrival) (k key : SessionKey) (m : Result Message Malformed) → has_key key (open_keys (read ++ Raw k m ∷ [])) ≡ has_key key (open_keys read)
raw_open read k key m = ap (has_key key) (open_more read (Raw k m))

-- a message that is made of sound sets is sound
sound_made : (octets : List ℕ) (sets : List DataSet) (msg : Msg) → IsMadeOf octets sets msg → AreSound octets sets → message_octets (map (set_of octets) sets) ≤ 65535 → IsSoundMessage msg
sound_made octets sets (SessionMsg note) made sound room = absurd made
sound_made octets sets (DataMsg m) made sound room = (
  subst (λ l. AreSound l m.value.sets.items) (sym made.0) (subst (AreSound octets) (sym made.1) sound),
  subst (λ l. message_octets (map (set_of l) m.value.sets.items) ≤ 65535) (sym made.0) (subst (λ l. message_octets (map (set_of octets) l) ≤ 65535) (sym made.1) room),
)
sound_made octets sets (PeriodicMsg input seconds) made sound room = absurd made
sound_made octets sets Terminate made sound room = absurd made

octets_made : (octets : List ℕ) (sets : List DataSet) (msg : Msg) → IsMadeOf octets sets msg → HasOctets octets msg
octets_made octets sets (SessionMsg note) made = absurd made
octets_made octets sets (DataMsg m) made = made.0
octets_made octets sets (PeriodicMsg input seconds) made = absurd made
octets_made octets sets Terminate made = absurd made

-- a malformed one
pub malformed_worked : (key : SessionKey) (octets : List ℕ) (old new : OpenSessions) (fault : Malformed) (msg : Msg) → FirstFault octets fault → item_of msg ≡ Some (Data key 0 0 0 []) → IsMadeOf octets [] msg → new.transport ≡ old.transport
    → new.life ≡ old.life → new.rows ≡ old.rows → new.counts ≡ malformed_by old.counts → WorksBy (Some (Raw key octets)) old new msg
malformed_worked key octets old new fault msg first item made same_transport same_life same_rows counted = (
  Raw key (Err fault),
  (Err fault, first, refl),
  λ settings read s come. record {
    item = item;
    sound = sound_made octets [] msg made tt (omega arith);
    octets = octets_made octets [] msg made;
    stands = stands_later (Raw key (Err fault)) new s same_transport same_life (λ k e. quiet refl (λ domain x. refl))
        (λ k. subst (λ rows. SessionAt settings (read ++ Raw key (Err fault) ∷ []) k (get same_key rows k)) (sym same_rows) (still settings read (Raw key (Err fault)) k (get same_key old.rows k) (quiet refl (λ domain x. refl)) (raw_open read key k (Err fault)) (s.each k)))
        (counted ∙ (ap malformed_by s.counts_are
        ∙ (add_malformed (counts (inputs settings) [] (works_of (inputs settings) read)) ∙ ap shown_counts (sym (counts_more settings read (Raw key (Err fault)) (record nothing_counted { malformed = 1 }) refl)))));
  },
)

-- what the fate of a well-formed message gives
record FateGives (settings : Settings) (read : List ReadArrival) (key : SessionKey) (octets : List ℕ) (m : Message) (fate : Fate) : Type 0 where
  sets : decoded_sets (outcomes_if settings (messages_of key read) m (judge settings (messages_of key read) m)) ≡ map (set_of octets) (sets_in fate)
  sound : AreSound octets (sets_in fate)
  due : (domain : ℕ) → numbers_due settings (read ++ Raw key (Ok m) ∷ []) key domain ≡ due_later settings (messages_of key read) (numbers_due settings read key) m domain
  counted : counts_by fate (shown_counts (counts (inputs settings) [] (works_of (inputs settings) read))) ≡ shown_counts (counts (inputs settings) [] (works_of (inputs settings) (read ++ Raw key (Ok m) ∷ [])))

-- the number due behind a message, by its judgement
due_of : (settings : Settings) (read : List ReadArrival) (key : SessionKey) (m : Message) (domain : ℕ) (j : Judgement) → judge settings (messages_of key read) m ≡ j
    → expected_by key domain (numbers_due settings read key domain) (judged_work settings (messages_of key read) key m j)
    ≡ cond (is_taken j && (m.domain == domain)) (next_number m.sequence (outcomes settings (messages_of key read) m)) (numbers_due settings read key domain)
    → numbers_due settings (read ++ Raw key (Ok m) ∷ []) key domain ≡ due_later settings (messages_of key read) (numbers_due settings read key) m domain
due_of settings read key m domain j e by =
    due_more settings read (Raw key (Ok m)) key domain
    ∙ (ap (λ x. expected_by key domain (numbers_due settings read key domain) (judged_work settings (messages_of key read) key m x)) e
    ∙ (by ∙ ap (λ x. cond (is_taken x && (m.domain == domain)) (next_number m.sequence (outcomes settings (messages_of key read) m)) (numbers_due settings read key domain)) (sym e)))

counts_of_judged : (settings : Settings) (read : List ReadArrival) (key : SessionKey) (m : Message) (j : Judgement) (z : Counts) → judge settings (messages_of key read) m ≡ j
    → counts_of (inputs settings) (works_of (inputs settings) read) (judged_work settings (messages_of key read) key m j) ≡ z
    → counts (inputs settings) [] (works_of (inputs settings) (read ++ Raw key (Ok m) ∷ [])) ≡ added (counts (inputs settings) [] (works_of (inputs settings) read)) z
counts_of_judged settings read key m j z e is =
    counts_more settings read (Raw key (Ok m)) z (ap (λ x. counts_of (inputs settings) (works_of (inputs settings) read) (judged_work settings (messages_of key read) key m x)) e ∙ is)

fate_gives : (settings : Settings) (read : List ReadArrival) (key : SessionKey) (octets : List ℕ) (m : Message) (fate : Fate) → FateOf settings octets (messages_of key read) (numbers_due settings read key) m fate → FateGives settings read key octets m fate
fate_gives settings read key octets m Crowded j = record {
  sets = ap (λ x. decoded_sets (outcomes_if settings (messages_of key read) m x)) j;
  sound = tt;
  due = λ domain. due_of settings read key m domain IsCrowded j refl;
  counted = add_crowded (counts (inputs settings) [] (works_of (inputs settings) read)) ∙ ap shown_counts (sym (counts_of_judged settings read key m IsCrowded (record nothing_counted { crowded = 1 }) j refl));
}
fate_gives settings read key octets m Late j = record {
  sets = ap (λ x. decoded_sets (outcomes_if settings (messages_of key read) m x)) j;
  sound = tt;
  due = λ domain. due_of settings read key m domain IsLate j refl;
  counted = add_late (counts (inputs settings) [] (works_of (inputs settings) read)) ∙ ap shown_counts (sym (counts_of_judged settings read key m IsLate (record nothing_counted { late = 1 }) j refl));
}
fate_gives settings read key octets m (Taken t) f =
    let j = f.0 in
    let g = f.1 in
    record {
      sets = ap (λ x. decoded_sets (outcomes_if settings (messages_of key read) m x)) j ∙ sym g.sets;
      sound = g.sound;
      due = λ domain.
          due_of settings read key m domain IsTaken j
          (ap (λ b. cond (b && (m.domain == domain)) (next_number m.sequence (outcomes settings (messages_of key read) m)) (numbers_due settings read key domain)) (own_is key));
      counted = add_taken (counts (inputs settings) [] (works_of (inputs settings) read)) t _ _ _ _ _ _ g.records g.skipped g.ignored g.redefined g.lost (ap (λ b. cond b 1 0) g.behind)
          ∙ ap shown_counts (sym (counts_of_judged settings read key m IsTaken _ j (taken_adds settings read key m)));
    }

-- a well-formed one
pub well_worked : (key : SessionKey) (octets : List ℕ) (old new : OpenSessions) (d e : Domains) (fate : Fate) (msg : Msg) (m : Message) → Says octets m → length octets ≤ 65535 → get same_key old.rows key ≡ Some d
    → ((k : SessionKey) → get same_key new.rows k ≡ cond (same_key key k) (Some e) (get same_key old.rows k)) → Takes octets d e fate → item_of msg ≡ Some (Data key m.domain m.export m.sequence (map (set_of octets) (sets_in fate)))
    → IsMadeOf octets (sets_in fate) msg → new.transport ≡ old.transport → new.life ≡ old.life → new.counts ≡ counts_by fate old.counts → WorksBy (Some (Raw key octets)) old new msg
well_worked key octets old new d e fate msg m says most found updates takes item made same_transport same_life counted = (
  Raw key (Ok m),
  (Ok m, says, refl),
  λ settings read s come. worked settings read s come (subst (SessionAt settings read key) found (s.each key)),
)
  where
    worked : (settings : Settings) (read : List ReadArrival) → Stands settings read old → CanCome read (Some (Raw key octets)) → SessionAt settings read key (Some d) → GivesItem settings read (Raw key octets) (Raw key (Ok m)) new msg
    worked settings read s come at =
        let f = takes m says settings (messages_of key read) (numbers_due settings read key) at.1 in
        let g = fate_gives settings read key octets m fate f.0 in
        let messages : messages_of key (read ++ Raw key (Ok m) ∷ []) ≡ messages_of key read ++ m ∷ [] =
        messages_more key read (Raw key (Ok m)) ∙ ap (λ b. messages_of key read ++ cond b (m ∷ []) []) (own_is key) in
        let here : SessionAt settings (read ++ Raw key (Ok m) ∷ []) key (Some e) =
        (raw_open read key key (Ok m) ∙ at.0, stand_due g.due (subst (λ l. StandFor settings l (due_later settings (messages_of key read) (numbers_due settings read key) m) e) (sym messages) f.1)) in record {
          item = item ∙ ap (λ l. Some (Data key m.domain m.export m.sequence l)) (sym g.sets);
          sound = sound_made octets (sets_in fate) msg made g.sound
              (subst (λ l. message_octets l ≤ 65535) g.sets (judged_room settings (messages_of key read) octets m says most (judge settings (messages_of key read) m)));
          octets = octets_made octets (sets_in fate) msg made;
          stands = stands_later (Raw key (Ok m)) new s same_transport same_life (λ k unopened. quiet_away settings read key k m (other_key key k (opened_keys read) (s.opened key come) unopened))
              (λ k. subst (SessionAt settings (read ++ Raw key (Ok m) ∷ []) k) (sym (updates k)) (each settings read s here k (same_key key k) refl)) (counted ∙ (ap (counts_by fate) s.counts_are ∙ g.counted));
        }
      where
        each : (settings : Settings) (read : List ReadArrival) → Stands settings read old → SessionAt settings (read ++ Raw key (Ok m) ∷ []) key (Some e) → (k : SessionKey) (b : Bool) → same_key key k ≡ b
            → SessionAt settings (read ++ Raw key (Ok m) ∷ []) k (cond b (Some e) (get same_key old.rows k))
        each settings read s here k true q = subst (λ n. SessionAt settings (read ++ Raw key (Ok m) ∷ []) n (Some e)) (same_is key k q) here
        each settings read s here k false q = still settings read (Raw key (Ok m)) k (get same_key old.rows k) (quiet_away settings read key k m q) (raw_open read key k (Ok m)) (s.each k)

-- ---- nothing worked off yet, and what comes next

pub none_worked : (settings : Settings) (p : OpenSessions) → p.transport ≡ settings.transport → p.life ≡ settings.life → p.counts ≡ record { sessions = 0; messages = 0; records = 0; malformed = 0; late = 0; skipped = 0; ignored = 0; redefined = 0; lost = 0; disordered = 0; torn = 0; broken = 0; refused = 0; crowded = 0; stray = 0 }
    → ((key : SessionKey) → get same_key p.rows key ≡ None) → Stands settings [] p
none_worked settings p transport life counts_none rows = record {
  transport = transport;
  life = life;
  each = λ key. subst (SessionAt settings [] key) (sym (rows key)) refl;
  counts_are = counts_none;
  opened = λ key e. e;
  fresh = λ key e. record { messages = refl; due = λ domain. refl };
}

-- a message that may come has its session
pub has_session : (settings : Settings) (read : List ReadArrival) (p : OpenSessions) (key : SessionKey) → Stands settings read p → has_key key (open_keys read) ≡ true → IsSome (get same_key p.rows key)
has_session settings read p key s inside = of (get same_key p.rows key) (s.each key)
  where
    of : (o : Option Domains) → SessionAt settings read key o → IsSome o
    of None closed = absurd (true≢false (sym inside ∙ closed))
    of (Some d) there = refl

-- ---- what a call hands on

zeros : {X Y : Type 0} (f : X → Y) (key : SessionKey) (make : SessionKey → ℕ → ℕ → ℕ → List Y → Item) (d e s : ℕ) (list : List X) → d ≡ 0 → e ≡ 0 → s ≡ 0 → list ≡ [] → make key d e s (map f list) ≡ make key 0 0 0 []
zeros f key make d e s list a b c l = ap (λ n. make key n e s (map f list)) a ∙ (ap (λ n. make key 0 n s (map f list)) b ∙ (ap (λ n. make key 0 0 n (map f list)) c ∙ ap (λ x. make key 0 0 0 (map f x)) l))

-- the item of a malformed message
pub item_of_none : (msg : Msg) (key : SessionKey) (octets : List ℕ) (d e s : ℕ) (list : List DataSet) → item_of msg ≡ Some (Data key d e s (map (set_of octets) list)) → d ≡ 0 → e ≡ 0 → s ≡ 0 → list ≡ [] → item_of msg ≡ Some (Data key 0 0 0 [])
item_of_none msg key octets d e s list item a b c l = item ∙ ap Some (zeros (set_of octets) key Data d e s list a b c l)

-- that of a well-formed one
pub item_of_some : (msg : Msg) (key : SessionKey) (octets : List ℕ) (m : Message) (d e s : ℕ) (list sets : List DataSet) → item_of msg ≡ Some (Data key d e s (map (set_of octets) list)) → d ≡ m.domain → e ≡ m.export → s ≡ m.sequence → list ≡ sets
    → item_of msg ≡ Some (Data key m.domain m.export m.sequence (map (set_of octets) sets))
item_of_some msg key octets m d e s list sets item a b c l =
    item ∙ (ap (λ n. Some (Data key n e s (map (set_of octets) list))) a ∙ (ap (λ n. Some (Data key m.domain n s (map (set_of octets) list))) b
    ∙ (ap (λ n. Some (Data key m.domain m.export n (map (set_of octets) list))) c ∙ ap (λ x. Some (Data key m.domain m.export m.sequence (map (set_of octets) x))) l)))

-- An arrival that may come has its session.
pub may_have : (arrival : given.Arrival) (p : Parser) → MayCome arrival p → p.wanting ≡ false → HasSession arrival p.sessions
may_have (gives.SessionOpen key transport) p m e = tt
may_have (gives.Raw key octets) p m e = has_session m.settings m.read p.sessions key (m.stands e) m.comes
may_have (gives.SessionClose key) p m e = tt
may_have (gives.Periodic input seconds) p m e = tt
may_have gives.End p m e = tt
