-- Sets are taken one after another.
use Rattle.std.proofs.Common.{◌≡◌, ℕ, ◌+◌, ◌<◌, ◌≤◌, cond, List, [], ◌∷◌, ◌++◌, map, take, drop, length, refl, ap, sym, subst, ◌∙◌, arith, append_assoc, append-nil, length-append, Some}
use Rattle.std.specs.Prelude.{count_by, sum_by, flat_map}
use Rattle.std.specs.List.{AllByRecursion, concat}
use Rattle.std.proofs.lemmas.Bool.{le-ltb, lt-ltb}
use Rattle.std.proofs.lemmas.List.{take-append-drop, length-drop, length-take-le}
use Rattle.std.proofs.lemmas.List.Concat.{flat_map-append}
use Rattle.std.proofs.lemmas.List.Sums.{fold-append, sum_by-append}
use Rattle.wire_spec.specs.declared.field.FieldSpec.{FieldSpec}
use Rattle.wire_spec.specs.Content.{Definition, Touch, Part}
use Rattle.wire_spec.specs.Content.Part.{Touches, Body}
use Rattle.wire_spec.specs.Record.{IsRecords, AreSomeRecords, shortest}
use Rattle.wire_spec.specs.Places.{StandsAt}
use Rattle.wire_spec.proofs.ApartLemmas.{sized_set}
use Rattle.template_spec.specs.Changes.{count_after, redefines}
use Rattle.template_spec.specs.Valid.{valid}
use Rattle.template_manager.specs.State.{State}
use Rattle.ipfix_reader.specs.declared.raw.RawSet.{RawSet}
use Rattle.ipfix_reader.specs.Walk.{StandsIn}
use Rattle.arrival_spec.specs.Settings.{Settings}
use Rattle.run_spec.specs.Records.{record_of}
use Rattle.run_spec.specs.Touches.{dated}
use Rattle.run_spec.specs.Outcome.{DecodedSet, Outcome, by_records, by_definition, outcome, outcomes_after, decoded_in, decoded_sets}
use Rattle.run_spec.specs.Outcome.Outcome.{Skipped}
use Rattle.run_spec.specs.Outcome.SkipReason.{ReservedId, NotRecords}
use Rattle.run_spec.proofs.MoreLemmas.{one_more_outcome}
use Rattle.count_spec.specs.Counts.{is_skipped, records_in, left_out}
use Rattle.count_spec.specs.Shown.{shown_number}
use Rattle.pipeline_message.specs.declared.message.Place.{Place}
use Rattle.pipeline_message.specs.Items.{octets_at, record_at, set_of, IsRecordAt}
use Rattle.pipeline_message.specs.Shown.{adds}
use Rattle.record_places.specs.Places.{places_from, ArePlaced}
use Rattle.record_places.proofs.PlaceLemmas.{found_at, sound_at, records_are, records_not}
use Rattle.message_decode.specs.declared.counts.SetCounts.{SetCounts}
use Rattle.message_decode.specs.declared.decoded.Decoded.{Decoded}
use Rattle.message_decode.specs.Due.{due_behind, due_after}
use Rattle.message_decode.specs.Steps.{Stands, TakesTouches, AreSound, Adds, Found, Takes, Begins, Gives}
use Rattle.message_decode.proofs.TouchLemmas.{none_more, then, keeps_none, keeps_then, count_both}
use Rattle.message_decode.proofs.DueLemmas.{due_is}

-- ---- lists of outcomes

decoded_both : (a b : List Outcome) → decoded_sets (a ++ b) ≡ decoded_sets a ++ decoded_sets b
decoded_both a b = flat_map-append decoded_in a b

records_both : (a b : List Outcome) → records_in (a ++ b) ≡ records_in a + records_in b
records_both a b = ap (sum_by (λ (d : DecodedSet). length d.records)) (decoded_both a b) ∙ sum_by-append (λ (d : DecodedSet). length d.records) (decoded_sets a) (decoded_sets b)

skipped_both : (a b : List Outcome) → count_by is_skipped (a ++ b) ≡ count_by is_skipped a + count_by is_skipped b
skipped_both a b = sum_by-append (λ (o : Outcome). cond (is_skipped o) 1 0) a b

-- ---- sets in a row

pub found_none : (settings : Settings) (time : ℕ) (octets : List ℕ) (past : List (ℕ × Touch)) (m : State) (x : Decoded) → Stands settings past m → Found settings time octets past [] m x x
found_none settings time octets past m x s = record {
  stands = subst (λ l. Stands settings l m) (sym (append-nil past)) s;
  sets = sym (append-nil (map (set_of octets) x.sets.items));
  sound = λ before. before;
  records = none_more x.counts.records;
  skipped = none_more x.counts.skipped;
  ignored = none_more x.counts.ignored;
  redefined = none_more x.counts.redefined;
  due = refl;
}

pub found_more : {settings : Settings} {time : ℕ} {octets : List ℕ} {past : List (ℕ × Touch)} {parts : List Part} {p : Part} {mid new : State} {x y z : Decoded} → Found settings time octets past parts mid x y
    → Found settings time octets (past ++ flat_map (dated settings.transport time) parts) (p ∷ []) new y z → Found settings time octets past (parts ++ p ∷ []) new x z
found_more {settings} {time} {octets} {past} {parts} {p} {mid} {new} {x} {y} {z} f g =
    let before = flat_map (dated settings.transport time) parts in
    let os = outcomes_after settings time past parts in
    let here = outcomes_after settings time (past ++ before) (p ∷ []) in
    let all : outcomes_after settings time past (parts ++ p ∷ []) ≡ os ++ here = one_more_outcome settings time past parts p in
    let both : flat_map (dated settings.transport time) (parts ++ p ∷ []) ≡ before ++ flat_map (dated settings.transport time) (p ∷ []) = flat_map-append (dated settings.transport time) parts (p ∷ []) in
    record {
      stands = subst (λ l. Stands settings l new) (append_assoc past before (flat_map (dated settings.transport time) (p ∷ [])) ∙ ap (λ l. past ++ l) (sym both)) g.stands;
      sets = g.sets
          ∙ (ap (λ l. l ++ decoded_sets here) f.sets
          ∙ (append_assoc (map (set_of octets) x.sets.items) (decoded_sets os) (decoded_sets here) ∙ ap (λ l. map (set_of octets) x.sets.items ++ l) (sym (ap decoded_sets all ∙ decoded_both os here))));
      sound = λ before. g.sound (f.sound before);
      records = then _ _ x.counts.records y.counts.records z.counts.records f.records g.records ∙ ap (adds x.counts.records) (sym (ap records_in all ∙ records_both os here));
      skipped = then _ _ x.counts.skipped y.counts.skipped z.counts.skipped f.skipped g.skipped ∙ ap (adds x.counts.skipped) (sym (ap (count_by is_skipped) all ∙ skipped_both os here));
      ignored = then _ _ x.counts.ignored y.counts.ignored z.counts.ignored f.ignored g.ignored ∙ ap (adds x.counts.ignored) (sym (sum_by-append (left_out settings) parts (p ∷ [])));
      redefined = then _ _ x.counts.redefined y.counts.redefined z.counts.redefined f.redefined g.redefined
          ∙ ap (adds x.counts.redefined) (sym (ap (λ l. count_after (redefines settings.transport settings.life) past l) both ∙ count_both (redefines settings.transport settings.life) past before (flat_map (dated settings.transport time) (p ∷ []))));
      due = g.due ∙ (ap (λ d. due_after d here) f.due ∙ sym (ap (due_after x.due) all ∙ fold-append due_behind x.due os here));
    }

pub takes_none : (time : ℕ) (octets : List ℕ) (m : State) (x : Decoded) → Takes time octets [] m m x x
takes_none time octets m x = record { keeps = keeps_none m; found = λ settings past s. found_none settings time octets past m x s }

pub takes_more : {time : ℕ} {octets : List ℕ} {parts : List Part} {p : Part} {old mid new : State} {x y z : Decoded} → Takes time octets parts old mid x y → Takes time octets (p ∷ []) mid new y z → Takes time octets (parts ++ p ∷ []) old new x z
takes_more {time} {octets} {parts} {p} {old} {mid} {new} {x} {y} {z} a b = record {
  keeps = keeps_then a.keeps b.keeps;
  found = λ settings past s. (let f = a.found settings past s in found_more f (b.found settings (past ++ flat_map (dated settings.transport time) parts) f.stands));
}

-- ---- one set

-- template records
pub takes_touches : (time : ℕ) (octets : List ℕ) (touches : List Touch) (old new : State) (x y : Decoded) → TakesTouches time touches old new x.counts y.counts → y.sets ≡ x.sets → y.due ≡ x.due → Takes time octets (Touches touches ∷ []) old new x y
takes_touches time octets touches old new x y t sets due = record {
  keeps = t.keeps;
  found = λ settings past s.
      let f = t.found settings past s in
      let more = dated settings.transport time (Touches touches) in
      record {
        stands = subst (λ l. Stands settings (past ++ l) new) (sym (append-nil more)) f.stands;
        sets = ap (λ l. map (set_of octets) l.items) sets ∙ sym (append-nil (map (set_of octets) x.sets.items));
        sound = subst (λ l. AreSound octets l.items) (sym sets);
        records = f.records ∙ none_more x.counts.records;
        skipped = f.skipped ∙ none_more x.counts.skipped;
        ignored = f.ignored ∙ ap (adds x.counts.ignored) (omega arith);
        redefined = f.redefined ∙ ap (adds x.counts.redefined) (ap (λ l. count_after (redefines settings.transport settings.life) past l) (sym (append-nil more)));
        due = due;
      };
}

-- any other set
pub takes_body : (time id : ℕ) (octets body : List ℕ) (m : State) (x y : Decoded) → ((settings : Settings) (past : List (ℕ × Touch)) → Stands settings past m → Adds octets (outcome settings time past (Body id body)) x y)
    → Takes time octets (Body id body ∷ []) m m x y
takes_body time id octets body m x y a = record {
  keeps = keeps_none m;
  found = λ settings past s.
      let f = a settings past s in
      let o = outcome settings time past (Body id body) in
      record {
        stands = subst (λ l. Stands settings l m) (sym (append-nil past)) s;
        sets = f.sets ∙ ap (λ l. map (set_of octets) x.sets.items ++ l) (sym (append-nil (decoded_in o)));
        sound = f.sound;
        records = f.records;
        skipped = f.skipped;
        ignored = f.ignored ∙ none_more x.counts.ignored;
        redefined = f.redefined ∙ none_more x.counts.redefined;
        due = f.due;
      };
}

-- a set of an ID that is reserved is skipped, and any other is taken by the valid definition
pub reserved : (settings : Settings) (time id : ℕ) (past : List (ℕ × Touch)) (body : List ℕ) → id < 256 → outcome settings time past (Body id body) ≡ Skipped ReservedId
reserved settings time id past body low = ap (λ b. cond b (Skipped ReservedId) (by_definition id body (valid settings.transport settings.life past time id))) (lt-ltb id 256 low)

pub by_valid : (settings : Settings) (time id : ℕ) (past : List (ℕ × Touch)) (body : List ℕ) → 256 ≤ id → outcome settings time past (Body id body) ≡ by_definition id body (valid settings.transport settings.life past time id)
by_valid settings time id past body high = ap (λ b. cond b (Skipped ReservedId) (by_definition id body (valid settings.transport settings.life past time id))) (le-ltb id 256 high)

-- ---- records at their places

-- the body of a set stands behind its header
body_at : (octets set : List ℕ) (at : ℕ) → StandsAt octets at set → 4 ≤ length set → (front : List ℕ) × (rest : List ℕ) × (octets ≡ front ++ (drop 4 set ++ rest)) × (at + 4 ≡ length front)
body_at octets set at stands least =
    let tail = drop at octets in
    let rest = drop (length set) tail in
    let front = take at octets in
    let split : tail ≡ set ++ rest = sym (take-append-drop (length set) tail) ∙ ap (λ l. l ++ rest) stands in
    let parts : set ≡ take 4 set ++ drop 4 set = sym (take-append-drop 4 set) in
    let whole : octets ≡ front ++ ((take 4 set ++ drop 4 set) ++ rest) = sym (take-append-drop at octets) ∙ ap (λ l. front ++ l) (split ∙ ap (λ l. l ++ rest) parts) in
    let long : length tail ≡ length set + length rest = ap length split ∙ length-append set rest in
    let left = length-drop at octets in
    let first : length front ≡ at = length-take-le at octets (omega arith) in
    let head : length (take 4 set) ≡ 4 = length-take-le 4 set least in
    let both = length-append front (take 4 set) in (
      front ++ take 4 set,
      rest,
      whole ∙ (ap (λ l. front ++ l) (append_assoc (take 4 set) (drop 4 set) rest) ∙ sym (append_assoc front (take 4 set) (drop 4 set ++ rest))),
      omega arith,
    )

-- the records of a set's body stand in the message one behind another, from the body's first octet on
record Stretch (octets : List ℕ) (start : ℕ) (list : List (List ℕ)) : Type 0 where
  front : List ℕ
  end : List ℕ
  whole : octets ≡ front ++ (concat list ++ end)
  begins : start ≡ length front

stretch : (octets : List ℕ) (raw : RawSet) (fields : List FieldSpec) (list : List (List ℕ)) → StandsIn octets raw → IsRecords fields raw.body.now list → Stretch octets (raw.at + 4) list
stretch octets raw fields list s cut =
    let at = body_at octets s.0 raw.at s.2 (sized_set s.0 s.1.sized.unbroken).head in record {
      front = at.0;
      end = cut.end ++ at.1;
      whole = at.2 ∙ ap (λ l. at.0 ++ l) (ap (λ l. l ++ at.1) (sym s.1.body ∙ cut.whole) ∙ append_assoc (concat list) cut.end at.1);
      begins = at.3;
    }

-- They are those at their places in the message.
pub stand_there : (octets : List ℕ) (raw : RawSet) (fields : List FieldSpec) (list : List (List ℕ)) → StandsIn octets raw → IsRecords fields raw.body.now list → map (octets_at octets) (places_from (raw.at + 4) list) ≡ list
stand_there octets raw fields list s cut = (let t = stretch octets raw fields list s cut in found_at octets t.front t.end list (raw.at + 4) t.begins t.whole)

-- These places lie within the message.
pub placed_sound : (octets : List ℕ) (raw : RawSet) (fields : List FieldSpec) (places : List Place) → StandsIn octets raw → ArePlaced fields raw.body.now (raw.at + 4) places → AllByRecursion (IsRecordAt fields octets) places
placed_sound octets raw fields places s p =
    let t = stretch octets raw fields p.0 s p.1 in
    subst (AllByRecursion (IsRecordAt fields octets)) (sym p.2) (sound_at fields octets t.front t.end p.0 (raw.at + 4) t.begins t.whole p.1.each)

map_both : (fields : List FieldSpec) (octets : List ℕ) (places : List Place) → map (record_at fields octets) places ≡ map (record_of fields) (map (octets_at octets) places)
map_both fields octets [] = refl
map_both fields octets (p ∷ places) = ap (λ l. record_at fields octets p ∷ l) (map_both fields octets places)

-- So a body that has its records at places gives them.
pub placed_gives : (octets : List ℕ) (raw : RawSet) (def : Definition) (places : List Place) → 0 < shortest def.fields → StandsIn octets raw → ArePlaced def.fields raw.body.now (raw.at + 4) places
    → by_records raw.id def (Some (map (record_at def.fields octets) places)) ≡ by_definition raw.id raw.body.now (Some def)
placed_gives octets raw def places some s p =
    ap (λ r. by_records raw.id def r)
    (ap Some (map_both def.fields octets places ∙ ap (map (record_of def.fields)) (ap (map (octets_at octets)) p.2 ∙ stand_there octets raw def.fields p.0 s p.1)) ∙ sym (records_are def.fields some raw.body.now p.0 p.1))

pub unplaced_gives : (id : ℕ) (def : Definition) (body : List ℕ) → 0 < shortest def.fields → (AreSomeRecords def.fields body → ⊥) → Skipped NotRecords ≡ by_definition id body (Some def)
unplaced_gives id def body some none = ap (by_records id def) (sym (records_not def.fields some body none))

-- ---- a whole message

from_none : (n m : ℕ) → n ≡ adds 0 m → n ≡ shown_number m
from_none n m e = omega arith

-- What was found from nothing on is what the definitions give.
pub all_found : {settings : Settings} {time sequence : ℕ} {octets : List ℕ} {past : List (ℕ × Touch)} {parts : List Part} {m : State} {x y : Decoded} → Begins sequence x → Found settings time octets past parts m x y → Gives settings time sequence octets past parts m y
all_found {settings} {time} {sequence} {octets} {past} {parts} {m} {x} {y} b f =
    let os = outcomes_after settings time past parts in
    record {
      stands = f.stands;
      sets = f.sets ∙ ap (λ l. map (set_of octets) l ++ decoded_sets os) b.sets;
      sound = f.sound (subst (AreSound octets) (sym b.sets) tt);
      records = from_none _ _ (f.records ∙ ap (λ (c : SetCounts). adds c.records (records_in os)) b.counts);
      skipped = from_none _ _ (f.skipped ∙ ap (λ (c : SetCounts). adds c.skipped (count_by is_skipped os)) b.counts);
      ignored = from_none _ _ (f.ignored ∙ ap (λ (c : SetCounts). adds c.ignored (sum_by (left_out settings) parts)) b.counts);
      redefined = from_none _ _ (f.redefined ∙ ap (λ (c : SetCounts). adds c.redefined (count_after (redefines settings.transport settings.life) past (flat_map (dated settings.transport time) parts))) b.counts);
      due = f.due ∙ (ap (λ d. due_after d os) b.due ∙ due_is sequence os);
    }
