-- Sets of a message that are left, one after another.
use Rattle.std.proofs.Common.{◌≡◌, ◌≢◌, ℕ, Bool, true, false, cond, List, [], ◌∷◌, ◌++◌, length, map, take, drop, refl, ap, sym, subst, ◌∙◌, append-nil, length-append, zero-add, arith}
use Rattle.std.specs.Prelude.{filter}
use Rattle.std.specs.List.{AllByRecursion, list_any}
use Rattle.std.proofs.lemmas.List.{map-append, drop-drop, drop_at}
use Rattle.std.proofs.lemmas.List.Elements.{filter-append}
use Rattle.wire_spec.specs.Content.{Definition}
use Rattle.wire_spec.specs.declared.field.FieldSpec.{FieldSpec}
use Rattle.wire_spec.specs.Record.{IsSomeRecord}
use Rattle.config_spec.specs.declared.conf.StageWork.{StageWork}
use Rattle.file_spec.specs.File.{has_records}
use Rattle.run_spec.specs.Records.{Record, record_of}
use Rattle.run_spec.specs.Outcome.{DecodedSet}
use Rattle.pipeline_message.specs.declared.message.Place.{Place}
use Rattle.pipeline_message.specs.declared.message.DataSet.{DataSet}
use Rattle.pipeline_message.specs.Items.{IsRecordAt, IsSoundSet, octets_at, record_at, set_of}
use Rattle.stage_chain.specs.Behind.{changes, records_behind, set_behind, sets_behind, AreLeft}
use Rattle.stage_chain.proofs.LeftLemmas.{both, records_stay, sound_stay}
use Rattle.message_stages.specs.Sets.{moved, AreSetsLeft}
use Rattle.message_stages.proofs.ItemLemmas.{filled}

-- ---- places that are moved

octets_moved : (front now : List ℕ) (p : Place) → octets_at (front ++ now) (moved (length front) p) ≡ octets_at now p
octets_moved front now p =
    ap (take p.len) (sym (drop-drop p.start (length front) (front ++ now)) ∙ ap (drop p.start) (drop_at front now (length front) refl))

records_moved : (fields : List FieldSpec) (front now : List ℕ) (left : List Place) → map (record_at fields (front ++ now)) (map (moved (length front)) left) ≡ map (record_at fields now) left
records_moved fields front now [] = refl
records_moved fields front now (p ∷ left) =
    ap (λ (r : Record). r ∷ map (record_at fields (front ++ now)) (map (moved (length front)) left)) (ap (record_of fields) (octets_moved front now p))
    ∙ ap (λ (l : List Record). record_at fields now p ∷ l) (records_moved fields front now left)

sound_moved : (fields : List FieldSpec) (front now : List ℕ) (left : List Place) → AllByRecursion (IsRecordAt fields now) left → AllByRecursion (IsRecordAt fields (front ++ now)) (map (moved (length front)) left)
sound_moved fields front now [] sound = tt
sound_moved fields front now (p ∷ left) sound =
    let inside = sound.0.0 in
    ((omega (arith, length-append front now), subst (IsSomeRecord fields) (sym (octets_moved front now p)) sound.0.1), sound_moved fields front now left sound.1)

not_moved : (left : List Place) → map (moved 0) left ≡ left
not_moved [] = refl
not_moved (p ∷ left) = ap (λ n. record { start = n; len = p.len } ∷ map (moved 0) left) (zero-add p.start) ∙ ap (λ (l : List Place). p ∷ l) (not_moved left)

some_moved : (by : ℕ) (left : List Place) → left ≢ [] → map (moved by) left ≢ []
some_moved by [] some = absurd (some refl)
some_moved by (p ∷ left) some = λ e. absurd cc

-- ---- sets stay where octets come behind

sets_stay : (now more : List ℕ) (sets : List DataSet) → AllByRecursion (IsSoundSet now) sets → map (set_of (now ++ more)) sets ≡ map (set_of now) sets
sets_stay now more [] sound = refl
sets_stay now more (s ∷ sets) sound =
    ap (λ (r : List Record). record { id = s.template; definition = s.def.value; records = r } ∷ map (set_of (now ++ more)) sets) (records_stay s.def.value.fields now more s.places.items sound.0.1)
    ∙ ap (λ (l : List DecodedSet). set_of now s ∷ l) (sets_stay now more sets sound.1)

sets_sound : (now more : List ℕ) (sets : List DataSet) → AllByRecursion (IsSoundSet now) sets → AllByRecursion (IsSoundSet (now ++ more)) sets
sets_sound now more [] sound = tt
sets_sound now more (s ∷ sets) sound = ((sound.0.0, sound_stay s.def.value.fields now more s.places.items sound.0.1), sets_sound now more sets sound.1)

-- ---- one set more

behind_more : (works : List StageWork) (octets : List ℕ) (sets : List DataSet) (s : DataSet)
    → sets_behind works (map (set_of octets) (sets ++ s ∷ [])) ≡ sets_behind works (map (set_of octets) sets) ++ filter has_records (set_behind works (set_of octets s) ∷ [])
behind_more works octets sets s =
    ap (sets_behind works) (map-append (set_of octets) sets (s ∷ []))
    ∙ (ap (filter has_records) (map-append (set_behind works) (map (set_of octets) sets) (set_of octets s ∷ []))
    ∙ filter-append has_records (map (set_behind works) (map (set_of octets) sets)) (set_behind works (set_of octets s) ∷ []))

-- these octets and these sets come of it
set_added : (works : List StageWork) (octets : List ℕ) (sets : List DataSet) (now later : List ℕ) (left : List DataSet) (s t : DataSet) (places : List Place)
    → map (set_of now) left ≡ sets_behind works (map (set_of octets) sets) → map (set_of later) left ≡ map (set_of now) left → t.def.value ≡ s.def.value → t.template ≡ s.template → t.places.items ≡ places → places ≢ []
    → map (record_at s.def.value.fields later) places ≡ records_behind works s.def.value (map (record_at s.def.value.fields octets) s.places.items)
    → map (set_of later) (left ++ t ∷ []) ≡ sets_behind works (map (set_of octets) (sets ++ s ∷ []))
set_added works octets sets now later left s t places are stay def template at some records =
    map-append (set_of later) left (t ∷ [])
    ∙ (ap (λ (l : List DecodedSet). l ++ set_of later t ∷ []) (stay ∙ are)
    ∙ (ap (λ (l : List DecodedSet). sets_behind works (map (set_of octets) sets) ++ l) (sym kept) ∙ sym (behind_more works octets sets s)))
  where
    own : map (record_at t.def.value.fields later) t.places.items ≡ records_behind works s.def.value (map (record_at s.def.value.fields octets) s.places.items)
    own = ap (λ (d : Definition). map (record_at d.fields later) t.places.items) def ∙ (ap (map (record_at s.def.value.fields later)) at ∙ records)

    is : set_of later t ≡ set_behind works (set_of octets s)
    is =
        ap (λ (n : ℕ). record { id = n; definition = t.def.value; records = map (record_at t.def.value.fields later) t.places.items }) template
        ∙ (ap (λ (d : Definition). record { id = s.template; definition = d; records = map (record_at t.def.value.fields later) t.places.items }) def
        ∙ ap (λ (r : List Record). record { id = s.template; definition = s.def.value; records = r }) own)

    there : t.places.items ≢ []
    there = λ e. some (sym at ∙ e)

    kept : filter has_records (set_behind works (set_of octets s) ∷ []) ≡ set_of later t ∷ []
    kept =
        ap (λ (d : DecodedSet). filter has_records (d ∷ [])) (sym is) ∙ ap (λ (b : Bool). cond b (set_of later t ∷ []) []) (filled later t there)

-- it is sound
set_sound : (later : List ℕ) (s t : DataSet) (places : List Place) → t.def.value ≡ s.def.value → t.places.items ≡ places → places ≢ [] → AllByRecursion (IsRecordAt s.def.value.fields later) places → IsSoundSet later t
set_sound later s t places def at some sound =
    (λ e. some (sym at ∙ e), subst (λ (d : Definition). AllByRecursion (IsRecordAt d.fields later) t.places.items) (sym def) (subst (AllByRecursion (IsRecordAt s.def.value.fields later)) (sym at) sound))

-- something is left of it
pub set_left : (works : List StageWork) (octets : List ℕ) (sets : List DataSet) (copies more : List ℕ) (left : List DataSet) (s t : DataSet) (own : List ℕ) (places : List Place)
    → places ≢ [] → AreLeft works s.def.value octets s.places.items (cond (list_any changes works) own octets) places → AreSetsLeft works octets sets copies left
    → t.def.value ≡ s.def.value → t.template ≡ s.template → t.places.items ≡ map (moved (length copies)) places → more ≡ copies ++ cond (list_any changes works) own []
    → AreSetsLeft works octets (sets ++ s ∷ []) more (left ++ t ∷ [])
set_left works octets sets copies more left s t own places some put a def template at longer = by_test (list_any changes works) refl put a.are a.sound longer
  where
    fields : List FieldSpec
    fields = s.def.value.fields

    by_test : (b : Bool) → list_any changes works ≡ b → AreLeft works s.def.value octets s.places.items (cond b own octets) places
        → map (set_of (cond b copies octets)) left ≡ sets_behind works (map (set_of octets) sets) → AllByRecursion (IsSoundSet (cond b copies octets)) left → more ≡ copies ++ cond b own []
        → AreSetsLeft works octets (sets ++ s ∷ []) more (left ++ t ∷ [])
    by_test true is put are sound longer =
        let later = copies ++ own in
        let moves = map (moved (length copies)) places in
        let here = some_moved (length copies) places some in
        subst (λ (m : List ℕ). AreSetsLeft works octets (sets ++ s ∷ []) m (left ++ t ∷ [])) (sym longer) (record {
          are = ap (λ (b : Bool). map (set_of (cond b later octets)) (left ++ t ∷ [])) is
              ∙ set_added works octets sets copies later left s t moves are (sets_stay copies own left sound) def template at here (records_moved fields copies own places ∙ put.are);
          sound = subst (λ (b : Bool). AllByRecursion (IsSoundSet (cond b later octets)) (left ++ t ∷ [])) (sym is)
              (both (IsSoundSet later) left (t ∷ []) (sets_sound copies own left sound) (set_sound later s t moves def at here (sound_moved fields copies own places put.sound), tt));
          none = λ e. absurd (let wrong : true ≡ false = sym is ∙ e in cc);
        })
    by_test false is put are sound longer =
        let empty : copies ≡ [] = a.none is in
        let stands : t.places.items ≡ places = at ∙ (ap (λ (c : List ℕ). map (moved (length c)) places) empty ∙ not_moved places) in
        let none : more ≡ [] = longer ∙ (append-nil copies ∙ empty) in record {
          are = ap (λ (b : Bool). map (set_of (cond b more octets)) (left ++ t ∷ [])) is ∙ set_added works octets sets octets octets left s t places are refl def template stands some put.are;
          sound = subst (λ (b : Bool). AllByRecursion (IsSoundSet (cond b more octets)) (left ++ t ∷ [])) (sym is)
              (both (IsSoundSet octets) left (t ∷ []) sound (set_sound octets s t places def stands some put.sound, tt));
          none = λ e. none;
        }
