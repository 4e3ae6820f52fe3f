-- What is left of a set, record by record.
use Rattle.std.proofs.Common.{◌≡◌, ℕ, ◌+◌, ◌<◌, ◌≤◌, List, get_or, [], ◌∷◌, ◌++◌, length, map, take, drop, refl, ap, sym, subst, ◌∙◌, arith, length-append, length-drop}
use Rattle.std.specs.List.{AllByRecursion}
use Rattle.std.proofs.lemmas.List.{map-append, drop-append-le, take-append-le, append-nil, take_at, drop_at, take-append-drop, length-take-le, take_more}
use Rattle.wire_spec.specs.Content.{Definition}
use Rattle.wire_spec.specs.declared.field.FieldSpec.{FieldSpec}
use Rattle.wire_spec.specs.Record.{IsSomeRecord}
use Rattle.config_spec.specs.declared.conf.StageWork.{StageWork}
use Rattle.run_spec.specs.Records.{Record, record_of}
use Rattle.pipeline_message.specs.declared.message.Place.{Place}
use Rattle.pipeline_message.specs.Items.{IsRecordAt, octets_at, record_at}
use Rattle.stage_chain.specs.Behind.{records_behind, AreLeft}
use Rattle.stage_chain.proofs.BehindLemmas.{behind_append}

pub both : {X : Type 0} (P : X → Type 0) (a b : List X) → AllByRecursion P a → AllByRecursion P b → AllByRecursion P (a ++ b)
both P [] b p q = q
both P (x ∷ a) b p q = (p.0, both P a b p.1 q)

-- what stands at a place stays, where octets come behind
octets_stay : (now more : List ℕ) (p : Place) → p.start + p.len ≤ length now → octets_at (now ++ more) p ≡ octets_at now p
octets_stay now more p inside =
    let front : p.start ≤ length now = omega arith in
    let long : p.len ≤ length (drop p.start now) = omega (arith, length-drop p.start now) in
    ap (take p.len) (drop-append-le p.start now more front) ∙ take-append-le p.len (drop p.start now) more long

pub records_stay : (fields : List FieldSpec) (now more : List ℕ) (left : List Place) → AllByRecursion (IsRecordAt fields now) left → map (record_at fields (now ++ more)) left ≡ map (record_at fields now) left
records_stay fields now more [] sound = refl
records_stay fields now more (p ∷ left) sound =
    let first = ap (record_of fields) (octets_stay now more p sound.0.0) in
    ap (λ (r : Record). r ∷ map (record_at fields (now ++ more)) left) first ∙ ap (λ (l : List Record). record_at fields now p ∷ l) (records_stay fields now more left sound.1)

pub sound_stay : (fields : List FieldSpec) (now more : List ℕ) (left : List Place) → AllByRecursion (IsRecordAt fields now) left → AllByRecursion (IsRecordAt fields (now ++ more)) left
sound_stay fields now more [] sound = tt
sound_stay fields now more (p ∷ left) sound =
    let inside = sound.0.0 in
    ((omega (arith, length-append now more), subst (IsSomeRecord fields) (sym (octets_stay now more p inside)) sound.0.1), sound_stay fields now more left sound.1)

-- before the first record
pub left_none : (works : List StageWork) (def : Definition) (octets now : List ℕ) (left : List Place) → left ≡ [] → records_behind works def [] ≡ [] → AreLeft works def octets [] now left
left_none works def octets now left none behind = record {
  are = ap (map (record_at def.fields now)) none ∙ sym behind;
  sound = subst (AllByRecursion (IsRecordAt def.fields now)) (sym none) tt;
}

-- one record more, of which these are left
left_more : (works : List StageWork) (def : Definition) (octets : List ℕ) (places : List Place) (p : Place) (now later : List ℕ) (left more : List Place)
    → AreLeft works def octets places now left → map (record_at def.fields later) left ≡ map (record_at def.fields now) left → AllByRecursion (IsRecordAt def.fields later) left
    → map (record_at def.fields later) more ≡ records_behind works def (record_at def.fields octets p ∷ []) → AllByRecursion (IsRecordAt def.fields later) more
    → AreLeft works def octets (places ++ p ∷ []) later (left ++ more)
left_more works def octets places p now later left more a stay sound last whole =
    let f = record_at def.fields octets in record {
      are = map-append (record_at def.fields later) left more
          ∙ (ap (λ (l : List Record). l ++ map (record_at def.fields later) more) (stay ∙ a.are)
          ∙ (ap (λ (l : List Record). records_behind works def (map f places) ++ l) last
          ∙ (sym (behind_append works def (map f places) (f p ∷ [])) ∙ ap (records_behind works def) (sym (map-append f places (p ∷ []))))));
      sound = both (IsRecordAt def.fields later) left more sound whole;
    }

-- it is kept where it stands
pub left_kept : (works : List StageWork) (def : Definition) (octets : List ℕ) (places : List Place) (p : Place) (left : List Place) → AreLeft works def octets places octets left
    → records_behind works def (record_at def.fields octets p ∷ []) ≡ record_at def.fields octets p ∷ [] → IsRecordAt def.fields octets p → AreLeft works def octets (places ++ p ∷ []) octets (left ++ p ∷ [])
left_kept works def octets places p left a last is = left_more works def octets places p octets octets left (p ∷ []) a refl a.sound (sym last) (is, tt)

-- it isn't kept
pub left_gone : (works : List StageWork) (def : Definition) (octets : List ℕ) (places : List Place) (p : Place) (now : List ℕ) (left : List Place) → AreLeft works def octets places now left
    → records_behind works def (record_at def.fields octets p ∷ []) ≡ [] → AreLeft works def octets (places ++ p ∷ []) now left
left_gone works def octets places p now left a last =
    subst (AreLeft works def octets (places ++ p ∷ []) now) (append-nil left) (left_more works def octets places p now now left [] a refl a.sound (sym last) tt)

-- it is kept as a copy behind the others
pub left_copied : (works : List StageWork) (def : Definition) (octets : List ℕ) (places : List Place) (p : Place) (now copy : List ℕ) (left : List Place) (q : Place) → AreLeft works def octets places now left
    → records_behind works def (record_at def.fields octets p ∷ []) ≡ record_of def.fields copy ∷ [] → IsSomeRecord def.fields copy → q.start ≡ length now → q.len ≡ length copy
    → AreLeft works def octets (places ++ p ∷ []) (now ++ copy) (left ++ q ∷ [])
left_copied works def octets places p now copy left q a last is start len =
    let at : octets_at (now ++ copy) q ≡ copy = ap (λ n. take q.len (drop n (now ++ copy))) start ∙ (ap (take q.len) (behind now copy) ∙ whole q.len copy len) in
    let l = length-append now copy in
    left_more works def octets places p now (now ++ copy) left (q ∷ []) a (records_stay def.fields now copy left a.sound) (sound_stay def.fields now copy left a.sound)
    (ap (λ (o : List ℕ). record_of def.fields o ∷ []) at ∙ sym last) ((omega arith, subst (IsSomeRecord def.fields) (sym at) is), tt)
  where
    behind : (a b : List ℕ) → drop (length a) (a ++ b) ≡ b
    behind [] b = refl
    behind (x ∷ a) b = behind a b

    whole : (n : ℕ) (o : List ℕ) → n ≡ length o → take n o ≡ o
    whole n o e = ap (λ k. take k o) e ∙ all o
      where
        all : (o : List ℕ) → take (length o) o ≡ o
        all [] = refl
        all (x ∷ o) = ap (λ (l : List ℕ). x ∷ l) (all o)

-- A copy of a record stands behind the octets before it, and was changed there.
pub record IsCopied (octets : List ℕ) (p : Place) (at start : ℕ) (old longer now : List ℕ) : Type 0 where
  pub inside : p.start + p.len ≤ length octets
  pub at_is : at ≡ length old
  pub start_is : start ≡ at
  pub longer_is : longer ≡ old ++ octets_at octets p
  pub front : take at now ≡ take at longer
  pub long : length now ≡ length longer

front_is : (octets : List ℕ) (p : Place) (at start : ℕ) (old longer now : List ℕ) → IsCopied octets p at start old longer now → take at now ≡ old
front_is octets p at start old longer now c = c.front ∙ (ap (take at) c.longer_is ∙ take_at old (octets_at octets p) at (sym c.at_is))

copy_is : (octets : List ℕ) (p : Place) (at start : ℕ) (old longer now : List ℕ) → IsCopied octets p at start old longer now → drop at longer ≡ octets_at octets p
copy_is octets p at start old longer now c = ap (drop at) c.longer_is ∙ drop_at old (octets_at octets p) at (sym c.at_is)

-- it is kept
pub copy_kept : (works : List StageWork) (def : Definition) (octets : List ℕ) (places : List Place) (p : Place) (at start : ℕ) (old longer now : List ℕ) (left items : List Place) → IsCopied octets p at start old longer now
    → records_behind works def (record_of def.fields (drop at longer) ∷ []) ≡ record_of def.fields (drop at now) ∷ [] → IsSomeRecord def.fields (drop at now)
    → items ≡ left ++ record { start = start; len = p.len } ∷ [] → AreLeft works def octets places old left → AreLeft works def octets (places ++ p ∷ []) now items
copy_kept works def octets places p at start old longer now left items c last is more a =
    let copy = drop at now in
    let whole : old ++ copy ≡ now = ap (λ (l : List ℕ). l ++ copy) (sym (front_is octets p at start old longer now c)) ∙ take-append-drop at now in
    let first : records_behind works def (record_at def.fields octets p ∷ []) ≡ record_of def.fields copy ∷ [] =
    ap (λ (o : List ℕ). records_behind works def (record_of def.fields o ∷ [])) (sym (copy_is octets p at start old longer now c)) ∙ last in
    let size : p.len ≡ length copy = sizes in
    let q : Place = record { start = start; len = p.len } in
    let l = left_copied works def octets places p old copy left q a first is (c.start_is ∙ c.at_is) size in
    subst (λ (o : List ℕ). AreLeft works def octets (places ++ p ∷ []) o items) whole (subst (AreLeft works def octets (places ++ p ∷ []) (old ++ copy)) (sym more) l)
  where
    sizes : p.len ≡ length (drop at now)
    sizes =
        let inside = c.inside in
        let a = length-drop at now in
        let b = ap length c.longer_is in
        let d = length-append old (octets_at octets p) in
        let e = length-drop p.start octets in
        let room : p.len ≤ length (drop p.start octets) = omega arith in
        let f : length (octets_at octets p) ≡ p.len = length-take-le p.len (drop p.start octets) room in
        let g = c.long in
        let h = c.at_is in
        omega arith

-- it isn't
pub copy_gone : (works : List StageWork) (def : Definition) (octets : List ℕ) (places : List Place) (p : Place) (at start : ℕ) (old longer now later : List ℕ) (left : List Place) → IsCopied octets p at start old longer now
    → records_behind works def (record_of def.fields (drop at longer) ∷ []) ≡ [] → later ≡ take at now → AreLeft works def octets places old left → AreLeft works def octets (places ++ p ∷ []) later left
copy_gone works def octets places p at start old longer now later left c last cut a =
    let first = ap (λ (o : List ℕ). records_behind works def (record_of def.fields o ∷ [])) (sym (copy_is octets p at start old longer now c)) ∙ last in
    subst (λ (o : List ℕ). AreLeft works def octets (places ++ p ∷ []) o left) (sym (cut ∙ front_is octets p at start old longer now c)) (left_gone works def octets places p old left a first)

-- one place more is taken
pub place_more : (works : List StageWork) (def : Definition) (octets : List ℕ) (places : List Place) (i : ℕ) (d : Place) (now : List ℕ) (left : List Place) → i < length places
    → AreLeft works def octets (take i places ++ get_or places i d ∷ []) now left → AreLeft works def octets (take (i + 1) places) now left
place_more works def octets places i d now left lt a = subst (λ (l : List Place). AreLeft works def octets l now left) (sym (take_more places i d lt)) a
