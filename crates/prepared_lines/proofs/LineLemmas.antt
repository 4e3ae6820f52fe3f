-- What is put of values that stand at places is the line of the record.
use Rattle.std.proofs.Common.{◌≡◌, ℕ, zero, suc, ◌+◌, ◌-◌, ◌*◌, ◌<◌, ◌≤◌, Bool, true, false, ◌&&◌, List, [], ◌∷◌, ◌++◌, length, take, drop, get_or, refl, ap, ap₂, sym, subst, ◌∙◌, arith, length-append, length-drop, length-take-le}
use Rattle.std.specs.Prelude.{nat_le, nat_eq, not, MatchBool, ◌⊎◌}
use Rattle.std.specs.List.{list_all, flat_map}
use Rattle.std.proofs.Math.Seq.{take-append_seam, drop-append_seam}
use Rattle.std.proofs.lemmas.Bool.{le-leb, leb-true, ltb-true, and_parts}
use Rattle.std.proofs.lemmas.List.{get_or-map, drop-drop, length-map}
use Rattle.text_spec.specs.Value.{value_text}
use Rattle.wire_spec.specs.declared.field.FieldSpec.{FieldSpec}
use Rattle.wire_spec.specs.Record.{IsRecord, IsShortForm, IsLongForm, IsFixed}
use Rattle.wire_spec.specs.Size.{are_fixed}
use Rattle.record_iter.specs.declared.place.ValuePlace.{ValuePlace}
use Rattle.prepared_lines.specs.declared.member.Member.{Member}
use Rattle.prepared_lines.specs.declared.hot.HotMember.{HotMember}
use Rattle.prepared_lines.specs.Line.{value_at, members_text, is_within}
use Rattle.prepared_lines.specs.Places.{octets_at, is_inside, Stand, fixed_places}
use Rattle.prepared_lines.specs.General.{place_at, text_at, most_of_line}
use Rattle.prepared_lines.specs.Shape.{shape_text}
use Rattle.prepared_lines.specs.Hot as hot
use Rattle.prepared_lines.specs.declared.hot.HotLine.{HotLine}
use Rattle.prepared_lines.specs.declared.way.PlacedLine.{PlacedLine}
use Rattle.prepared_lines.specs.Way.{IsHotMember, AreHot, IsHot, IsPlaced}

-- a record has a value for each field
pub values_many : (fields : List FieldSpec) (octets : List ℕ) (values : List (List ℕ)) → IsRecord fields octets values → length values ≡ length fields
values_many [] octets [] r = refl
values_many [] octets (v ∷ values) r = absurd r
values_many (f ∷ fields) octets [] r = absurd r
values_many (f ∷ fields) octets (v ∷ values) r = ap suc (values_many fields r.1 values r.3)

-- and so a place for each field
pub places_many : (fields : List FieldSpec) (octets : List ℕ) (places : List ValuePlace) (values : List (List ℕ)) → IsRecord fields octets values → Stand octets places values → length places ≡ length fields
places_many fields octets places values r s = sym (length-map places (octets_at octets)) ∙ ap length s.are ∙ values_many fields octets values r

pub within_places : (count : ℕ) (places : List ValuePlace) (members : List Member) → length places ≡ count → list_all (is_within count) members ≡ true → list_all (is_within (length places)) members ≡ true
within_places count places members e all = subst (λ n. list_all (is_within n) members ≡ true) (sym e) all

-- what all items pass, each passes
all_at : {X : Type 0} (p : X → Bool) (xs : List X) (i : ℕ) (d : X) → list_all p xs ≡ true → i < length xs → p (get_or xs i d) ≡ true
all_at p [] i d all lt = absurd (omega arith)
all_at p (x ∷ xs) zero d all lt = (and_parts (p x) (list_all p xs) all).0
all_at p (x ∷ xs) (suc i) d all lt = all_at p xs i d (and_parts (p x) (list_all p xs) all).1 (omega arith)

-- the value of a field stands at its place
value_stands : (octets : List ℕ) (places : List ValuePlace) (values : List (List ℕ)) (n : ℕ) → Stand octets places values → n < length places → octets_at octets (place_at places n) ≡ value_at values n
value_stands octets places values n s lt = sym (get_or-map (octets_at octets) places n (record { at = 0; len = 0 }) [] lt) ∙ ap (λ (l : List (List ℕ)). get_or l n []) s.are

pub placed_is : (octets : List ℕ) (places : List ValuePlace) (values : List (List ℕ)) (members : List Member) → Stand octets places values → list_all (is_within (length places)) members ≡ true
    → flat_map (text_at octets places) members ≡ members_text members values
placed_is octets places values [] s all = refl
placed_is octets places values (m ∷ members) s all =
    let parts = and_parts (is_within (length places) m) (list_all (is_within (length places)) members) all in
    ap₂ (λ (a b : List ℕ). a ++ b) (ap (λ v. m.literal ++ value_text m.kind v) (value_stands octets places values m.field s (ltb-true m.field (length places) parts.0)))
    (placed_is octets places values members s parts.1)

-- a value at a place has the place's length
octets_long : (octets : List ℕ) (place : ValuePlace) → is_inside (length octets) place ≡ true → length (octets_at octets place) ≡ place.len
octets_long octets place inside =
    let le = leb-true (place.at + place.len) (length octets) inside in
    let rest = length-drop place.at octets in
    length-take-le place.len (drop place.at octets) (omega arith)

hot_member : (octets : List ℕ) (place : ValuePlace) (m : Member) (h : HotMember) → is_inside (length octets) place ≡ true → IsHotMember place m h
    → hot.hot_text octets h ≡ m.literal ++ value_text m.kind (octets_at octets place)
hot_member octets place m h inside is =
    let value : hot.value_at octets h.at h.shape ≡ octets_at octets place = ap₂ (λ n p. take n (drop p octets)) is.wide is.begins in
    ap₂ (λ (a b : List ℕ). a ++ b) is.literal (ap (shape_text h.shape) value ∙ sym (is.text (octets_at octets place) (octets_long octets place inside)))

pub hot_is : (octets : List ℕ) (places : List ValuePlace) (members : List Member) (fast : List HotMember) → AreHot places members fast → list_all (is_inside (length octets)) places ≡ true
    → list_all (is_within (length places)) members ≡ true → flat_map (hot.hot_text octets) fast ≡ flat_map (text_at octets places) members
hot_is octets places [] [] are inside all = refl
hot_is octets places [] (h ∷ fast) are inside all = absurd are
hot_is octets places (m ∷ members) [] are inside all = absurd are
hot_is octets places (m ∷ members) (h ∷ fast) are inside all =
    let parts = and_parts (is_within (length places) m) (list_all (is_within (length places)) members) all in
    let here = all_at (is_inside (length octets)) places m.field (record { at = 0; len = 0 }) inside (ltb-true m.field (length places) parts.0) in
    ap₂ (λ (a b : List ℕ). a ++ b) (hot_member octets (place_at places m.field) m h here are.0) (hot_is octets places members fast are.1 inside parts.1)

pub hot_inside : (size : ℕ) (places : List ValuePlace) (members : List Member) (fast : List HotMember) → AreHot places members fast → list_all (is_inside size) places ≡ true
    → list_all (is_within (length places)) members ≡ true → list_all (hot.is_inside size) fast ≡ true
hot_inside size places [] [] are inside all = refl
hot_inside size places [] (h ∷ fast) are inside all = absurd are
hot_inside size places (m ∷ members) [] are inside all = absurd are
hot_inside size places (m ∷ members) (h ∷ fast) are inside all =
    let parts = and_parts (is_within (length places) m) (list_all (is_within (length places)) members) all in
    let here = all_at (is_inside size) places m.field (record { at = 0; len = 0 }) inside (ltb-true m.field (length places) parts.0) in
    ap₂ (λ a b. a && b) (ap₂ (λ a b. nat_le (a + b) size) are.0.begins are.0.wide ∙ here) (hot_inside size places members fast are.1 inside parts.1)

-- one more fast member
pub hot_more : (places : List ValuePlace) (members : List Member) (fast : List HotMember) (m : Member) (h : HotMember) → AreHot places members fast → IsHotMember (place_at places m.field) m h
    → AreHot places (members ++ m ∷ []) (fast ++ h ∷ [])
hot_more places [] [] m h are is = (is, tt)
hot_more places [] (x ∷ fast) m h are is = absurd are
hot_more places (y ∷ members) [] m h are is = absurd are
hot_more places (y ∷ members) (x ∷ fast) m h are is = (are.0, hot_more places members fast m h are.1 is)

pub fixed_many : (at : ℕ) (fields : List FieldSpec) → length (fixed_places at fields) ≡ length fields
fixed_many at [] = refl
fixed_many at (f ∷ fields) = ap suc (fixed_many (at + f.len) fields)

not-true : (b : Bool) → not b ≡ true → b ≡ false
not-true true e = sym e
not-true false e = refl

-- where no field varies in length, values stand at the same places in each record
pub fixed_stand : (octets : List ℕ) (at : ℕ) (fields : List FieldSpec) (values : List (List ℕ)) → are_fixed fields ≡ true → at ≤ length octets → IsRecord fields (drop at octets) values
    → Stand octets (fixed_places at fields) values
fixed_stand octets at [] [] all le r = record { are = refl; inside = refl }
fixed_stand octets at [] (v ∷ values) all le r = absurd r
fixed_stand octets at (f ∷ fields) [] all le r = absurd r
fixed_stand octets at (f ∷ fields) (v ∷ values) all le r =
    let parts = and_parts (not (nat_eq f.len 65535)) (are_fixed fields) all in
    let fixed : IsFixed f.len r.0 v = subst (λ b. MatchBool b (IsShortForm r.0 v ⊎ IsLongForm r.0 v) (IsFixed f.len r.0 v)) (not-true (nat_eq f.len 65535) parts.0) r.2 in
    let here : drop at octets ≡ v ++ r.1 = r.4 ∙ ap (λ l. l ++ r.1) fixed.spelled in
    let value : take f.len (drop at octets) ≡ v = ap (λ l. take f.len l) here ∙ ap (λ n. take n (v ++ r.1)) (sym fixed.whole) ∙ take-append_seam v r.1 in
    let next : drop (at + f.len) octets ≡ r.1 = sym (drop-drop f.len at octets) ∙ ap (λ l. drop f.len l) here ∙ ap (λ n. drop n (v ++ r.1)) (sym fixed.whole) ∙ drop-append_seam v r.1 in
    let long : length octets - at ≡ length v + length r.1 = sym (length-drop at octets) ∙ ap length here ∙ length-append v r.1 in
    let whole = fixed.whole in
    let within : at + f.len ≤ length octets = omega arith in
    let rest = fixed_stand octets (at + f.len) fields values parts.1 within (subst (λ (l : List ℕ). IsRecord fields l values) (sym next) r.3) in
    record {
      are = ap₂ (λ (a : List ℕ) b. a ∷ b) value rest.are;
      inside = ap₂ (λ a b. a && b) (le-leb (at + f.len) (length octets) within) rest.inside;
    }

-- a fast line puts the line of each record of its fields
pub hot_way : (fields : List FieldSpec) (members : List Member) (end : List ℕ) (line : HotLine) (places : List ValuePlace) → are_fixed fields ≡ true → places ≡ fixed_places 0 fields
    → list_all (is_within (length places)) members ≡ true → (line.most ≡ 84 * length line.members.items + 64) × (line.end ≡ end) × AreHot places members line.members.items → IsHot fields members end line
hot_way fields members end line places fixed are within h =
    let stand = λ (octets : List ℕ) (values : List (List ℕ)) (r : IsRecord fields octets values). subst (λ (l : List ValuePlace). Stand octets l values) (sym are) (fixed_stand octets 0 fields values fixed (omega arith) r) in
    record {
      most = h.0;
      inside = λ octets values r. hot_inside (length octets) places members line.members.items h.2 (stand octets values r).inside within;
      text = λ octets values r. ap₂ (λ (a b : List ℕ). a ++ b)
          (hot_is octets places members line.members.items h.2 (stand octets values r).inside within ∙ placed_is octets places values members (stand octets values r) within) h.1;
    }

-- and so does the general loop with the places of fixed fields
pub placed_way : (fields : List FieldSpec) (members : List Member) (end : List ℕ) (line : PlacedLine) → are_fixed fields ≡ true → line.places.items ≡ fixed_places 0 fields
    → line.most ≡ most_of_line line.places.items members end → IsPlaced fields members end line
placed_way fields members end line fixed are most = record {
  most = most;
  stand = λ octets values r. subst (λ (l : List ValuePlace). Stand octets l values) (sym are) (fixed_stand octets 0 fields values fixed (omega arith) r);
}
