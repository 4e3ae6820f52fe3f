-- The values of an element, by its first field and the fields behind that.
use Rattle.std.proofs.Common.{◌≡◌, ℕ, zero, suc, ◌+◌, ◌<◌, ◌≤◌, Bool, true, false, not, ◌&&◌, ◌||◌, cond, List, [], ◌∷◌, ◌++◌, length, take, drop, get_or, map, refl, ap, ap₂, sym, ◌∙◌, arith, append_assoc, append-nil, drop-cons}
use Rattle.std.specs.Prelude.{filter, zip, if◌then◌else◌}
use Rattle.std.specs.List.{list_any, flat_map}
use Rattle.std.proofs.lemmas.List.{take_more, drop_all}
use Rattle.std.proofs.lemmas.List.Elements.{filter-append}
use Rattle.std.proofs.lemmas.Grind.{flat_map-append}
use Rattle.wire_spec.specs.declared.field.FieldSpec.{FieldSpec}
use Rattle.text_spec.specs.Fields.{Pair, pair_of, is_of, is_padding, different, printed_pairs, values_at}
use Rattle.wire_spec.specs.Content.{Definition}
use Rattle.text_spec.specs.declared.element.Element.{Element}
use Rattle.text_spec.specs.Json.{values_text, json_line, line_start, member_by}
use Rattle.text_spec.specs.Json as Json
use Rattle.prepared_lines.specs.Line.{Line, line_text}
use Rattle.prepared_lines.specs.Grows.{GrowsBy}
use Rattle.prepared_lines.proofs.GrowLemmas.{grows_then}
use Rattle.json_output.specs.Printed.{IsJson}
use Rattle.text_spec.specs.Marks.{comma, list_start, list_end, line_end}
use Rattle.text_spec.proofs.DifferentLemmas.{is_pair-refl, different_grow}

abbrev pub Values : Type 0
Values = List (List ℕ)

pub or_none : (a b : Bool) → (a || b) ≡ false → (a ≡ false) × (b ≡ false)
or_none true b e = absurd (cc)
or_none false b e = (refl, e)

-- what the first field adds to the values of an element
kept_at : (pair : Pair) (f : FieldSpec) (v : List ℕ) (items : List (FieldSpec × List ℕ)) (b : Bool) → is_of pair f ≡ b → values_at pair ((f, v) ∷ items) ≡ cond b (v ∷ values_at pair items) (values_at pair items)
kept_at pair f v items true e = ap (λ b. map (λ item. item.1) (cond b ((f, v) ∷ filter (λ item. is_of pair item.0) items) (filter (λ item. is_of pair item.0) items))) e
kept_at pair f v items false e = ap (λ b. map (λ item. item.1) (cond b ((f, v) ∷ filter (λ item. is_of pair item.0) items) (filter (λ item. is_of pair item.0) items))) e

-- fields of other elements in front have no value of it
pub front_none : (pair : Pair) (i : ℕ) (fields : List FieldSpec) (values : Values) → i ≤ length fields → length values ≡ length fields → list_any (is_of pair) (take i fields) ≡ false
    → values_at pair (zip fields values) ≡ values_at pair (zip (drop i fields) (drop i values))
front_none pair zero fields values le many none = refl
front_none pair (suc i) [] values le many none = absurd (omega arith)
front_none pair (suc i) (f ∷ fields) [] le many none = absurd (omega arith)
front_none pair (suc i) (f ∷ fields) (v ∷ values) le many none =
    let parts = or_none (is_of pair f) (list_any (is_of pair) (take i fields)) none in
    kept_at pair f v (zip fields values) false parts.0 ∙ front_none pair i fields values (omega arith) (omega arith) parts.1

-- the fields from a place on are the one there, and those behind it
from_place : (fields : List FieldSpec) (values : Values) (at : ℕ) (d : FieldSpec) → at < length fields → length values ≡ length fields
    → zip (drop at fields) (drop at values) ≡ (get_or fields at d, get_or values at []) ∷ zip (drop (at + 1) fields) (drop (at + 1) values)
from_place fields values at d lt many =
    let fs : drop at fields ≡ get_or fields at d ∷ drop (at + 1) fields = drop-cons fields at d lt ∙ ap (λ n. get_or fields at d ∷ drop n fields) (let e : suc at ≡ at + 1 = omega arith in e) in
    let vs : drop at values ≡ get_or values at [] ∷ drop (at + 1) values = drop-cons values at [] (omega arith) ∙ ap (λ n. get_or values at [] ∷ drop n values) (let e : suc at ≡ at + 1 = omega arith in e) in
    ap₂ (λ (a : List FieldSpec) (b : Values). zip a b) fs vs

-- the value of the first field, and those of the others
pub own_values : (fields : List FieldSpec) (values : Values) (at : ℕ) (field : FieldSpec) → field ≡ get_or fields at field → at < length fields → length values ≡ length fields
    → list_any (is_of (pair_of field)) (take at fields) ≡ false
    → values_at (pair_of field) (zip fields values) ≡ get_or values at [] ∷ values_at (pair_of field) (zip (drop (at + 1) fields) (drop (at + 1) values))
own_values fields values at field is lt many first =
    let here : values_at (pair_of field) (zip (drop at fields) (drop at values)) ≡ values_at (pair_of field) ((field, get_or values at []) ∷ zip (drop (at + 1) fields) (drop (at + 1) values)) =
    ap (values_at (pair_of field)) (from_place fields values at field lt many)
    ∙ ap (λ (f : FieldSpec). values_at (pair_of field) ((f, get_or values at []) ∷ zip (drop (at + 1) fields) (drop (at + 1) values))) (sym is) in
    front_none (pair_of field) at fields values (omega arith) many first ∙ here
    ∙ kept_at (pair_of field) field (get_or values at []) (zip (drop (at + 1) fields) (drop (at + 1) values)) true (is_pair-refl (pair_of field))

-- no other field is of the element
pub none_left : (pair : Pair) (fields : List FieldSpec) (values : Values) → list_any (is_of pair) fields ≡ false → values_at pair (zip fields values) ≡ []
none_left pair [] values none = refl
none_left pair (f ∷ fields) [] none = refl
none_left pair (f ∷ fields) (v ∷ values) none =
    let parts = or_none (is_of pair f) (list_any (is_of pair) fields) none in
    kept_at pair f v (zip fields values) false parts.0 ∙ none_left pair fields values parts.1

no_front : (v : List ℕ) (rest : Values) → v ∷ rest ≡ [] → ⊥
no_front v rest e = cc

some_first : (pair : Pair) (f : FieldSpec) (v : List ℕ) (fields : List FieldSpec) (values : Values) (b : Bool) → is_of pair f ≡ b → (is_of pair f ≡ false → values_at pair (zip fields values) ≡ [] → ⊥)
    → values_at pair ((f, v) ∷ zip fields values) ≡ [] → ⊥
some_first pair f v fields values true is rest e = no_front v (values_at pair (zip fields values)) (sym (kept_at pair f v (zip fields values) true is) ∙ e)
some_first pair f v fields values false is rest e = rest is (sym (kept_at pair f v (zip fields values) false is) ∙ e)

-- one is
some_left : (pair : Pair) (fields : List FieldSpec) (values : Values) → length values ≡ length fields → list_any (is_of pair) fields ≡ true → values_at pair (zip fields values) ≡ [] → ⊥
some_left pair [] values many some e = absurd cc
some_left pair (f ∷ fields) [] many some e = absurd (omega arith)
some_left pair (f ∷ fields) (v ∷ values) many some e = some_first pair f v fields values (is_of pair f) refl (λ is. some_left pair fields values (omega arith) (sym (ap (λ b. b || list_any (is_of pair) fields) is) ∙ some)) e

-- the text of a value that is the only one
pub one_text : (text : List ℕ → List ℕ) (fields : List FieldSpec) (values : Values) (at : ℕ) (field : FieldSpec) → field ≡ get_or fields at field → at < length fields → length values ≡ length fields
    → list_any (is_of (pair_of field)) (take at fields) ≡ false → list_any (is_of (pair_of field)) (drop (at + 1) fields) ≡ false
    → text (get_or values at []) ≡ values_text text (values_at (pair_of field) (zip fields values))
one_text text fields values at field is lt many first last =
    sym (ap (values_text text) (own_values fields values at field is lt many first ∙ ap (λ (l : Values). get_or values at [] ∷ l) (none_left (pair_of field) (drop (at + 1) fields) (drop (at + 1) values) last)))

list_of : (text : List ℕ → List ℕ) (v : List ℕ) (rest : Values) → (rest ≡ [] → ⊥) → list_start ++ (text v ++ flat_map (λ value. comma ++ text value) rest) ++ list_end ≡ values_text text (v ∷ rest)
list_of text v [] some = absurd (some refl)
list_of text v (w ∷ rest) some = refl

pub many_left : (values : Values) (fields : List FieldSpec) (n : ℕ) → length values ≡ length fields → length (drop n values) ≡ length (drop n fields)
many_left values fields zero e = e
many_left [] [] (suc n) e = refl
many_left [] (f ∷ fields) (suc n) e = absurd (omega arith)
many_left (v ∷ values) [] (suc n) e = absurd (omega arith)
many_left (v ∷ values) (f ∷ fields) (suc n) e = many_left values fields n (omega arith)

-- the texts of two or more
pub list_text : (text : List ℕ → List ℕ) (fields : List FieldSpec) (values : Values) (at : ℕ) (field : FieldSpec) → field ≡ get_or fields at field → at < length fields → length values ≡ length fields
    → list_any (is_of (pair_of field)) (take at fields) ≡ false → list_any (is_of (pair_of field)) (drop (at + 1) fields) ≡ true
    → list_start ++ (text (get_or values at []) ++ flat_map (λ value. comma ++ text value) (values_at (pair_of field) (zip (drop (at + 1) fields) (drop (at + 1) values)))) ++ list_end
    ≡ values_text text (values_at (pair_of field) (zip fields values))
list_text text fields values at field is lt many first more =
    list_of text (get_or values at []) (values_at (pair_of field) (zip (drop (at + 1) fields) (drop (at + 1) values)))
    (some_left (pair_of field) (drop (at + 1) fields) (drop (at + 1) values) (many_left values fields (at + 1) many) more)
    ∙ ap (values_text text) (sym (own_values fields values at field is lt many first))

-- a field more: its value, if it is of the element
flat_if : (g : List ℕ → List ℕ) (v : List ℕ) (rest : Values) (b : Bool) → flat_map g (cond b (v ∷ rest) rest) ≡ (if b then g v else []) ++ flat_map g rest
flat_if g v rest true = refl
flat_if g v rest false = refl

pub other_text : (g : List ℕ → List ℕ) (pair : Pair) (fields : List FieldSpec) (values : Values) (at : ℕ) (d : FieldSpec) → at < length fields → length values ≡ length fields
    → flat_map g (values_at pair (zip (drop at fields) (drop at values)))
    ≡ (if is_of pair (get_or fields at d) then g (get_or values at []) else []) ++ flat_map g (values_at pair (zip (drop (at + 1) fields) (drop (at + 1) values)))
other_text g pair fields values at d lt many =
    ap (λ (l : List (FieldSpec × List ℕ)). flat_map g (values_at pair l)) (from_place fields values at d lt many)
    ∙ ap (flat_map g) (kept_at pair (get_or fields at d) (get_or values at []) (zip (drop (at + 1) fields) (drop (at + 1) values)) (is_of pair (get_or fields at d)) refl)
    ∙ flat_if g (get_or values at []) (values_at pair (zip (drop (at + 1) fields) (drop (at + 1) values))) (is_of pair (get_or fields at d))

-- a field more: its element, if that is printed and new
printed_if : (p : Pair) (seen padding : Bool) → is_padding p ≡ padding → filter (λ o. not (is_padding o)) (if seen then [] else p ∷ []) ≡ (if not padding && not seen then p ∷ [] else [])
printed_if p true true e = refl
printed_if p true false e = refl
printed_if p false true e = rw e refl
printed_if p false false e = rw e refl

flat_one : (g : Pair → List ℕ) (p : Pair) (b : Bool) → flat_map g (if b then p ∷ [] else []) ≡ (if b then g p else [])
flat_one g p true = append-nil (g p)
flat_one g p false = refl

pub member_text : (g : Pair → List ℕ) (fields : List FieldSpec) (at : ℕ) (d : FieldSpec) → at < length fields
    → flat_map g (printed_pairs (take at fields)) ++ (if not (is_padding (pair_of (get_or fields at d))) && not (list_any (is_of (pair_of (get_or fields at d))) (take at fields)) then g (pair_of (get_or fields at d)) else [])
    ≡ flat_map g (printed_pairs (take (at + 1) fields))
member_text g fields at d lt =
    let before : List FieldSpec = take at fields in
    let field : FieldSpec = get_or fields at d in
    let keep : Pair → Bool = λ o. not (is_padding o) in
    let p : Pair = pair_of field in
    let seen = list_any (is_of p) before in
    let one : take (at + 1) fields ≡ before ++ field ∷ [] = take_more fields at d lt in
    let grown : printed_pairs (take (at + 1) fields) ≡ printed_pairs before ++ (if not (is_padding p) && not seen then p ∷ [] else []) =
    ap printed_pairs one ∙ ap (filter keep) (different_grow before field) ∙ filter-append keep (different before) (if seen then [] else p ∷ [])
    ∙ ap (λ (l : List Pair). printed_pairs before ++ l) (printed_if p seen (is_padding p) refl) in
    sym (ap (flat_map g) grown ∙ flat_map-append g (printed_pairs before) (if not (is_padding p) && not seen then p ∷ [] else [])
    ∙ ap (λ l. flat_map g (printed_pairs before) ++ l) (flat_one g p (not (is_padding p) && not seen)))

-- What the loop over the other fields of an element keeps: what was put so far and what is left are all.
pub record HaveOthers (g : List ℕ → List ℕ) (pair : Pair) (fields : List FieldSpec) (from at : ℕ) (start now : Line) : Type 0 where
  pub same : now.fields ≡ start.fields
  pub grown : (values : List (List ℕ)) → length values ≡ length fields
      → line_text now values ++ flat_map g (values_at pair (zip (drop at fields) (drop at values))) ≡ line_text start values ++ flat_map g (values_at pair (zip (drop from fields) (drop from values)))

pub others_none : (g : List ℕ → List ℕ) (pair : Pair) (fields : List FieldSpec) (from : ℕ) (start : Line) → HaveOthers g pair fields from from start start
others_none g pair fields from start = record { same = refl; grown = λ values many. refl }

pub others_more : (g : List ℕ → List ℕ) (pair : Pair) (fields : List FieldSpec) (from at : ℕ) (start now new : Line) (d : FieldSpec) → at < length fields → start.fields ≡ fields
    → HaveOthers g pair fields from at start now → GrowsBy now new (λ values. if is_of pair (get_or fields at d) then g (get_or values at []) else []) → HaveOthers g pair fields from (at + 1) start new
others_more g pair fields from at start now new d lt are h grows = record {
  same = grows.fields ∙ h.same;
  grown = λ values many. (
      let here : List ℕ = if is_of pair (get_or fields at d) then g (get_or values at []) else [] in
      let rest : List ℕ = flat_map g (values_at pair (zip (drop (at + 1) fields) (drop (at + 1) values))) in
      ap (λ l. l ++ rest) (grows.grown values (many ∙ ap length (sym (h.same ∙ are)))) ∙ (append_assoc (line_text now values) here rest
      ∙ (ap (λ l. line_text now values ++ l) (sym (other_text g pair fields values at d lt many)) ∙ h.grown values many)));
}

pub others_all : (g : List ℕ → List ℕ) (pair : Pair) (fields : List FieldSpec) (from at : ℕ) (start now : Line) → length fields ≤ at → start.fields ≡ fields → HaveOthers g pair fields from at start now
    → GrowsBy start now (λ values. flat_map g (values_at pair (zip (drop from fields) (drop from values))))
others_all g pair fields from at start now le are h = record {
  fields = h.same;
  grown = λ values many. (
      let none : drop at fields ≡ [] = drop_all at fields le in
      let same : length values ≡ length fields = many ∙ ap length are in
      sym (ap (λ (l : List FieldSpec). line_text now values ++ flat_map g (values_at pair (zip l (drop at values)))) none ∙ append-nil (line_text now values)) ∙ h.grown values same);
}

-- What is put of a definition is its line.
pub json_is : (table : List Element) (def : Definition) (fields : List FieldSpec) (empty a b c : Line) → fields ≡ def.fields → empty ≡ record { fields = fields; members = []; end = [] }
    → GrowsBy empty a (λ _. line_start def.kind) → GrowsBy a b (λ values. flat_map (member_by (Json.text_at table) table (zip fields values)) (printed_pairs fields)) → GrowsBy b c (λ _. line_end) → IsJson table def c
unfolding json_line
json_is table def fields empty a b c are is start members end =
    let all = grows_then empty b c _ _ (grows_then empty a b _ _ start members) end in
    let empty_fields : empty.fields ≡ fields = ap (λ (l : Line). l.fields) is in
    record {
      fields = all.fields ∙ empty_fields ∙ are;
      text = λ values many. (
          all.grown values (many ∙ ap length (sym (empty_fields ∙ are)))
          ∙ (ap (λ (l : Line). line_text l values ++ (line_start def.kind ++ flat_map (member_by (Json.text_at table) table (zip fields values)) (printed_pairs fields) ++ line_end)) is
          ∙ ap (λ (l : List FieldSpec). line_start def.kind ++ flat_map (member_by (Json.text_at table) table (zip l values)) (printed_pairs l) ++ line_end) are));
    }
