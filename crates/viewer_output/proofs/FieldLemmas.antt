-- The fields of a record's line, one by one.
use Rattle.std.proofs.Common.{◌≡◌, ℕ, inl, inr, zero, suc, ◌+◌, ◌<◌, ◌≤◌, List, [], ◌∷◌, ◌++◌, length, get_or, take, refl, ap, sym, ◌∙◌, arith, append_assoc, append-nil, length-take-le, take_all}
use Rattle.std.specs.Prelude.{zip, flat_map, nat_eq}
use Rattle.std.specs.List.{join_by}
use Rattle.std.proofs.lemmas.Grind.{flat_map-append}
use Rattle.std.proofs.lemmas.Bool.{cases_Bool, eqb-true}
use Rattle.wire_spec.specs.declared.field.FieldSpec.{FieldSpec}
use Rattle.text_spec.specs.declared.element.Element.{Element}
use Rattle.text_spec.specs.Marks.{space}
use Rattle.text_spec.specs.View.{field_text}
use Rattle.prepared_lines.specs.Line.{Line}
use Rattle.prepared_lines.specs.Grows.{GrowsBy}
use Rattle.prepared_lines.proofs.GrowLemmas.{grows_none, grows_then, grows_same}
use Rattle.viewer_output.specs.View.{before_field, numbered_text}

-- each field has its value beside it
zip_more : (fields : List FieldSpec) (values : List (List ℕ)) (n : ℕ) (field : FieldSpec) → n < length fields → length values ≡ length fields
    → take (suc n) (zip fields values) ≡ take n (zip fields values) ++ (get_or fields n field, get_or values n []) ∷ []
zip_more [] values n field lt many = absurd (omega arith)
zip_more (f ∷ fields) [] n field lt many = absurd (omega arith)
zip_more (f ∷ fields) (v ∷ values) zero field lt many = refl
zip_more (f ∷ fields) (v ∷ values) (suc n) field lt many = ap (λ l. (f, v) ∷ l) (zip_more fields values n field (omega arith) (omega arith))

zip_long : (fields : List FieldSpec) (values : List (List ℕ)) → length values ≡ length fields → length (zip fields values) ≡ length fields
zip_long [] values many = refl
zip_long (f ∷ fields) [] many = absurd (omega arith)
zip_long (f ∷ fields) (v ∷ values) many = ap suc (zip_long fields values (omega arith))

-- a space stands before each field but the first
later : (n : ℕ) → before_field (suc n) ≡ space
later n = elim (cases_Bool (nat_eq (suc n) 0)) [ inl e ↦ absurd (let bad : suc n ≡ 0 = eqb-true (suc n) 0 e in omega (arith, bad)) | inr e ↦ rw e refl ]

-- one more item of a list that is joined
join_more : (f : FieldSpec × List ℕ → List ℕ) (xs : List (FieldSpec × List ℕ)) (x : FieldSpec × List ℕ) → join_by f space (xs ++ x ∷ []) ≡ join_by f space xs ++ (before_field (length xs) ++ f x)
join_more f [] x = append-nil (f x)
join_more f (y ∷ ys) x =
    let g : FieldSpec × List ℕ → List ℕ = λ z. space ++ f z in
    ap (λ l. f y ++ l) (flat_map-append g ys (x ∷ []) ∙ ap (λ l. flat_map g ys ++ l) (append-nil (g x))) ∙ sym (append_assoc (f y) (flat_map g ys) (g x))
    ∙ ap (λ l. (f y ++ flat_map g ys) ++ (l ++ f x)) (sym (later (length ys)))

-- before the first field
pub fields_none : (table : List Element) (fields : List FieldSpec) (line : Line) → GrowsBy line line (λ values. join_by (field_text table) space (take 0 (zip fields values)))
fields_none table fields line = grows_none line

-- one more field
pub fields_more : (table : List Element) (fields : List FieldSpec) (n : ℕ) (field : FieldSpec) (a b c : Line) → a.fields ≡ fields → n < length fields
    → GrowsBy a b (λ values. join_by (field_text table) space (take n (zip fields values))) → GrowsBy b c (numbered_text table (get_or fields n field) n)
    → GrowsBy a c (λ values. join_by (field_text table) space (take (n + 1) (zip fields values)))
fields_more table fields n field a b c is lt g h =
    let next : suc n ≡ n + 1 = omega arith in
    grows_same a c _ _ (grows_then a b c _ _ g h)
    (λ values many.
    let long : length values ≡ length fields = many ∙ ap length is in
    let front : length (take n (zip fields values)) ≡ n = length-take-le n (zip fields values) (let e = zip_long fields values long in omega (arith, e)) in
    ap (λ k. join_by (field_text table) space (take n (zip fields values)) ++ (before_field k ++ field_text table (get_or fields n field, get_or values n []))) (sym front)
    ∙ sym (ap (join_by (field_text table) space) (zip_more fields values n field lt long) ∙ join_more (field_text table) (take n (zip fields values)) (get_or fields n field, get_or values n []))
    ∙ ap (λ k. join_by (field_text table) space (take k (zip fields values))) next)

-- all fields
pub fields_all : (table : List Element) (fields : List FieldSpec) (n : ℕ) (a b : Line) → a.fields ≡ fields → length fields ≤ n
    → GrowsBy a b (λ values. join_by (field_text table) space (take n (zip fields values))) → GrowsBy a b (λ values. join_by (field_text table) space (zip fields values))
fields_all table fields n a b is all g =
    grows_same a b _ _ g
    (λ values many.
    let long : length (zip fields values) ≡ length fields = zip_long fields values (many ∙ ap length is) in
    ap (join_by (field_text table) space) (take_all n (zip fields values) (omega (arith, long))))
