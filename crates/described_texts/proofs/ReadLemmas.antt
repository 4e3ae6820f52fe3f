-- What came of reading element files.
use Rattle.std.proofs.Common.{◌≡◌, ◌≢◌, ℕ, suc, ◌+◌, ◌<◌, inl, inr, List, [], ◌∷◌, ◌++◌, length, take, drop, get_or, refl, ap, sym, subst, ◌∙◌, add-one, drop-cons, take-suc, take-append-drop}
use Rattle.std.specs.Prelude.{Result, Ok, Err, bytes_eq}
use Rattle.std.proofs.Math.Path.{fun_ext}
use Rattle.std.proofs.lemmas.Bool.{cases_Bool}
use Rattle.std.proofs.lemmas.Slice.Eq.{bytes_eq-Decides}
use Rattle.text_spec.specs.declared.element.Element.{Element}
use Rattle.text_spec.specs.Builtin.{builtin_rows}
use Rattle.element_spec.specs.declared.fault.TableFault.{TableFault}
use Rattle.element_spec.specs.Faults.{and_then}
use Rattle.element_spec.specs.Table.{text_added, texts_added, element_table}
use Rattle.site_io.specs.Seen.{TextSeen}
use Rattle.described_texts.specs.declared.verdict.Refusal.{Refusal}
use Rattle.described_texts.specs.declared.verdict.Refusal.TheVariants as refusal
use Rattle.call_spec.specs.Pairs.{Each}
use Rattle.call_spec.specs.Texts.{IsText, AreTexts, HasTable, Reaches, Breaks}
use Rattle.described_texts.specs.Read.{RefusesFiles, AddsFile}

-- what is left begins with this item
left_begins : {X : Type 0} (items : List X) (i : ℕ) (item : X) → i < length items → item ≡ get_or items i item → drop i items ≡ item ∷ drop (i + 1) items
left_begins items i item lt is = drop-cons items i item lt ∙ (ap (λ x. x ∷ drop (suc i) items) (sym is) ∙ ap (λ j. item ∷ drop j items) (sym (add-one i)))

-- all texts are as they were, where this one is and the others are
pub texts_same : (name : List ℕ) (old new : List ℕ → TextSeen) → new name ≡ old name → ((other : List ℕ) → other ≢ name → new other ≡ old other) → new ≡ old
texts_same name old new here others = fun_ext (λ other. elim (cases_Bool (bytes_eq other name)) [
  | inl same ↦ (let e = (bytes_eq-Decides other name).0 same in subst (λ (n : List ℕ). new n ≡ old n) (sym e) here)
  | inr differs ↦ others other (λ e. absurd (let same = (bytes_eq-Decides other name).1 e in cc))
])

-- one step after another
then_same : (r : Result (List Element) TableFault) (f g : List Element → Result (List Element) TableFault) → ((rows : List Element) → f rows ≡ g rows) → and_then r f ≡ and_then r g
then_same (Err fault) f g same = refl
then_same (Ok rows) f g same = same rows

then_then : (r : Result (List Element) TableFault) (f g : List Element → Result (List Element) TableFault) → and_then (and_then r f) g ≡ and_then r (λ rows. and_then (f rows) g)
then_then (Err fault) f g = refl
then_then (Ok rows) f g = refl

then_last : (r : Result (List Element) TableFault) → and_then r (λ rows. Ok rows) ≡ r
then_last (Err fault) = refl
then_last (Ok rows) = refl

-- one text more is added behind those before it
added_more : (rows : List Element) (all : List (List ℕ)) (octets : List ℕ) → texts_added rows (all ++ octets ∷ []) ≡ and_then (texts_added rows all) (λ longer. text_added longer octets)
added_more rows [] octets = then_last (text_added rows octets)
added_more rows (first ∷ all) octets =
    then_same (text_added rows first) (λ longer. texts_added longer (all ++ octets ∷ [])) (λ longer. and_then (texts_added longer all) (λ last. text_added last octets)) (λ longer. added_more longer all octets)
    ∙ sym (then_then (text_added rows first) (λ longer. texts_added longer all) (λ last. text_added last octets))

table_more : (all : List (List ℕ)) (octets : List ℕ) (rows : List Element) → element_table all ≡ Ok rows → element_table (all ++ octets ∷ []) ≡ text_added rows octets
unfolding element_table
table_more all octets rows is = added_more builtin_rows all octets ∙ ap (λ (r : Result (List Element) TableFault). and_then r (λ longer. text_added longer octets)) is

texts_from : (text : List ℕ → TextSeen) (n : ℕ) (names : List (List ℕ)) (name : List ℕ) (all : List (List ℕ)) (octets : List ℕ) → Each (λ _ x o. IsText text x o) n names all → IsText text name octets
    → Each (λ _ x o. IsText text x o) n (names ++ name ∷ []) (all ++ octets ∷ [])
texts_from text n [] name [] octets are is = (is, tt)
texts_from text n [] name (o ∷ all) octets are is = absurd are
texts_from text n (x ∷ names) name [] octets are is = absurd are
texts_from text n (x ∷ names) name (o ∷ all) octets are is = (are.0, texts_from text (suc n) names name all octets are.1 is)

texts_more : (text : List ℕ → TextSeen) (names : List (List ℕ)) (name : List ℕ) (all : List (List ℕ)) (octets : List ℕ) → AreTexts text names all → IsText text name octets → AreTexts text (names ++ name ∷ []) (all ++ octets ∷ [])
texts_more text names name all octets are is = texts_from text 0 names name all octets are is

-- no element file was read yet
pub files_first : (text : List ℕ → TextSeen) (rows : List Element) → rows ≡ builtin_rows → HasTable text [] rows
unfolding element_table
files_first text rows is = ([], tt, ap (λ (r : List Element). Ok r) (sym is))

-- one element file further
pub files_further : (old mid : List ℕ → TextSeen) (names : List (List ℕ)) (i : ℕ) (name : List ℕ) (rows now : List Element) → i < length names → name ≡ get_or names i name → mid ≡ old → HasTable old (take i names) rows
    → AddsFile mid name rows now (Ok tt) → HasTable old (take (i + 1) names) now
files_further old mid names i name rows now lt is same has adds =
    let added : AddsFile old name rows now (Ok tt) = subst (λ (text : List ℕ → TextSeen). AddsFile text name rows now (Ok tt)) same adds in
    let front : take i names ++ name ∷ [] ≡ take (i + 1) names =
    ap (λ n. take i names ++ n ∷ []) is ∙ (sym (take-suc names i name lt) ∙ ap (λ j. take j names) (sym (add-one i))) in
    subst (λ (l : List (List ℕ)). HasTable old l now) front (has.0 ++ added.0 ∷ [], texts_more old (take i names) name has.0 added.0 has.1 added.1, table_more has.0 added.0 rows has.2 ∙ added.2)

-- what stands before and behind it
begins : (names : List (List ℕ)) (i : ℕ) (name : List ℕ) → i < length names → name ≡ get_or names i name → names ≡ take i names ++ name ∷ drop (i + 1) names
begins names i name lt is = sym (take-append-drop i names) ∙ ap (λ l. take i names ++ l) (left_begins names i name lt is)

-- an element file that is refused
pub files_refused : (old mid : List ℕ → TextSeen) (names : List (List ℕ)) (i : ℕ) (name : List ℕ) (rows now : List Element) (r : Refusal) → i < length names → name ≡ get_or names i name → mid ≡ old → HasTable old (take i names) rows
    → AddsFile mid name rows now (Err r) → RefusesFiles old names r
files_refused old mid names i name rows now (refusal.NoText n) lt is same has adds =
    subst (λ (x : List ℕ). Reaches old names x) (sym adds) (record { before = take i names; after = drop (i + 1) names; whole = begins names i name lt is; rows = rows; table = has })
files_refused old mid names i name rows now (refusal.BadDescription fault) lt is same has adds = absurd adds
files_refused old mid names i name rows now (refusal.BadElements n fault) lt is same has adds =
    let added : AddsFile old name rows now (Err (refusal.BadElements n fault)) = subst (λ (text : List ℕ → TextSeen). AddsFile text name rows now (Err (refusal.BadElements n fault))) same adds in
    subst (λ (x : List ℕ). Breaks old names x fault) (sym added.0) (record {
      before = take i names;
      after = drop (i + 1) names;
      whole = begins names i name lt is;
      all = has.0;
      last = added.1.0;
      are = has.1;
      is = added.1.1;
      rows = rows;
      table = has.2;
      broken = table_more has.0 added.1.0 rows has.2 ∙ added.1.2;
    })
files_refused old mid names i name rows now refusal.Memory lt is same has adds = tt
