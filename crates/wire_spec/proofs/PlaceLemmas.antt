-- What stands at the place of a set, or of a template record.
use Rattle.std.proofs.Common.{◌≡◌, ℕ, zero, suc, ◌+◌, List, [], ◌∷◌, ◌++◌, Some, length, take, drop, refl, ap, sym, ◌∙◌, append_assoc, length-append, arith}
use Rattle.std.specs.Prelude.{slice_get}
use Rattle.std.specs.List.{concat}
use Rattle.std.proofs.Math.Seq.{take-append_seam, drop-append_seam}
use Rattle.std.proofs.lemmas.List.{drop-drop}
use Rattle.wire_spec.proofs.OptionLemmas.{some_or_none, same_some}
use Rattle.col_base.specs.declared.base.Kind.{Kind}
use Rattle.wire_spec.specs.Rows.{IsRow}
use Rattle.wire_spec.specs.Message.{IsMessage, IsTemplateRecord, IsPadding}
use Rattle.wire_spec.specs.Places.{set_place, record_place, StandsAt}

-- behind the first item stand the others
behind_first : (first rest end : List ℕ) (k : ℕ) → drop (length first + k) ((first ++ rest) ++ end) ≡ drop k (rest ++ end)
behind_first first rest end k =
    sym (drop-drop k (length first) ((first ++ rest) ++ end))
    ∙ (ap (λ o. drop k (drop (length first) o)) (append_assoc first rest end) ∙ ap (drop k) (drop-append_seam first (rest ++ end)))

-- the n-th of joined items stands behind those before it
joined_at : (items : List (List ℕ)) (n : ℕ) (item end : List ℕ) → slice_get items n ≡ Some item → StandsAt (concat items ++ end) (length (concat (take n items))) item
joined_at [] n item end e = absurd (some_or_none (slice_get {X = List ℕ} [] n) item e refl)
joined_at (x ∷ items) zero item end e =
    let same : x ≡ item = same_some (Some x) x item refl e in
    ap (λ i. take (length i) ((x ++ concat items) ++ end)) (sym same) ∙ (ap (take (length x)) (append_assoc x (concat items) end) ∙ (take-append_seam x (concat items ++ end) ∙ same))
joined_at (x ∷ items) (suc n) item end e =
    let front = concat (take n items) in
    ap (λ k. take (length item) (drop k ((x ++ concat items) ++ end))) (length-append x front)
    ∙ (ap (take (length item)) (behind_first x (concat items) end (length front)) ∙ joined_at items n item end e)

-- so many octets before
stands_behind : (octets item : List ℕ) (count place : ℕ) → StandsAt (drop count octets) place item → StandsAt octets (count + place) item
stands_behind octets item count place s = ap (take (length item)) (sym (drop-drop place count octets)) ∙ s

row_at : (Is Ends : List ℕ → Type 0) (octets : List ℕ) (items : List (List ℕ)) (n : ℕ) (item : List ℕ) → IsRow Is Ends octets items → slice_get items n ≡ Some item
    → StandsAt octets (length (concat (take n items))) item
row_at Is Ends octets items n item r e = ap (λ o. take (length item) (drop (length (concat (take n items))) o)) r.whole ∙ joined_at items n item r.end e

-- Each set of a message stands at its place.
pub set_at : (octets : List ℕ) (sets : List (List ℕ)) (n : ℕ) (set : List ℕ) → IsMessage octets sets → slice_get sets n ≡ Some set → StandsAt octets (set_place sets n) set
set_at octets sets n set m e = stands_behind octets set 16 (length (concat (take n sets))) (row_at _ _ (drop 16 octets) sets n set m.body e)

-- Each template record of a set stands at its place.
pub record_at : (kind : Kind) (set : List ℕ) (records : List (List ℕ)) (n : ℕ) (item : List ℕ) → IsRow (IsTemplateRecord kind) IsPadding (drop 4 set) records
    → slice_get records n ≡ Some item → StandsAt set (record_place records n) item
record_at kind set records n item r e = stands_behind set item 4 (length (concat (take n records))) (row_at _ _ (drop 4 set) records n item r e)

-- The place of the next item is behind this one.
next_front : (items : List (List ℕ)) (n : ℕ) (item : List ℕ) → slice_get items n ≡ Some item → length (concat (take (suc n) items)) ≡ length (concat (take n items)) + length item
next_front [] n item e = absurd (some_or_none (slice_get {X = List ℕ} [] n) item e refl)
next_front (x ∷ items) zero item e =
    let same : length x ≡ length item = ap length (same_some (Some x) x item refl e) in
    let l = length-append x [] in
    omega arith
next_front (x ∷ items) (suc n) item e =
    let rest = next_front items n item e in
    let l = length-append x (concat (take n items)) in
    let m = length-append x (concat (take (suc n) items)) in
    omega arith

pub next_set : (sets : List (List ℕ)) (n : ℕ) (set : List ℕ) → slice_get sets n ≡ Some set → set_place sets (n + 1) ≡ set_place sets n + length set
next_set sets n set e =
    let one : n + 1 ≡ suc n = omega arith in
    let f = next_front sets n set e in
    ap (set_place sets) one ∙ omega arith

pub next_record : (records : List (List ℕ)) (n : ℕ) (item : List ℕ) → slice_get records n ≡ Some item → record_place records (n + 1) ≡ record_place records n + length item
next_record records n item e =
    let one : n + 1 ≡ suc n = omega arith in
    let f = next_front records n item e in
    ap (record_place records) one ∙ omega arith
