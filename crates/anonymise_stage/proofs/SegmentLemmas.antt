-- Over a segment the row that decides at its start decides.
use Rattle.std.proofs.Common.{◌≡◌, ℕ, zero, suc, ◌+◌, ◌-◌, ◌^◌, ◌<◌, ◌≤◌, inl, inr, Bool, true, false, ◌&&◌, cond, List, [], ◌∷◌, Some, None, length, get_or, take, map, refl, ap, sym, subst, ◌∙◌, arith}
use Rattle.std.specs.Prelude.{◌==◌, nat_le, fold, Option, option_map, IfSome}
use Rattle.std.specs.List.{AllByRecursion, list_any}
use Rattle.std.specs.List.Sorted.{IsNonDecreasingBy, IsPermutation}
use Rattle.std.proofs.lemmas.Bool.{le-leb, lt-leb, eq-eqb, eqb-true, cases_lt, or_left, or_right, or_cases, and_left, and_right, and_parts}
use Rattle.std.proofs.lemmas.List.{take_more, get_or-map, length-map}
use Rattle.std.proofs.lemmas.List.Elements.{All-from_recursion}
use Rattle.std.proofs.lemmas.List.Sums.{fold-append}
use Rattle.std.proofs.lemmas.List.Sorted.{list_any-IsPermutation}
use Rattle.text_spec.specs.Number.{number_of}
use Rattle.config_spec.specs.declared.tables.AnonRow.{AnonRow}
use Rattle.act_spec.specs.Bits.{agrees}
use Rattle.act_spec.specs.Anonymise.{is_better, better_of, best_row}
use Rattle.anonymise_stage.specs.declared.prepared_row.PreparedRow.{PreparedRow}
use Rattle.anonymise_stage.specs.declared.segment.Segment.{Segment}
use Rattle.anonymise_stage.specs.Ranges.{are_octets, low_of}
use Rattle.anonymise_stage.specs.Segments.{row_of, covers_at, has_more, better_at, best_at, row_at, after, bounds_of, start_of, Decides, AreSegments}
use Rattle.anonymise_stage.proofs.RangeLemmas.{agree_covers}

-- One row more.
best_more : (octets number : ℕ) (rows : List PreparedRow) (i : ℕ) (d : PreparedRow) → i < length rows
    → best_at octets number (take (i + 1) rows) ≡ better_at octets number (best_at octets number (take i rows)) (get_or rows i d)
best_more octets number rows i d lt =
    ap (best_at octets number) (take_more rows i d lt) ∙ fold-append (better_at octets number) None (take i rows) (get_or rows i d ∷ [])

row_there : (rows : List PreparedRow) (i : ℕ) (d : PreparedRow) → i < length rows → row_at rows (Some i) ≡ Some (get_or rows i d)
row_there [] i d lt = absurd (omega arith)
row_there (r ∷ rows) zero d lt = refl
row_there (r ∷ rows) (suc i) d lt = row_there rows i d (omega arith)

abbrev Better : ℕ → ℕ → Option PreparedRow → PreparedRow → Bool
Better octets number found r = covers_at octets number r && has_more found r

pub better_found : (octets number : ℕ) (rows : List PreparedRow) (i : ℕ) (d : PreparedRow) (found : Option ℕ) → i < length rows → row_at rows found ≡ best_at octets number (take i rows)
    → Better octets number (row_at rows found) (get_or rows i d) ≡ true → row_at rows (Some i) ≡ best_at octets number (take (i + 1) rows)
better_found octets number rows i d found lt e b =
    let r = get_or rows i d in
    row_there rows i d lt
    ∙ sym (best_more octets number rows i d lt ∙ (ap (λ (o : Option PreparedRow). better_at octets number o r) (sym e) ∙ ap (λ t. cond t (Some r) (row_at rows found)) b))

pub no_better : (octets number : ℕ) (rows : List PreparedRow) (i : ℕ) (d : PreparedRow) (found : Option ℕ) → i < length rows → row_at rows found ≡ best_at octets number (take i rows)
    → Better octets number (row_at rows found) (get_or rows i d) ≡ false → row_at rows found ≡ best_at octets number (take (i + 1) rows)
no_better octets number rows i d found lt e b =
    let r = get_or rows i d in
    sym (best_more octets number rows i d lt ∙ (ap (λ (o : Option PreparedRow). better_at octets number o r) (sym e) ∙ ap (λ t. cond t (Some r) (row_at rows found)) b))

-- Numbers of whom no start parts them: of each start, both lie before it or both behind it.
abbrev pub Together : List ℕ → ℕ → ℕ → Type 0
Together starts a b = (t : ℕ) → list_any (λ s. s == t) starts ≡ true → t ≤ b → t ≤ a

-- Where no bound of a row parts two numbers, it covers both or neither.
same_cover : (octets a b : ℕ) (r : PreparedRow) → a ≤ b → b < 2 ^ 128 → (r.low ≤ b → r.low ≤ a) → (after r.high ≤ b → after r.high ≤ a) → covers_at octets b r ≡ covers_at octets a r
same_cover octets a b r le small f g = ap (λ t. octets == length r.row.from.octets && t) (pairs r.low r.high f g)
  where
    pairs : (low high : ℕ) → (low ≤ b → low ≤ a) → (after high ≤ b → after high ≤ a) → (nat_le low b && nat_le b high) ≡ (nat_le low a && nat_le a high)
    pairs low high f g =
        elim (cases_lt b low) [
          | inl lt ↦ rw (lt-leb low b lt, lt-leb low a (omega arith)) refl
          | inr has ↦ elim (cases_lt high b) [
            | inl more ↦ (let z : after high ≤ a = g (omega arith) in rw (le-leb low b has, le-leb low a (f has), lt-leb b high more, lt-leb a high (omega arith)) refl)
            | inr most ↦ rw (le-leb low b has, le-leb low a (f has), le-leb b high most, le-leb a high (omega arith)) refl
          ]
        ]

abbrev Cut : ℕ → PreparedRow → List PreparedRow → Bool → List ℕ
Cut octets r rows t = cond t (r.low ∷ after r.high ∷ bounds_of octets rows) (bounds_of octets rows)

cover_together : (octets a b : ℕ) (r : PreparedRow) (rows : List PreparedRow) → a ≤ b → b < 2 ^ 128 → (t : Bool) → (octets == length r.row.from.octets) ≡ t → Together (Cut octets r rows t) a b
    → covers_at octets b r ≡ covers_at octets a r
cover_together octets a b r rows le small true e h =
    same_cover octets a b r le small (h r.low (or_left (r.low == r.low) _ (eq-eqb r.low r.low refl)))
    (h (after r.high) (or_right (r.low == after r.high) _ (or_left (after r.high == after r.high) _ (eq-eqb (after r.high) (after r.high) refl))))
cover_together octets a b r rows le small false e h = and_left _ _ e ∙ sym (and_left _ _ e)

rest_together : (octets a b : ℕ) (r : PreparedRow) (rows : List PreparedRow) → (t : Bool) → Together (Cut octets r rows t) a b → Together (bounds_of octets rows) a b
rest_together octets a b r rows true h = λ s e. h s (or_right (r.low == s) _ (or_right (after r.high == s) _ e))
rest_together octets a b r rows false h = h

-- Then the same row decides.
same_best : (octets a b : ℕ) (rows : List PreparedRow) (found : Option PreparedRow) → a ≤ b → b < 2 ^ 128 → Together (bounds_of octets rows) a b
    → fold (better_at octets b) found rows ≡ fold (better_at octets a) found rows
same_best octets a b [] found le small h = refl
same_best octets a b (r ∷ rows) found le small h =
    let t = octets == length r.row.from.octets in
    ap (λ (o : Option PreparedRow). fold (better_at octets b) o rows) (ap (λ c. cond (c && has_more found r) (Some r) found) (cover_together octets a b r rows le small t refl h))
    ∙ same_best octets a b rows (better_at octets a found r) le small (rest_together octets a b r rows t h)

-- A row decides as its copy does.
abbrev As : Option PreparedRow → Option AnonRow
As found = option_map row_of found

same_more : (found : Option PreparedRow) (r : PreparedRow) → has_more found r ≡ is_better (As found) r.row
same_more None r = refl
same_more (Some f) r = refl

same_cond : (b : Bool) (r : PreparedRow) (found : Option PreparedRow) → As (cond b (Some r) found) ≡ cond b (Some r.row) (As found)
same_cond true r found = refl
same_cond false r found = refl

same_agree : (value : List ℕ) (r : PreparedRow) → are_octets value ≡ true → covers_at (length value) (number_of value) r ≡ agrees r.row.from value
same_agree value r o =
    ap (λ l. length value == length r.row.from.octets && (nat_le l (number_of value) && nat_le (number_of value) r.high)) r.first
    ∙ (ap (λ h. length value == length r.row.from.octets && (nat_le (low_of r.row) (number_of value) && nat_le (number_of value) h)) r.last ∙ sym (agree_covers r.row value r.octets o))

copies_decide : (value : List ℕ) (rows : List PreparedRow) (found : Option PreparedRow) → are_octets value ≡ true
    → As (fold (better_at (length value) (number_of value)) found rows) ≡ fold (better_of value) (As found) (map row_of rows)
copies_decide value [] found o = refl
copies_decide value (r ∷ rows) found o =
    copies_decide value rows (better_at (length value) (number_of value) found r) o
    ∙ ap (λ (f : Option AnonRow). fold (better_of value) f (map row_of rows))
    (same_cond (covers_at (length value) (number_of value) r && has_more found r) r found
    ∙ (ap (λ b. cond (b && has_more found r) (Some r.row) (As found)) (same_agree value r o) ∙ ap (λ b. cond (agrees r.row.from value && b) (Some r.row) (As found)) (same_more found r)))

-- The row that decides over an address by its number is the best row.
pub best_is : (value : List ℕ) (rows : List PreparedRow) → are_octets value ≡ true → As (best_at (length value) (number_of value) rows) ≡ best_row (map row_of rows) value
best_is value rows o = copies_decide value rows None o

-- No row covers a number before all starts.
abbrev AllAbove : List ℕ → ℕ → Type 0
AllAbove starts b = (t : ℕ) → list_any (λ s. s == t) starts ≡ true → b < t

not_covered : (octets b : ℕ) (r : PreparedRow) (rows : List PreparedRow) → (t : Bool) → (octets == length r.row.from.octets) ≡ t → AllAbove (Cut octets r rows t) b → covers_at octets b r ≡ false
not_covered octets b r rows true e h =
    and_right _ _ (and_left _ (nat_le b r.high) (lt-leb r.low b (h r.low (or_left (r.low == r.low) _ (eq-eqb r.low r.low refl)))))
not_covered octets b r rows false e h = and_left _ _ e

rest_above : (octets b : ℕ) (r : PreparedRow) (rows : List PreparedRow) → (t : Bool) → AllAbove (Cut octets r rows t) b → AllAbove (bounds_of octets rows) b
rest_above octets b r rows true h = λ s e. h s (or_right (r.low == s) _ (or_right (after r.high == s) _ e))
rest_above octets b r rows false h = h

none_before : (octets b : ℕ) (rows : List PreparedRow) → AllAbove (bounds_of octets rows) b → best_at octets b rows ≡ None
none_before octets b [] h = refl
none_before octets b (r ∷ rows) h =
    let t = octets == length r.row.from.octets in
    ap (λ (o : Option PreparedRow). fold (better_at octets b) o rows) (ap (λ c. cond (c && true) (Some r) None) (not_covered octets b r rows t refl h))
    ∙ none_before octets b rows (rest_above octets b r rows t h)

-- Sorted starts.
pub are_segments : (octets : ℕ) (rows : List PreparedRow) (starts : List ℕ) (segments : List Segment) → IsPermutation (bounds_of octets rows) starts → IsNonDecreasingBy (λ (n : ℕ). n) starts
    → map start_of segments ≡ starts → AllByRecursion (Decides octets rows) segments → AreSegments octets rows segments
are_segments octets rows starts segments p up e each = record {
  bounds = subst (IsPermutation (bounds_of octets rows)) (sym e) p;
  sorted = λ i j d le lt.
      (let l = length-map segments start_of in
      let m = ap length e in
      let a : get_or starts i (start_of d) ≡ (get_or segments i d).start = ap (λ xs. get_or xs i (start_of d)) (sym e) ∙ get_or-map start_of segments i d (start_of d) (omega arith) in
      let b : get_or starts j (start_of d) ≡ (get_or segments j d).start = ap (λ xs. get_or xs j (start_of d)) (sym e) ∙ get_or-map start_of segments j d (start_of d) lt in
      let u = up i j (start_of d) le (omega arith) in
      omega arith);
  each = each;
}

-- a number that stands somewhere
any_place : (xs : List ℕ) (t : ℕ) → list_any (λ s. s == t) xs ≡ true → (k : ℕ) × (k < length xs) × ((d : ℕ) → get_or xs k d ≡ t)
any_place [] t e = absurd cc
any_place (x ∷ xs) t e =
    elim (or_cases (x == t) (list_any (λ s. s == t) xs) e) [
      | inl f ↦ (0, omega arith, λ d. eqb-true x t f)
      | inr f ↦ (let p = any_place xs t f in let lt = p.1 in (suc p.0, omega arith, p.2))
    ]

start_place : (octets : ℕ) (rows : List PreparedRow) (segments : List Segment) (d : Segment) (t : ℕ) → AreSegments octets rows segments → list_any (λ s. s == t) (bounds_of octets rows) ≡ true
    → (k : ℕ) × (k < length segments) × ((get_or segments k d).start ≡ t)
start_place octets rows segments d t are e =
    let p = any_place (map start_of segments) t (sym (list_any-IsPermutation (λ s. s == t) (bounds_of octets rows) (map start_of segments) are.bounds) ∙ e) in
    let l = length-map segments start_of in
    let lt = p.1 in
    let inside : p.0 < length segments = omega arith in
    (p.0, inside, sym (get_or-map start_of segments p.0 d (start_of d) inside) ∙ p.2 (start_of d))

-- how many segments begin at a number or before
pub record IsBehind (segments : List Segment) (number behind : ℕ) : Type 0 where
  pub bound : behind ≤ length segments
  pub before : (k : ℕ) (d : Segment) → k < behind → (get_or segments k d).start ≤ number
  pub after : (k : ℕ) (d : Segment) → behind ≤ k → k < length segments → number < (get_or segments k d).start

-- The last segment that begins at a number or before has the row that decides.
pub last_decides : (octets : ℕ) (rows : List PreparedRow) (segments : List Segment) (number behind : ℕ) (d : Segment) → AreSegments octets rows segments → IsBehind segments number behind → number < 2 ^ 128
    → 0 < behind → row_at rows (get_or segments (behind - 1) d).found ≡ best_at octets number rows
last_decides octets rows segments number behind d are b small some =
    let bound = b.bound in
    let i = behind - 1 in
    let s = get_or segments i d in
    let before = b.before i d (omega arith) in
    let own = (All-from_recursion (Decides octets rows) segments are.each) i d (omega arith) in
    let together : Together (bounds_of octets rows) s.start number = λ t e le.
    (let p = start_place octets rows segments d t are e in
    let at = p.2 in
    elim (cases_lt p.0 behind) [
      | inl lt ↦ (let up = are.sorted p.0 i d (omega arith) (omega arith) in omega arith)
      | inr ge ↦ (let up = b.after p.0 d ge p.1 in absurd (omega arith))
    ]) in
    own ∙ sym (same_best octets s.start number rows None before small together)

-- Before all segments no row agrees.
pub none_decides : (octets : ℕ) (rows : List PreparedRow) (segments : List Segment) (number : ℕ) (d : Segment) → AreSegments octets rows segments → IsBehind segments number 0 → None ≡ best_at octets number rows
none_decides octets rows segments number d are b =
    sym (none_before octets number rows (λ t e. let p = start_place octets rows segments d t are e in let at = p.2 in let up = b.after p.0 d (omega arith) p.1 in omega arith))

-- The row that decides has as many octets as the address.
fits_fold : (octets number : ℕ) (rows : List PreparedRow) (found : Option PreparedRow) → IfSome found (λ r. octets ≡ length r.row.to) → IfSome (fold (better_at octets number) found rows) (λ r. octets ≡ length r.row.to)
fits_fold octets number [] found h = h
fits_fold octets number (r ∷ rows) found h = fits_fold octets number rows (better_at octets number found r) (by_test (covers_at octets number r && has_more found r) refl)
  where
    by_test : (b : Bool) → (covers_at octets number r && has_more found r) ≡ b → IfSome (cond b (Some r) found) (λ r. octets ≡ length r.row.to)
    by_test true e = eqb-true _ _ (and_parts _ _ (and_parts _ _ e).0).0 ∙ sym r.fits
    by_test false e = h

pub best_fits : (octets number : ℕ) (rows : List PreparedRow) → IfSome (best_at octets number rows) (λ r. octets ≡ length r.row.to)
best_fits octets number rows = fits_fold octets number rows None tt
