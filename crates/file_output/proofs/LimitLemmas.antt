-- The first number past the last that is allowed, among those that definitions need.
use Rattle.std.proofs.Common.{◌≡◌, ℕ, zero, suc, ◌+◌, ◌<◌, ◌≤◌, Bool, true, false, cond, ◌||◌, List, [], ◌∷◌, ◌++◌, Some, None, length, refl, ap, sym, subst, ◌∙◌, map, take, max, arith, length-append}
use Rattle.std.specs.Prelude.{fold, find, nat_lt, slice_index_or}
use Rattle.std.specs.List.{list_any}
use Rattle.std.proofs.lemmas.Bool.{le-ltb, lt-ltb, or_left, or_right}
use Rattle.std.proofs.lemmas.List.{take-map, length-map}
use Rattle.std.proofs.Math.ListN.{get_or-map}
use Rattle.std.proofs.lemmas.List.Folds.{list_any-append}
use Rattle.wire_spec.specs.Content.{Definition}
use Rattle.template_spec.specs.Same.{same_definition}
use Rattle.template_spec.proofs.SameLemmas.{same_own}
use Rattle.file_spec.specs.File.{place_of, with_definition}
use Rattle.file_spec.proofs.MoreLemmas.{comes_behind, place_stays}
use Rattle.file_output.specs.declared.fault.FileFault.{FileFault}
use Rattle.file_output.specs.declared.fault.FileFault.TheVariants.{Limit, NoMemory}
use Rattle.file_output.specs.Fault.{AtLimit}
use Rattle.file_output.specs.Sets.{Body, IsIn, known_after, numbers_in}
use Rattle.file_output.proofs.PlaceLemmas.{place_within}

-- what holds of a limit's number where something else does
pub at_limit : (P Q : ℕ → Type 0) → ((n : ℕ) → P n → Q n) → (fault : FileFault) → AtLimit P fault → AtLimit Q fault
at_limit P Q to (Limit n) p = to n p
at_limit P Q to NoMemory p = tt

-- a definition that was entered is known
entered : (def : Definition) (known : List Definition) → list_any (same_definition def) (with_definition known def) ≡ true
entered def known = by (list_any (same_definition def) known) refl
  where
    by : (b : Bool) → list_any (same_definition def) known ≡ b → list_any (same_definition def) (cond b known (known ++ def ∷ [])) ≡ true
    by true e = e
    by false e = list_any-append (same_definition def) known (def ∷ []) ∙ or_right (list_any (same_definition def) known) (same_definition def def || false) (or_left (same_definition def def) false (same_own def))

-- and stays known
stays : (def : Definition) (known defs : List Definition) → list_any (same_definition def) known ≡ true → list_any (same_definition def) (fold with_definition known defs) ≡ true
stays def known defs e =
    let b = comes_behind known defs in
    subst (λ (l : List Definition). list_any (same_definition def) l ≡ true) (sym b.1) (list_any-append (same_definition def) known b.0 ∙ or_left (list_any (same_definition def) known) (list_any (same_definition def) b.0) e)

-- and keeps its place
keeps_place : (def : Definition) (known defs : List Definition) → place_of def (fold with_definition (with_definition known def) defs) ≡ place_of def (with_definition known def)
keeps_place def known defs =
    let b = comes_behind (with_definition known def) defs in
    ap (place_of def) b.1 ∙ place_stays def (with_definition known def) b.0 (entered def known)

longer : (known defs : List Definition) → length known ≤ length (fold with_definition known defs)
longer known defs =
    let b = comes_behind known defs in
    let n = ap length b.1 in
    let m = length-append known b.0 in
    omega arith

place_some : (def : Definition) (known : List Definition) → list_any (same_definition def) known ≡ true → 1 ≤ length known
place_some def [] e = absurd cc
place_some def (d ∷ known) e = omega arith

-- a definition that was entered where the last number is not passed has no greater number
allowed : (last : ℕ) (def : Definition) (known defs : List Definition) (kept : List Definition) → length (with_definition known def) ≤ length kept → 255 + length kept ≤ max 255 last
    → 255 + place_of def (fold with_definition (with_definition known def) defs) ≤ last
allowed last def known defs kept l room =
    let p = keeps_place def known defs in
    let w = place_within def (with_definition known def) (entered def known) in
    let s = place_some def (with_definition known def) (entered def known) in
    omega arith

limit_at : (last : ℕ) (known defs : List Definition) (i : ℕ) (d : Definition) (n : ℕ) → i < length defs → 255 + length (fold with_definition known (take i defs)) ≤ max 255 last
    → n ≡ 255 + place_of (slice_index_or defs i d) (with_definition (fold with_definition known (take i defs)) (slice_index_or defs i d)) → last < n
    → find (nat_lt last) (map (λ x. 255 + place_of x (fold with_definition known defs)) defs) ≡ Some n
limit_at last known [] i d n l room e over = absurd (omega arith)
limit_at last known (x ∷ defs) zero d n l room e over =
    let p : 255 + place_of x (fold with_definition (with_definition known x) defs) ≡ n = ap (λ m. 255 + m) (keeps_place x known defs) ∙ sym e in
    let number = 255 + place_of x (fold with_definition (with_definition known x) defs) in
    ap (λ b. cond b (Some number) (find (nat_lt last) (map (λ y. 255 + place_of y (fold with_definition (with_definition known x) defs)) defs))) (ap (nat_lt last) p ∙ lt-ltb last n over) ∙ ap Some p
limit_at last known (x ∷ defs) (suc i) d n l room e over =
    let number = 255 + place_of x (fold with_definition (with_definition known x) defs) in
    let small = allowed last x known defs (fold with_definition (with_definition known x) (take i defs)) (longer (with_definition known x) (take i defs)) room in
    ap (λ b. cond b (Some number) (find (nat_lt last) (map (λ y. 255 + place_of y (fold with_definition (with_definition known x) defs)) defs))) (le-ltb last number small)
    ∙ limit_at last (with_definition known x) defs i d n (omega arith) room e over

none_over : (last : ℕ) (known defs : List Definition) → 255 + length (fold with_definition known defs) ≤ max 255 last
    → find (nat_lt last) (map (λ x. 255 + place_of x (fold with_definition known defs)) defs) ≡ None
none_over last known [] room = refl
none_over last known (x ∷ defs) room =
    let number = 255 + place_of x (fold with_definition (with_definition known x) defs) in
    let small = allowed last x known defs (fold with_definition (with_definition known x) defs) (longer (with_definition known x) defs) room in
    ap (λ b. cond b (Some number) (find (nat_lt last) (map (λ y. 255 + place_of y (fold with_definition (with_definition known x) defs)) defs))) (le-ltb last number small)
    ∙ none_over last (with_definition known x) defs room

all_known : (known defs : List Definition) (i : ℕ) (d : Definition) → i < length defs → list_any (same_definition (slice_index_or defs i d)) (fold with_definition known defs) ≡ true
all_known known [] i d l = absurd (omega arith)
all_known known (x ∷ defs) zero d l = stays x (with_definition known x) defs (entered x known)
all_known known (x ∷ defs) (suc i) d l = all_known (with_definition known x) defs i d (omega arith)

pub mapped : {X Y Z : Type 0} (f : X → Y) (g : Y → Z) (list : List X) → map (λ x. g (f x)) list ≡ map g (map f list)
mapped f g [] = refl
mapped f g (x ∷ list) = ap (λ l. g (f x) ∷ l) (mapped f g list)

-- the same of sets that have such records
module _ {X : Type 0} (body : X → Body) (known : List Definition) (sets : List X) where
  numbers_are : numbers_in body known sets ≡ map (λ x. 255 + place_of x (fold with_definition known (map (λ s. (body s).definition) sets))) (map (λ s. (body s).definition) sets)
  numbers_are = mapped (λ s. (body s).definition) (λ x. 255 + place_of x (known_after body known sets)) sets

  pub limit_met : (last i : ℕ) (s : X) (n : ℕ) (now : List Definition) → i < length sets → now ≡ known_after body known (take i sets) → 255 + length now ≤ max 255 last
      → n ≡ 255 + place_of (body (slice_index_or sets i s)).definition (with_definition now (body (slice_index_or sets i s)).definition) → last < n
      → find (nat_lt last) (numbers_in body known sets) ≡ Some n
  limit_met last i s n now l e room is over =
      let list = map (λ x. (body x).definition) sets in
      let one : slice_index_or list i (body s).definition ≡ (body (slice_index_or sets i s)).definition = get_or-map (λ x. (body x).definition) sets i s in
      let front : now ≡ fold with_definition known (take i list) = e ∙ ap (fold with_definition known) (sym (take-map (λ x. (body x).definition) i sets)) in
      let within : 255 + length (fold with_definition known (take i list)) ≤ max 255 last = subst (λ (l : List Definition). 255 + length l ≤ max 255 last) front room in
      let number : n ≡ 255 + place_of (slice_index_or list i (body s).definition) (with_definition (fold with_definition known (take i list)) (slice_index_or list i (body s).definition)) =
      is ∙ (ap (λ x. 255 + place_of x (with_definition now x)) (sym one) ∙ ap (λ l. 255 + place_of (slice_index_or list i (body s).definition) (with_definition l (slice_index_or list i (body s).definition))) front) in
      let long : i < length list = subst (λ m. i < m) (sym (length-map sets (λ x. (body x).definition))) l in
      ap (find (nat_lt last)) numbers_are ∙ limit_at last known list i (body s).definition n long within number over

  pub limit_kept : (last : ℕ) (now : List Definition) → now ≡ known_after body known sets → 255 + length now ≤ max 255 last → find (nat_lt last) (numbers_in body known sets) ≡ None
  limit_kept last now e room =
      ap (find (nat_lt last)) numbers_are ∙ none_over last known (map (λ s. (body s).definition) sets) (subst (λ (l : List Definition). 255 + length l ≤ max 255 last) e room)

  pub sets_known : (now : List Definition) → now ≡ known_after body known sets → (i : ℕ) (s : X) → i < length sets → IsIn now (body (slice_index_or sets i s))
  sets_known now e i s l =
      let list = map (λ x. (body x).definition) sets in
      let one : slice_index_or list i (body s).definition ≡ (body (slice_index_or sets i s)).definition = get_or-map (λ x. (body x).definition) sets i s in
      let long : i < length list = subst (λ m. i < m) (sym (length-map sets (λ x. (body x).definition))) l in
      subst (λ (l : List Definition). list_any (same_definition (body (slice_index_or sets i s)).definition) l ≡ true) (sym e)
      (subst (λ (d : Definition). list_any (same_definition d) (fold with_definition known list) ≡ true) one (all_known known list i (body s).definition long))

  pub front_known : (i : ℕ) (now : List Definition) → now ≡ known_after body known (take i sets) → (more : List Definition) × (now ≡ known ++ more)
  front_known i now e =
      let b = comes_behind known (map (λ s. (body s).definition) (take i sets)) in
      (b.0, e ∙ b.1)
