-- Connections by number.
use Rattle.std.proofs.Common.{◌≡◌, ℕ, Bool, true, false, cond, not, List, [], ◌∷◌, ◌++◌, Some, None, refl, ap, sym, ◌∙◌, map, filter, option_map, nat_eq, ◌<◌, zero, suc, length, get_or, slice_get, position, unwrap_or, arith}
use Rattle.std.specs.Prelude.{Option, find, is_some, MatchBool, MatchOption, ◌==◌}
use Rattle.std.specs.List.{AllByRecursion, IsDistinct}
use Rattle.std.specs.Map.{keys_of, lookup, remove_entry, values_of}
use Rattle.std.proofs.lemmas.Bool.{eqb-true}
use Rattle.std.proofs.lemmas.List.Quantifiers.{position-Some}
use Rattle.indexmap.specs.IndexMap.{set_value_at}
use Rattle.input_lane.specs.declared.brought.Brought.{Brought}
use Rattle.input_lane.specs.declared.brought.Brought.TheVariants as brought
use Rattle.input_lane.specs.declared.came.Came.{Came}
use Rattle.input_lane.specs.Brings.{Brings, BringsAt, LinkBrings, StreamBrings, changed_row}
use Rattle.session_table.proofs.ConnLemmas.{eq_turns}
use Rattle.session_table.proofs.PeerLemmas.{none_passes}
use Rattle.session_table.proofs.RowLemmas.{absent, one_goes}
use Rattle.input_lane.specs.declared.stream.Stream.{Stream}
use Rattle.input_lane.specs.declared.stream.Stream.TheVariants as stream
use Rattle.input_lane.specs.Links.{AreApart, HasLink, link_is, link_row, stream_link, torn_by, torn_more, Link}

pub number_of : (n : ℕ) (s : Stream) → (stream_link n s).conn ≡ n
number_of n (stream.Open session rest) = refl
number_of n stream.Dead = refl

pub agrees : (c : ℕ) (e : ℕ × Stream) → link_is c (link_row e) ≡ nat_eq c e.0
agrees c e = ap (λ n. n == c) (number_of e.0 e.1) ∙ eq_turns e.0 c

-- the row of a connection is that of its stream
pub find_entry : (c : ℕ) (es : List (ℕ × Stream)) → find (link_is c) (map link_row es) ≡ option_map (stream_link c) (lookup (nat_eq c) es)
find_entry c [] = refl
find_entry c (e ∷ es) = by (find_entry c es) (nat_eq c e.0) refl
  where
    by : find (link_is c) (map link_row es) ≡ option_map (stream_link c) (lookup (nat_eq c) es) → (b : Bool) → nat_eq c e.0 ≡ b
        → cond (link_is c (link_row e)) (Some (link_row e)) (find (link_is c) (map link_row es)) ≡ option_map (stream_link c) (cond (nat_eq c e.0) (Some e.1) (lookup (nat_eq c) es))
    by rest true h = ap (λ b. cond b (Some (link_row e)) (find (link_is c) (map link_row es))) (agrees c e ∙ h)
        ∙ (ap (λ n. Some (stream_link n e.1)) (sym (eqb-true c e.0 h)) ∙ sym (ap (λ b. option_map (stream_link c) (cond b (Some e.1) (lookup (nat_eq c) es))) h))
    by rest false h = ap (λ b. cond b (Some (link_row e)) (find (link_is c) (map link_row es))) (agrees c e ∙ h)
        ∙ (rest ∙ sym (ap (λ b. option_map (stream_link c) (cond b (Some e.1) (lookup (nat_eq c) es))) h))

pub has_entry : (c : ℕ) (es : List (ℕ × Stream)) (r : Bool) → r ≡ is_some (lookup (nat_eq c) es) → MatchBool r (HasLink c (map link_row es)) (find (link_is c) (map link_row es) ≡ None)
has_entry c es r e = by (lookup (nat_eq c) es) refl r e
  where
    by : (o : Option Stream) → lookup (nat_eq c) es ≡ o → (r : Bool) → r ≡ is_some o → MatchBool r (HasLink c (map link_row es)) (find (link_is c) (map link_row es) ≡ None)
    by None at true q = absurd cc
    by None at false q = find_entry c es ∙ ap (option_map (stream_link c)) at
    by (Some s) at true q = (stream_link c s, find_entry c es ∙ ap (option_map (stream_link c)) at)
    by (Some s) at false q = absurd cc

pub found_entry : (c : ℕ) (es : List (ℕ × Stream)) (r : Option Stream) → r ≡ lookup (nat_eq c) es → MatchOption r (find (link_is c) (map link_row es) ≡ None) (λ s. find (link_is c) (map link_row es) ≡ Some (stream_link c s))
found_entry c es None e = find_entry c es ∙ ap (option_map (stream_link c)) (sym e)
found_entry c es (Some s) e = find_entry c es ∙ ap (option_map (stream_link c)) (sym e)

pub no_entry : (c : ℕ) (es : List (ℕ × Stream)) → find (link_is c) (map link_row es) ≡ None → lookup (nat_eq c) es ≡ None
no_entry c es = absent link_row nat_eq c (link_is c) (agrees c) es

pub entry_goes : (c : ℕ) (es : List (ℕ × Stream)) → IsDistinct nat_eq (keys_of es) → map link_row (remove_entry (nat_eq c) es) ≡ filter (λ x. not (link_is c x)) (map link_row es)
entry_goes c es = one_goes link_row nat_eq c (link_is c) (agrees c) (λ x h. sym (eqb-true c x h)) es

pub entry_joins : (es : List (ℕ × Stream)) (c : ℕ) (s : Stream) → map link_row (es ++ (c, s) ∷ []) ≡ map link_row es ++ stream_link c s ∷ []
entry_joins [] c s = refl
entry_joins (e ∷ es) c s = ap (λ l. link_row e ∷ l) (entry_joins es c s)

apart_from : (k : ℕ) (s : Stream) (es : List (ℕ × Stream)) → AllByRecursion (λ y. nat_eq k y ≡ false) (keys_of es) → AllByRecursion (λ y. link_is (stream_link k s).conn y ≡ false) (map link_row es)
apart_from k s [] all = tt
apart_from k s (e ∷ es) all = (ap (λ n. link_is n (link_row e)) (number_of k s) ∙ (agrees k e ∙ all.0), apart_from k s es all.1)

-- different keys are different connections
pub links_apart : (es : List (ℕ × Stream)) → IsDistinct nat_eq (keys_of es) → AreApart (map link_row es)
unfolding IsDistinct
links_apart [] all = tt
links_apart (e ∷ es) all = (apart_from e.0 e.1 es all.0, links_apart es all.1)

pub torn_same : (count c : ℕ) (s : Stream) → torn_more count s ≡ torn_by count (stream_link c s)
torn_same count c (stream.Open session rest) = refl
torn_same count c stream.Dead = refl

-- rows of other connections don't change
none_changed : (c k : ℕ) (m : Link) (es : List (ℕ × Stream)) → k ≡ c → AllByRecursion (λ y. nat_eq k y ≡ false) (keys_of es) → map (changed_row c m) (map link_row es) ≡ map link_row es
none_changed c k m [] same all = refl
none_changed c k m (e ∷ es) same all = λ j. cond ((agrees c e ∙ (ap (λ n. nat_eq n e.0) (sym same) ∙ all.0)) j) m (link_row e) ∷ none_changed c k m es same all.1 j

-- the row at the place of a connection is found, and it alone changes
pub row_changed : (c : ℕ) (v w : Stream) (es : List (ℕ × Stream)) (i d : ℕ) → IsDistinct nat_eq (keys_of es) → i < length (keys_of es) → nat_eq c (get_or (keys_of es) i d) ≡ true → ((k : ℕ) → k < i → nat_eq c (get_or (keys_of es) k d) ≡ false)
    → slice_get (values_of es) i ≡ Some v
    → (find (link_is c) (map link_row es) ≡ Some (stream_link c v)) × (map link_row (set_value_at es i w) ≡ map (changed_row c (stream_link c w)) (map link_row es))
unfolding IsDistinct
row_changed c v w [] i d all within is none at = absurd (omega arith)
row_changed c v w (e ∷ es) zero d all within is none at =
    let same : e.0 ≡ c = sym (eqb-true c e.0 is) in
    let value : e.1 ≡ v = ap (λ o. unwrap_or o e.1) at in
    let here = agrees c e ∙ is in (
      ap (λ b. cond b (Some (link_row e)) (find (link_is c) (map link_row es))) here ∙ (λ j. Some (stream_link (same j) (value j))),
      ap (λ n. stream_link n w ∷ map link_row es) same ∙ sym (λ j. cond (here j) (stream_link c w) (link_row e) ∷ none_changed c e.0 (stream_link c w) es same all.0 j),
    )
row_changed c v w (e ∷ es) (suc i) d all within is none at =
    let rest = row_changed c v w es i d all.1 (omega arith) is (λ k h. none (suc k) (omega arith)) at in
    let no = agrees c e ∙ none 0 (omega arith) in (
      ap (λ b. cond b (Some (link_row e)) (find (link_is c) (map link_row es))) no ∙ rest.0,
      ap (λ l. link_row e ∷ l) rest.1 ∙ sym (λ j. cond (no j) (stream_link c w) (link_row e) ∷ map (changed_row c (stream_link c w)) (map link_row es)),
    )

-- what a stream brings its row does
row_brings : (input c : ℕ) (octets : List ℕ) (v w : Stream) (before after : List Came) (b : Brought) → StreamBrings input octets v w before after b → LinkBrings input octets (stream_link c v) (stream_link c w) before after b
row_brings input c octets stream.Dead w before after brought.Dead h = (refl, ap (stream_link c) h.0, h.1)
row_brings input c octets stream.Dead w before after brought.Alive h = absurd h
row_brings input c octets stream.Dead w before after brought.Broken h = absurd h
row_brings input c octets (stream.Open n rest) w before after brought.Dead h = absurd h
row_brings input c octets (stream.Open n rest) w before after brought.Alive h = record { number = n; session = refl; ends = h.0; is = ap (stream_link c) h.1; wait = h.2 }
row_brings input c octets (stream.Open n rest) w before after brought.Broken h = record { number = n; session = refl; ends = h.0; is = ap (stream_link c) h.1; wait = h.2 }

pub rows_bring : (input c : ℕ) (octets : List ℕ) (es fs : List (ℕ × Stream)) (i : ℕ) (before after : List Came) (b : Brought) → IsDistinct nat_eq (keys_of es) → position (nat_eq c) (keys_of es) ≡ Some i
    → BringsAt input octets es fs i before after b → Brings input c octets (map link_row es) (map link_row fs) before after b
rows_bring input c octets es fs i before after b all place h =
    let p = position-Some (nat_eq c) (keys_of es) i 0 place in
    let row = row_changed c h.was h.now es i 0 all p.0 p.1 p.2 h.found in
    record {
      was = stream_link c h.was;
      now = stream_link c h.now;
      found = row.0;
      rows = ap (map link_row) h.entries ∙ row.1;
      brings = row_brings input c octets h.was h.now before after b h.brings;
    }

none_entry : (c : ℕ) (es : List (ℕ × Stream)) → AllByRecursion (λ y. nat_eq c y ≡ false) (keys_of es) → find (link_is c) (map link_row es) ≡ None
none_entry c [] all = refl
none_entry c (e ∷ es) all = ap (λ b. cond b (Some (link_row e)) (find (link_is c) (map link_row es))) (agrees c e ∙ all.0) ∙ none_entry c es all.1

-- where the connection has no place, no row is of it
pub absent_entry : (c : ℕ) (es : List (ℕ × Stream)) → position (nat_eq c) (keys_of es) ≡ None → find (link_is c) (map link_row es) ≡ None
absent_entry c es e = none_entry c es (none_passes (nat_eq c) (keys_of es) e)
