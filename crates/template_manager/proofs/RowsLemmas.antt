-- The rows of a table: their order, what they give, and that few lie behind.
use Rattle.std.proofs.Common.{◌≡◌, ◌⊎◌, ℕ, ◌+◌, ◌-◌, ◌<◌, ◌≤◌, inl, inr, Bool, true, false, cond, List, [], ◌∷◌, ◌++◌, map, refl, ap, sym, subst, ◌∙◌, arith}
use Rattle.std.specs.Prelude.{◌==◌, ◌&&◌, nat_le, if◌then◌else◌, Option, Some, None, option_map, unwrap_or, Result, Ok, Err, IfOk}
use Rattle.std.specs.Option.{option_or}
use Rattle.std.specs.List.{AllByRecursion}
use Rattle.std.specs.List.Sorted.{IsStrictlySortedBy}
use Rattle.std.specs.BTreeMap.{is_at}
use Rattle.std.specs.Map.{lookup, keys_of}
use Rattle.std.specs.Ordering.{nat_cmp, is_eq}
use Rattle.std.specs.declared.cmp.Ordering.TheVariants.{Less, Equal, Greater}
use Rattle.std.specs.declared.sync.Arc.{Arc}
use Rattle.std.specs.declared.alloc.Global.{Global}
use Rattle.std.proofs.lemmas.Bool.{cases_lt, cases_eq, lt-ltb, le-ltb, eq-eqb, ne_eqb, le-leb, leb-true}
use Rattle.std.proofs.lemmas.Map.Keys.{sorted_head, sorted_tail}
use Rattle.wire_spec.specs.Content.{Definition}
use Rattle.template_history.specs.declared.version.Version.{Version}
use Rattle.template_history.specs.Row.{if_by, row_at, Ascends, TailIn}
use Rattle.template_history.specs.Versions.{row_of, seen, version_at, AreFrom}
use Rattle.template_snapshot.specs.Entry.{AreInOrder, Entry, Precedes}
use Rattle.template_snapshot.specs.Frozen.{frozen_at, last_serving, serves}
use Rattle.template_history.proofs.RowLemmas.{or_assoc, or_none}
use Rattle.template_manager.specs.Rows.{entry_of, rows_of, stream_entry, timed_rows, NoTwoBehind}
use Rattle.template_manager.specs.Table.{definition_in}

-- ---- keys

-- each ID is below those behind it
abbrev pub Increasing : {X : Type 0} → List (ℕ × X) → Type 0
Increasing [] = Unit {0}
Increasing (e ∷ es) = AllByRecursion (λ f. e.0 < f.0) es × Increasing es

less_lt : (k q : ℕ) → nat_cmp k q ≡ Less → k < q
less_lt k q is = elim (cases_lt k q) [ inl lt ↦ lt | inr le ↦ absurd (no (k == q) (sym (ap (λ b. cond b Less (cond (k == q) Equal Greater)) (le-ltb k q le)) ∙ is)) ]
  where
    no : (b : Bool) → cond b Equal Greater ≡ Less → ⊥
    no true e = absurd cc
    no false e = absurd cc

increasing : {X : Type 0} (es : List (ℕ × X)) → IsStrictlySortedBy nat_cmp (keys_of es) → Increasing es
increasing [] s = tt
increasing {X} (e ∷ es) s = (all es (sorted_head nat_cmp e.0 (keys_of es) s), increasing es (sorted_tail nat_cmp e.0 (keys_of es) s))
  where
    all : (fs : List (ℕ × X)) → AllByRecursion (λ q. nat_cmp e.0 q ≡ Less) (keys_of fs) → AllByRecursion (λ f. e.0 < f.0) fs
    all [] a = tt
    all (f ∷ fs) a = (less_lt e.0 f.0 a.0, all fs a.1)

-- what is there for an ID
abbrev pub look : {X : Type 0} → List (ℕ × List X) → ℕ → List X
look es id = unwrap_or (lookup (is_at (nat_cmp id)) es) []

is_at_same : (id k : ℕ) → id ≡ k → is_at (nat_cmp id) k ≡ true
is_at_same id k e = ap (λ b. is_eq (cond b Less (cond (id == k) Equal Greater))) (le-ltb id k (omega (arith, e))) ∙ ap (λ b. is_eq (cond b Equal Greater)) (eq-eqb id k e)

is_at_other : (id k : ℕ) → (id ≡ k → ⊥) → is_at (nat_cmp id) k ≡ false
is_at_other id k ne = by (cases_lt id k)
  where
    by : (id < k) ⊎ (k ≤ id) → is_at (nat_cmp id) k ≡ false
    by (inl lt) = ap (λ b. is_eq (cond b Less (cond (id == k) Equal Greater))) (lt-ltb id k lt)
    by (inr le) = ap (λ b. is_eq (cond b Less (cond (id == k) Equal Greater))) (le-ltb id k le) ∙ ap (λ b. is_eq (cond b Equal Greater)) (ne_eqb id k ne)

look_first : {X : Type 0} (e : ℕ × List X) (es : List (ℕ × List X)) (id : ℕ) → id ≡ e.0 → look (e ∷ es) id ≡ e.1
look_first e es id same = ap (λ b. unwrap_or (cond b (Some e.1) (lookup (is_at (nat_cmp id)) es)) []) (is_at_same id e.0 same)

look_rest : {X : Type 0} (e : ℕ × List X) (es : List (ℕ × List X)) (id : ℕ) → (id ≡ e.0 → ⊥) → look (e ∷ es) id ≡ look es id
look_rest e es id ne = ap (λ b. unwrap_or (cond b (Some e.1) (lookup (is_at (nat_cmp id)) es)) []) (is_at_other id e.0 ne)

look_above : {X : Type 0} (id : ℕ) (es : List (ℕ × List X)) → AllByRecursion (λ f. id < f.0) es → look es id ≡ []
look_above id [] all = refl
look_above id (e ∷ es) all = look_rest e es id (λ same. let lt : id < e.0 = all.0 in omega (arith, lt, same)) ∙ look_above id es all.1

-- what holds of what is there for each ID holds without the first one
rest_of : {X : Type 0} (P : List X → Type 0) (e : ℕ × List X) (es : List (ℕ × List X)) → P [] → Increasing (e ∷ es) → ((id : ℕ) → P (look (e ∷ es) id)) → (id : ℕ) → P (look es id)
rest_of P e es none inc all id = elim (cases_eq id e.0) [
  | inl same ↦ subst P (sym (ap (look es) same ∙ look_above e.0 es inc.0)) none
  | inr ne ↦ subst P (look_rest e es id ne) (all id)
]

first_of : {X : Type 0} (P : List X → Type 0) (e : ℕ × List X) (es : List (ℕ × List X)) → ((id : ℕ) → P (look (e ∷ es) id)) → P e.1
first_of P e es all = subst P (look_first e es e.0 refl) (all e.0)

-- ---- rows of IDs above one

above : {X : Type 0} (n : X → ℕ) (d : X → Definition) (id : ℕ) (es : List (ℕ × List X)) → AllByRecursion (λ f. id < f.0) es → AllByRecursion (λ r. id < r.id) (rows_of n d es)
above n d id [] all = tt
above {X} n d id (e ∷ es) all = of e.1 (above n d id es all.1)
  where
    of : (xs : List X) → AllByRecursion (λ r. id < r.id) (rows_of n d es) → AllByRecursion (λ r. id < r.id) (map (entry_of n d e.0) xs ++ rows_of n d es)
    of [] rest = rest
    of (x ∷ xs) rest = (all.0, of xs rest)

-- ---- order

pub rows_in_order : {X : Type 0} (n : X → ℕ) (d : X → Definition) (es : List (ℕ × List X)) → Increasing es → ((id : ℕ) → Ascends n (look es id)) → AreInOrder (rows_of n d es)
rows_in_order n d [] inc all = tt
rows_in_order {X} n d (e ∷ es) inc all = of e.1 (first_of (Ascends n) e es all) (rows_in_order n d es inc.1 (rest_of (Ascends n) e es tt inc all))
  where
    apart : (x : X) (rows : List Entry) → AllByRecursion (λ r. e.0 < r.id) rows → AllByRecursion (Precedes (entry_of n d e.0 x)) rows
    apart x [] lt = tt
    apart x (r ∷ rows) lt = (inl lt.0, apart x rows lt.1)

    front : (x : X) (xs : List X) → AllByRecursion (λ y. n x < n y) xs → AllByRecursion (Precedes (entry_of n d e.0 x)) (map (entry_of n d e.0) xs ++ rows_of n d es)
    front x [] a = apart x (rows_of n d es) (above n d e.0 es inc.0)
    front x (y ∷ xs) a = (inr (refl, a.0), front x xs a.1)

    of : (xs : List X) → Ascends n xs → AreInOrder (rows_of n d es) → AreInOrder (map (entry_of n d e.0) xs ++ rows_of n d es)
    of [] a rest = rest
    of (x ∷ xs) a rest = (front x xs a.0, of xs a.1 rest)

-- ---- few behind

abbrev Apart : ℕ → ℕ → Entry → Entry → Type 0
Apart late greatest r s = r.id ≡ s.id → r.t + late < greatest → s.t + late < greatest → ⊥

pub rows_few : {X : Type 0} (n : X → ℕ) (d : X → Definition) (late greatest : ℕ) (es : List (ℕ × List X)) → Increasing es → ((id : ℕ) → TailIn n (λ t. nat_le (greatest - late) t) (look es id)) → NoTwoBehind late greatest (rows_of n d es)
rows_few n d late greatest [] inc all = tt
rows_few {X} n d late greatest (e ∷ es) inc all = of e.1 (first_of (TailIn n (λ t. nat_le (greatest - late) t)) e es all) (rows_few n d late greatest es inc.1 (rest_of (TailIn n (λ t. nat_le (greatest - late) t)) e es tt inc all))
  where
    apart : (x : X) (rows : List Entry) → AllByRecursion (λ r. e.0 < r.id) rows → AllByRecursion (Apart late greatest (entry_of n d e.0 x)) rows
    apart x [] lt = tt
    apart x (r ∷ rows) lt = (λ same a b. let l : e.0 < r.id = lt.0 in omega (arith, l, same), apart x rows lt.1)

    front : (x : X) (xs : List X) → AllByRecursion (λ y. nat_le (greatest - late) (n y) ≡ true) xs → AllByRecursion (Apart late greatest (entry_of n d e.0 x)) (map (entry_of n d e.0) xs ++ rows_of n d es)
    front x [] a = apart x (rows_of n d es) (above n d e.0 es inc.0)
    front x (y ∷ xs) a = (λ same p q. let le : greatest - late ≤ n y = leb-true (greatest - late) (n y) a.0 in omega (arith, le, q), front x xs a.1)

    all_of : (xs : List X) → AllByRecursion (λ y. nat_le (greatest - late) (n y) ≡ true) xs → NoTwoBehind late greatest (rows_of n d es) → NoTwoBehind late greatest (map (entry_of n d e.0) xs ++ rows_of n d es)
    all_of [] a rest = rest
    all_of (x ∷ xs) a rest = (front x xs a.1, all_of xs a.1 rest)

    of : (xs : List X) → TailIn n (λ t. nat_le (greatest - late) t) xs → NoTwoBehind late greatest (rows_of n d es) → NoTwoBehind late greatest (map (entry_of n d e.0) xs ++ rows_of n d es)
    of [] a rest = rest
    of (x ∷ xs) a rest = (front x xs a, all_of xs a rest)

-- ---- what they give

serving-append : (e id : ℕ) (xs ys : List Entry) → last_serving e id (xs ++ ys) ≡ option_or (last_serving e id ys) (last_serving e id xs)
serving-append e id [] ys = sym (or_none (last_serving e id ys))
serving-append e id (x ∷ xs) ys = ap (λ o. option_or o (if serves e id x then Some x else None)) (serving-append e id xs ys) ∙ or_assoc (last_serving e id ys) (last_serving e id xs) (if serves e id x then Some x else None)

map_or : {X Y : Type 0} (f : X → Y) (a b : Option X) → option_map f (option_or a b) ≡ option_or (option_map f a) (option_map f b)
map_or f None b = refl
map_or f (Some x) b = refl

serving_same : {X : Type 0} (n : X → ℕ) (d : X → Definition) (e id k : ℕ) → id ≡ k → (xs : List X) → last_serving e id (map (entry_of n d k) xs) ≡ option_map (entry_of n d k) (row_at n e xs)
serving_same n d e id k same [] = refl
serving_same {X} n d e id k same (x ∷ xs) =
    ap (λ o. option_or o (if serves e id (entry_of n d k x) then Some (entry_of n d k x) else None)) (serving_same n d e id k same xs)
    ∙ (ap (option_or (option_map (entry_of n d k) (row_at n e xs))) (one (nat_le (n x) e))
    ∙ sym (map_or (entry_of n d k) (row_at n e xs) (if_by n e x)))
  where
    one : (b : Bool) → (if k == id && b then Some (entry_of n d k x) else None) ≡ option_map (entry_of n d k) (cond b (Some x) None)
    one b = ap (λ c. cond (c && b) (Some (entry_of n d k x)) None) (eq-eqb k id (sym same)) ∙ inner b
      where
        inner : (b : Bool) → cond b (Some (entry_of n d k x)) None ≡ option_map (entry_of n d k) (cond b (Some x) None)
        inner true = refl
        inner false = refl

serving_other : {X : Type 0} (n : X → ℕ) (d : X → Definition) (e id k : ℕ) → (id ≡ k → ⊥) → (xs : List X) → last_serving e id (map (entry_of n d k) xs) ≡ None
serving_other n d e id k ne [] = refl
serving_other n d e id k ne (x ∷ xs) =
    ap (λ o. option_or o (if serves e id (entry_of n d k x) then Some (entry_of n d k x) else None)) (serving_other n d e id k ne xs)
    ∙ ap (λ b. cond (b && nat_le (n x) e) (Some (entry_of n d k x)) None) (ne_eqb k id (λ same. ne (sym same)))

pub rows_serving : {X : Type 0} (n : X → ℕ) (d : X → Definition) (e id : ℕ) (es : List (ℕ × List X)) → Increasing es → last_serving e id (rows_of n d es) ≡ option_map (entry_of n d id) (row_at n e (look es id))
rows_serving n d e id [] inc = refl
rows_serving {X} n d e id (x ∷ es) inc =
    serving-append e id (map (entry_of n d x.0) x.1) (rows_of n d es)
    ∙ (ap (λ o. option_or o (last_serving e id (map (entry_of n d x.0) x.1))) (rows_serving n d e id es inc.1)
    ∙ by (cases_eq id x.0))
  where
    by : (id ≡ x.0) ⊎ (id ≡ x.0 → ⊥) → option_or (option_map (entry_of n d id) (row_at n e (look es id))) (last_serving e id (map (entry_of n d x.0) x.1)) ≡ option_map (entry_of n d id) (row_at n e (look (x ∷ es) id))
    by (inl same) =
        ap (λ xs. option_or (option_map (entry_of n d id) (row_at n e xs)) (last_serving e id (map (entry_of n d x.0) x.1))) (ap (look es) same ∙ look_above x.0 es inc.0)
        ∙ (serving_same n d e id x.0 same x.1
        ∙ (ap (λ k. option_map (entry_of n d k) (row_at n e x.1)) (sym same)
        ∙ ap (λ xs. option_map (entry_of n d id) (row_at n e xs)) (sym (look_first x es id same))))
    by (inr ne) =
        ap (option_or (option_map (entry_of n d id) (row_at n e (look es id)))) (serving_other n d e id x.0 ne x.1)
        ∙ (or_none (option_map (entry_of n d id) (row_at n e (look es id)))
        ∙ ap (λ xs. option_map (entry_of n d id) (row_at n e xs)) (sym (look_rest x es id ne)))

-- ---- over UDP

pub timed_in_order : (es : List (ℕ × List Version)) → IsStrictlySortedBy nat_cmp (keys_of es) → ((id : ℕ) → Ascends (λ (v : Version). v.t) (row_of es id)) → AreInOrder (timed_rows es)
timed_in_order es s all = rows_in_order (λ (v : Version). v.t) (λ v. v.def.value) es (increasing es s) all

pub timed_few : (late greatest : ℕ) (es : List (ℕ × List Version)) → IsStrictlySortedBy nat_cmp (keys_of es) → AreFrom (greatest - late) es → NoTwoBehind late greatest (timed_rows es)
timed_few late greatest es s all = rows_few (λ (v : Version). v.t) (λ v. v.def.value) late greatest es (increasing es s) all

pub timed_at : (es : List (ℕ × List Version)) → IsStrictlySortedBy nat_cmp (keys_of es) → (e id : ℕ) → frozen_at (timed_rows es) e id ≡ option_map (λ v. v.1) (version_at es e id)
timed_at es s e id = ap (option_map (λ r. r.definition)) (rows_serving (λ (v : Version). v.t) (λ v. v.def.value) e id es (increasing es s)) ∙ by (row_at (λ (v : Version). v.t) e (row_of es id))
  where
    by : (found : Option Version) → option_map (λ (r : Entry). r.definition) (option_map (entry_of (λ (v : Version). v.t) (λ v. v.def.value) id) found) ≡ option_map (λ v. v.1) (option_map seen found)
    by None = refl
    by (Some v) = refl

-- ---- over TCP and in files

abbrev pub Shared : Type 0
Shared = Arc Definition Global

abbrev pub alone : ℕ × Shared → ℕ × List Shared
alone e = (e.0, e.1 ∷ [])

abbrev pub never : Shared → ℕ
never d = 0

abbrev pub what : Shared → Definition
what d = d.value

stream_rows : (es : List (ℕ × Shared)) → map stream_entry es ≡ rows_of never what (map alone es)
stream_rows [] = refl
stream_rows (e ∷ es) = ap (λ rows. stream_entry e ∷ rows) (stream_rows es)

stream_increasing : (es : List (ℕ × Shared)) → Increasing es → Increasing (map alone es)
stream_increasing [] inc = tt
stream_increasing (e ∷ es) inc = (all es inc.0, stream_increasing es inc.1)
  where
    all : (fs : List (ℕ × Shared)) → AllByRecursion (λ f. e.0 < f.0) fs → AllByRecursion (λ f. e.0 < f.0) (map alone fs)
    all [] a = tt
    all (f ∷ fs) a = (a.0, all fs a.1)

stream_look : (es : List (ℕ × Shared)) (id : ℕ) → lookup (is_at (nat_cmp id)) (map alone es) ≡ option_map (λ d. d ∷ []) (lookup (is_at (nat_cmp id)) es)
stream_look [] id = refl
stream_look (e ∷ es) id = by (is_at (nat_cmp id) e.0) (stream_look es id)
  where
    by : (b : Bool) → lookup (is_at (nat_cmp id)) (map alone es) ≡ option_map (λ d. d ∷ []) (lookup (is_at (nat_cmp id)) es) → cond b (Some (e.1 ∷ [])) (lookup (is_at (nat_cmp id)) (map alone es)) ≡ option_map (λ d. d ∷ []) (cond b (Some e.1) (lookup (is_at (nat_cmp id)) es))
    by true ih = refl
    by false ih = ih

pub stream_in_order : (es : List (ℕ × Shared)) → IsStrictlySortedBy nat_cmp (keys_of es) → AreInOrder (map stream_entry es)
stream_in_order es s = subst AreInOrder (sym (stream_rows es)) (rows_in_order never what (map alone es) (stream_increasing es (increasing es s)) (λ id. subst (λ (o : Option (List Shared)). Ascends never (unwrap_or o [])) (sym (stream_look es id)) (one (lookup (is_at (nat_cmp id)) es))))
  where
    one : (o : Option Shared) → Ascends never (unwrap_or (option_map (λ d. d ∷ []) o) [])
    one None = tt
    one (Some d) = (tt, tt)

pub stream_few : (late greatest : ℕ) (es : List (ℕ × Shared)) → IsStrictlySortedBy nat_cmp (keys_of es) → NoTwoBehind late greatest (map stream_entry es)
stream_few late greatest es s = subst (NoTwoBehind late greatest) (sym (stream_rows es)) (rows_few never what late greatest (map alone es) (stream_increasing es (increasing es s))
    (λ id. subst (λ (o : Option (List Shared)). TailIn never (λ t. nat_le (greatest - late) t) (unwrap_or o [])) (sym (stream_look es id)) (one (lookup (is_at (nat_cmp id)) es))))
  where
    one : (o : Option Shared) → TailIn never (λ t. nat_le (greatest - late) t) (unwrap_or (option_map (λ d. d ∷ []) o) [])
    one None = tt
    one (Some d) = tt

pub stream_at : (es : List (ℕ × Shared)) → IsStrictlySortedBy nat_cmp (keys_of es) → (e id : ℕ) → frozen_at (map stream_entry es) e id ≡ definition_in es id
stream_at es s e id =
    ap (λ rows. frozen_at rows e id) (stream_rows es)
    ∙ (ap (option_map (λ r. r.definition)) (rows_serving never what e id (map alone es) (stream_increasing es (increasing es s)))
    ∙ (ap (λ o. option_map (λ (r : Entry). r.definition) (option_map (entry_of never what id) (row_at never e (unwrap_or o [])))) (stream_look es id)
    ∙ by (lookup (is_at (nat_cmp id)) es)))
  where
    by : (o : Option Shared) → option_map (λ (r : Entry). r.definition) (option_map (entry_of never what id) (row_at never e (unwrap_or (option_map (λ d. d ∷ []) o) []))) ≡ option_map (λ d. d.value) o
    by None = refl
    by (Some d) = ap (λ b. option_map (λ (r : Entry). r.definition) (option_map (entry_of never what id) (cond b (Some d) None))) (le-leb 0 e (omega arith))

-- what holds of those rows holds of what has them
pub for_rows : {V E : Type 0} (items : V → List Entry) (Q : List Entry → Type 0) (r : Result V E) (rows : List Entry) → IfOk r (λ v. items v ≡ rows) → Q rows → IfOk r (λ v. Q (items v))
for_rows items Q (Ok v) rows p q = subst Q (sym p) q
for_rows items Q (Err e) rows p q = tt
