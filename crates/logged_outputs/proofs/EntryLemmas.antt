-- Entries, some more.
use Rattle.std.proofs.Common.{◌≡◌, ℕ, ◌+◌, ◌<◌, Bool, true, false, cond, List, [], ◌∷◌, ◌++◌, Option, Some, None, map, length, refl, ap, sym, subst, ◌∙◌, append_assoc, append-nil}
use Rattle.std.specs.Prelude.{◌==◌, filter}
use Rattle.std.specs.List.{AllByRecursion, cons_option}
use Rattle.std.proofs.lemmas.Bool.{eqb-true, eq-eqb}
use Rattle.std.proofs.lemmas.List.{map-append}
use Rattle.std.proofs.lemmas.List.Elements.{filter-append}
use Rattle.run_spec.specs.Work.{Item}
use Rattle.pipeline_message.specs.declared.message.Msg.{Msg}
use Rattle.pipeline_message.specs.Items.{item_of, items_of}
use Rattle.logged_outputs.specs.Entries.{AreKnown, AreOf, Entry, entries_of, items_in, own, Takes}

abbrev pub entry : ℕ → Item → Entry
entry n i = record { input = n; item = i }

-- the entry of a message that stands for an item
pub entry_one : (n : ℕ) (msg : Msg) (i : Item) → item_of msg ≡ Some i → entries_of n msg ≡ entry n i ∷ []
entry_one n msg i e = ap (λ o. map (entry n) (cons_option o [])) e

pub own_both : (k : ℕ) (xs ys : List Entry) → own k (xs ++ ys) ≡ own k xs ++ own k ys
own_both k xs ys = ap items_in (filter-append (λ (x : Entry). x.input == k) xs ys) ∙ map-append (λ (x : Entry). x.item) (filter (λ (x : Entry). x.input == k) xs) (filter (λ (x : Entry). x.input == k) ys)

-- all of entries that are its own
all_own : (k : ℕ) (xs : List Entry) → AreOf k xs → own k xs ≡ items_in xs
all_own k [] o = refl
all_own k (x ∷ xs) o = ap (λ b. items_in (cond b (x ∷ filter (λ (y : Entry). y.input == k) xs) (filter (λ (y : Entry). y.input == k) xs))) (eq-eqb x.input k o.0) ∙ ap (λ l. x.item ∷ l) (all_own k xs o.1)

differ : (k j : ℕ) → (k ≡ j → ⊥) → (j == k) ≡ false
differ k j ne = elim (j == k) as (λ b. (j == k) ≡ b → b ≡ false) [ true ↦ λ h. absurd (ne (sym (eqb-true j k h))) | false ↦ λ h. refl ] refl

-- none of another's
none_own : (k j : ℕ) (xs : List Entry) → (k ≡ j → ⊥) → AreOf j xs → own k xs ≡ []
none_own k j [] ne o = refl
none_own k j (x ∷ xs) ne o =
    ap (λ b. items_in (cond b (x ∷ filter (λ (y : Entry). y.input == k) xs) (filter (λ (y : Entry). y.input == k) xs))) (ap (λ n. n == k) o.0 ∙ differ k j ne) ∙ none_own k j xs ne o.1

pub own_more : (k : ℕ) (xs more : List Entry) → AreOf k more → own k (xs ++ more) ≡ own k xs ++ items_in more
own_more k xs more o = own_both k xs more ∙ ap (λ l. own k xs ++ l) (all_own k more o)

pub own_other : (k j : ℕ) (xs more : List Entry) → (k ≡ j → ⊥) → AreOf j more → own k (xs ++ more) ≡ own k xs
own_other k j xs more ne o = own_both k xs more ∙ (ap (λ l. own k xs ++ l) (none_own k j more ne o) ∙ append-nil (own k xs))

pub all_joined : (P : Entry → Type 0) (xs ys : List Entry) → AllByRecursion P xs → AllByRecursion P ys → AllByRecursion P (xs ++ ys)
all_joined P [] ys p q = q
all_joined P (x ∷ xs) ys p q = (p.0, all_joined P xs ys p.1 q)

pub own_known : (k n : ℕ) (xs : List Entry) → k < n → AreOf k xs → AreKnown n xs
own_known k n [] lt o = tt
own_known k n (x ∷ xs) lt o = (subst (λ m. m < n) (sym o.0) lt, own_known k n xs lt o.1)

-- ---- what is taken

module _ {T : Type 0} (took : List Entry → T → T → Type 0) where
  pub takes_none : (a : T) → Takes took [] a a
  takes_none a first entries t = subst (λ l. took l first a) (sym (append-nil entries)) t

  pub takes_then : (more then : List Entry) (a b c : T) → Takes took more a b → Takes took then b c → Takes took (more ++ then) a c
  takes_then more then a b c p q first entries t = subst (λ l. took l first c) (append_assoc entries more then) (q first (entries ++ more) (p first entries t))
