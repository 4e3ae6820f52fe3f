-- Which sessions are open, and which were opened, after one arrival more.
use Rattle.std.proofs.Common.{◌≡◌, Bool, true, false, not, ◌&&◌, ◌||◌, List, [], ◌∷◌, ◌++◌, refl, ap, sym, ◌∙◌, append-nil}
use Rattle.std.specs.Prelude.{filter}
use Rattle.std.proofs.lemmas.Bool.{or_left, or_right, true≢false}
use Rattle.std.proofs.lemmas.List.Folds.{list_any-append}
use Rattle.std.proofs.lemmas.List.Sums.{fold-append}
use Rattle.std.proofs.lemmas.Map.Views.{any-filter_same}
use Rattle.col_base.specs.declared.base.SessionKey.{SessionKey}
use Rattle.col_base.specs.declared.base.Transport.{Transport}
use Rattle.arrival_spec.specs.Arrival.Arrival.{SessionOpen, Raw, SessionClose, Periodic}
use Rattle.arrival_spec.specs.Order.{same_key, has_key, open_by, open_keys, opened_keys, opened_in}
use Rattle.run_spec.specs.Read.{ReadArrival}
use Rattle.run_spec.proofs.ApartLemmas.{same_is, own_is}
use Rattle.count_spec.proofs.OpenLemmas.{opened_more, or_parts}

pub open_more : (read : List ReadArrival) (r : ReadArrival) → open_keys (read ++ r ∷ []) ≡ open_by (open_keys read) r
open_more read r = fold-append open_by [] read (r ∷ [])

or_none : (b : Bool) → b || false ≡ b
or_none true = refl
or_none false = refl

-- a key more
pub has_more : (key k : SessionKey) (keys : List SessionKey) → has_key key (keys ++ k ∷ []) ≡ has_key key keys || same_key key k
has_more key k keys = list_any-append (same_key key) keys (k ∷ []) ∙ ap (λ b. has_key key keys || b) (or_none (same_key key k))

-- a key less
pub has_less : (key k : SessionKey) (keys : List SessionKey) → has_key key (filter (λ j. not (same_key j k)) keys) ≡ not (same_key key k) && has_key key keys
has_less key k keys = any-filter_same (same_key key) (λ j. not (same_key j k)) (not (same_key key k)) (λ j e. ap (λ x. not (same_key x k)) (sym (same_is key j e))) keys

-- where another key is meant
pub other_key : (a b : SessionKey) (keys : List SessionKey) → has_key a keys ≡ true → has_key b keys ≡ false → same_key a b ≡ false
other_key a b keys has hasnt = of (same_key a b) refl
  where
    of : (x : Bool) → same_key a b ≡ x → x ≡ false
    of true e = absurd (true≢false (sym has ∙ (ap (λ k. has_key k keys) (same_is a b e) ∙ hasnt)))
    of false e = refl

and_right : (a b : Bool) → a && b ≡ true → b ≡ true
and_right true b e = e
and_right false b e = absurd (true≢false (sym e))

or_first : (a b : Bool) → (a ≡ true → b ≡ true) → (c : Bool) → a || c ≡ true → b || c ≡ true
or_first true b f c e = or_left b c (f refl)
or_first false b f c e = or_right b c e

-- what is open was opened
pub opened_later : (read : List ReadArrival) (r : ReadArrival) (key : SessionKey) → (has_key key (open_keys read) ≡ true → has_key key (opened_keys read) ≡ true) → has_key key (open_keys (read ++ r ∷ [])) ≡ true
    → has_key key (opened_keys (read ++ r ∷ [])) ≡ true
opened_later read r key was is = ap (has_key key) (opened_more read r) ∙ by r (sym (ap (has_key key) (open_more read r)) ∙ is)
  where
    nothing_more : has_key key (opened_keys read) ≡ true → has_key key (opened_keys read ++ []) ≡ true
    nothing_more e = ap (has_key key) (append-nil (opened_keys read)) ∙ e

    by : (r : ReadArrival) → has_key key (open_by (open_keys read) r) ≡ true → has_key key (opened_keys read ++ opened_in r) ≡ true
    by (SessionOpen k transport) e = has_more key k (opened_keys read) ∙ or_first (has_key key (open_keys read)) (has_key key (opened_keys read)) was (same_key key k) (sym (has_more key k (open_keys read)) ∙ e)
    by (Raw k m) e = nothing_more (was e)
    by (SessionClose k) e = nothing_more (was (and_right (not (same_key key k)) (has_key key (open_keys read)) (sym (has_less key k (open_keys read)) ∙ e)))
    by (Periodic input seconds) e = nothing_more (was e)

-- what wasn't opened later wasn't opened before
pub unopened_before : (read : List ReadArrival) (r : ReadArrival) (key : SessionKey) → has_key key (opened_keys (read ++ r ∷ [])) ≡ false → has_key key (opened_keys read) ≡ false
unopened_before read r key e =
    (or_parts (has_key key (opened_keys read)) (has_key key (opened_in r)) (sym (ap (has_key key) (opened_more read r) ∙ list_any-append (same_key key) (opened_keys read) (opened_in r)) ∙ e)).0

-- a session that opens is open, and the others are as they were
pub open_here : (read : List ReadArrival) (k : SessionKey) (transport : Transport) → has_key k (open_keys (read ++ SessionOpen k transport ∷ [])) ≡ true
open_here read k transport = ap (has_key k) (open_more read (SessionOpen k transport)) ∙ (has_more k k (open_keys read) ∙ or_right (has_key k (open_keys read)) (same_key k k) (own_is k))

pub open_away : (read : List ReadArrival) (k key : SessionKey) (transport : Transport) → same_key key k ≡ false → has_key key (open_keys (read ++ SessionOpen k transport ∷ [])) ≡ has_key key (open_keys read)
open_away read k key transport other = ap (has_key key) (open_more read (SessionOpen k transport)) ∙ (has_more key k (open_keys read) ∙ (ap (λ b. has_key key (open_keys read) || b) other ∙ or_none (has_key key (open_keys read))))

-- one that closes is open no more
pub close_here : (read : List ReadArrival) (k : SessionKey) → has_key k (open_keys (read ++ SessionClose k ∷ [])) ≡ false
close_here read k = ap (has_key k) (open_more read (SessionClose k)) ∙ (has_less k k (open_keys read) ∙ ap (λ b. not b && has_key k (open_keys read)) (own_is k))

pub close_away : (read : List ReadArrival) (k key : SessionKey) → same_key key k ≡ false → has_key key (open_keys (read ++ SessionClose k ∷ [])) ≡ has_key key (open_keys read)
close_away read k key other = ap (has_key key) (open_more read (SessionClose k)) ∙ (has_less key k (open_keys read) ∙ ap (λ b. not b && has_key key (open_keys read)) other)

-- two keys are the same in either order
pub same_turned : (a b : SessionKey) → same_key a b ≡ false → same_key b a ≡ false
same_turned a b e = of (same_key b a) refl
  where
    of : (x : Bool) → same_key b a ≡ x → x ≡ false
    of true t = absurd (true≢false (sym (own_is a) ∙ (ap (same_key a) (sym (same_is b a t)) ∙ e)))
    of false t = refl
