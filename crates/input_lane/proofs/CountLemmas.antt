-- Counts rise step by step.
use Rattle.std.proofs.Common.{◌≡◌, ℕ, ◌+◌, Bool, cond, List, [], ◌∷◌, ◌++◌, refl, ap, sym, ◌∙◌, arith, map}
use Rattle.std.specs.Prelude.{count_by, flat_map, fold, Option, Some, None}
use Rattle.std.proofs.lemmas.List.Sums.{sum_by-append}
use Rattle.arrival_spec.specs.Mark.Mark.{Arrives}
use Rattle.arrival_spec.specs.Arrival.Arrival.{SessionClose}
use Rattle.arrival_spec.specs.Cutting.{cutting}
use Rattle.arrival_spec.specs.Sessions.{Connection, Peer, Standing, closing, closings, key_of, peer_closes, torn_if}
use Rattle.arrival_spec.specs.Mark.{Mark, is_torn, is_broken, is_refused, is_stray}
use Rattle.input_lane.specs.declared.tally.Tally.{Tally}
use Rattle.input_lane.specs.Tallies.{Counted, adds, is_opening}
use Rattle.input_lane.specs.Links.{torn_at, torn_by}
use Rattle.input_lane.specs.Kept.{link_of, rest_by}

count_both : (p : Mark → Bool) (l m : List Mark) → count_by p (l ++ m) ≡ count_by p l + count_by p m
count_both p l m = sum_by-append (λ x. cond (p x) 1 0) l m

twice : (n a b : ℕ) → adds (adds n a) b ≡ adds n (a + b)
twice n a b = omega arith

by_one : (p : Mark → Bool) (l m : List Mark) (x y z : ℕ) → y ≡ adds x (count_by p l) → z ≡ adds y (count_by p m) → z ≡ adds x (count_by p (l ++ m))
by_one p l m x y z e f = f ∙ (ap (λ n. adds n (count_by p m)) e ∙ (twice x (count_by p l) (count_by p m) ∙ ap (adds x) (sym (count_both p l m))))

pub counted_then : (l m : List Mark) (x y z : Tally) → Counted l x y → Counted m y z → Counted (l ++ m) x z
counted_then l m x y z a b = record {
  sessions = by_one is_opening l m x.sessions y.sessions z.sessions a.sessions b.sessions;
  torn = by_one is_torn l m x.torn y.torn z.torn a.torn b.torn;
  broken = by_one is_broken l m x.broken y.broken z.broken a.broken b.broken;
  refused = by_one is_refused l m x.refused y.refused z.refused a.refused b.refused;
  stray = by_one is_stray l m x.stray y.stray z.stray a.stray b.stray;
}

pub none_more : (n : ℕ) → n ≡ adds n 0
none_more n = omega arith

pub counted_none : (x : Tally) → Counted [] x x
counted_none x = record { sessions = none_more x.sessions; torn = none_more x.torn; broken = none_more x.broken; refused = none_more x.refused; stray = none_more x.stray }

-- the end of a stream
torn_told : (input n : ℕ) (rest : List ℕ) (t : Tally) → Counted (torn_if rest ++ Arrives (SessionClose (key_of input n)) ∷ []) t (record t { torn = torn_at t.torn rest })
torn_told input n [] t = record { sessions = none_more t.sessions; torn = none_more t.torn; broken = none_more t.broken; refused = none_more t.refused; stray = none_more t.stray }
torn_told input n (o ∷ rest) t = record { sessions = none_more t.sessions; torn = refl; broken = none_more t.broken; refused = none_more t.refused; stray = none_more t.stray }

-- the closing of a connection is counted where its stream is torn
pub closing_counted : (input : ℕ) (octets : List ℕ) (o : Option ℕ) (t : Tally) → Counted (closing input octets o) t (record t { torn = torn_at t.torn (rest_by o octets) })
closing_counted input octets None t = counted_none t
closing_counted input octets (Some n) t = torn_told input n (cutting octets).rest t

abbrev closes : ℕ → Connection → List Mark
closes input x = closing input x.octets x.session

links_counted : (input : ℕ) (xs : List Connection) (t : Tally) → Counted (flat_map (closes input) xs) t (record t { torn = fold torn_by t.torn (map link_of xs) })
links_counted input [] t = counted_none t
links_counted input (x ∷ xs) t =
    let next : Tally = record t { torn = torn_at t.torn (rest_by x.session x.octets) } in
    counted_then (closes input x) (flat_map (closes input) xs) t next (record t { torn = fold torn_by next.torn (map link_of xs) }) (closing_counted input x.octets x.session t) (links_counted input xs next)

-- the closings of peers raise no count
pub peers_counted : (input : ℕ) (xs : List Peer) (t : Tally) → Counted (map (peer_closes input) xs) t t
peers_counted input [] t = counted_none t
peers_counted input (x ∷ xs) t = counted_then (peer_closes input x ∷ []) (map (peer_closes input) xs) t t t
    (record { sessions = none_more t.sessions; torn = none_more t.torn; broken = none_more t.broken; refused = none_more t.refused; stray = none_more t.stray }) (peers_counted input xs t)

pub closings_counted : (input : ℕ) (s : Standing) (t : Tally) → Counted (closings input s) t (record t { torn = fold torn_by t.torn (map link_of s.connections) })
closings_counted input s t =
    let next : Tally = record t { torn = fold torn_by t.torn (map link_of s.connections) } in
    counted_then (flat_map (closes input) s.connections) (map (peer_closes input) s.peers) t next next (links_counted input s.connections t) (peers_counted input s.peers next)
