-- Places one behind another are one run of octets.
use Rattle.std.proofs.Common.{◌≡◌, ℕ, ◌+◌, ◌-◌, ◌≤◌, List, [], ◌∷◌, ◌++◌, length, take, drop, ap, sym, refl, ◌∙◌, arith, append_assoc, append-nil, length-append}
use Rattle.std.specs.List.{All, AllByRecursion}
use Rattle.std.proofs.lemmas.List.Elements.{All-from_recursion, recursion_from_All}
use Rattle.std.proofs.lemmas.List.Concat.{flat_map-cons}
use Rattle.std.proofs.lemmas.List.{take-append-drop, length-take-le, length-drop, drop-drop}
use Rattle.std.proofs.lemmas.List.Sums.{sum_by-cons}
use Rattle.std.proofs.lemmas.Grind.{flat_map-append}
use Rattle.std.proofs.Math.Seq.{take-append-add}
use Rattle.template_def.specs.Kept.{AppendsFront}
use Rattle.pipeline_message.specs.declared.message.Place.{Place}
use Rattle.pipeline_message.specs.Items.{IsRecordAt, octets_at}
use Rattle.wire_spec.specs.declared.field.FieldSpec.{FieldSpec}
use Rattle.file_output.specs.Within.{IsWithin, octets_placed, placed_size}

-- so many octets from a place on
abbrev pub run : List ℕ → ℕ → ℕ → List ℕ
run octets start end = take (end - start) (drop start octets)

-- Behind old octets what stands at some places is written, but for the run at the end.
pub record Runs (octets : List ℕ) (places : List Place) (old out : List ℕ) (start end : ℕ) : Type 0 where
  pub written : List ℕ
  pub appended : out ≡ old ++ written
  pub front : start ≤ end
  pub inside : end ≤ length octets
  pub joined : written ++ run octets start end ≡ octets_placed octets places

pub runs_none : (octets old : List ℕ) → Runs octets [] old old 0 0
runs_none octets old = record { written = []; appended = sym (append-nil old); front = omega arith; inside = omega arith; joined = refl }

one_more : (octets : List ℕ) (places : List Place) (p : Place) → octets_placed octets (places ++ p ∷ []) ≡ octets_placed octets places ++ octets_at octets p
one_more octets places p = flat_map-append (octets_at octets) places (p ∷ []) ∙ ap (λ o. octets_placed octets places ++ o) (append-nil (octets_at octets p))

-- a run goes on
longer : (octets : List ℕ) (start end more : ℕ) → start ≤ end → end ≤ length octets → run octets start (end + more) ≡ run octets start end ++ take more (drop end octets)
longer octets start end more le inside =
    let m = end - start in
    let rest = drop start octets in
    let long : length (take m rest) ≡ m = length-take-le m rest (let l = length-drop start octets in omega arith) in
    let sum : end + more - start ≡ length (take m rest) + more = omega arith in
    let behind : drop m rest ≡ drop end octets = drop-drop m start octets ∙ ap (λ n. drop n octets) (the (start + m ≡ end) (omega arith)) in
    ap (λ n. take n rest) sum
    ∙ (ap (λ r. take (length (take m rest) + more) r) (sym (take-append-drop m rest))
    ∙ (take-append-add (take m rest) (drop m rest) more ∙ ap (λ r. take m rest ++ take more r) behind))
  where
    the : (A : Type 0) → A → A
    the A a = a

pub runs_on : (octets : List ℕ) (places : List Place) (p : Place) (old out : List ℕ) (start end : ℕ) → Runs octets places old out start end → IsWithin octets p → p.start ≡ end
    → Runs octets (places ++ p ∷ []) old out start (p.start + p.len)
runs_on octets places p old out start end r within next =
    let f = r.front in
    record {
      written = r.written;
      appended = r.appended;
      front = omega arith;
      inside = within;
      joined = ap (λ n. r.written ++ run octets start (n + p.len)) next
          ∙ (ap (λ o. r.written ++ o) (longer octets start end p.len r.front r.inside)
          ∙ (sym (append_assoc r.written (run octets start end) (take p.len (drop end octets)))
          ∙ (ap (λ o. o ++ take p.len (drop end octets)) r.joined
          ∙ (ap (λ n. octets_placed octets places ++ take p.len (drop n octets)) (sym next) ∙ sym (one_more octets places p)))));
    }

pub runs_new : (octets : List ℕ) (places : List Place) (p : Place) (old out now : List ℕ) (start end : ℕ) → Runs octets places old out start end → IsWithin octets p → now ≡ out ++ run octets start end
    → Runs octets (places ++ p ∷ []) old now p.start (p.start + p.len)
runs_new octets places p old out now start end r within e =
    let same : p.start + p.len - p.start ≡ p.len = omega arith in
    record {
      written = r.written ++ run octets start end;
      appended = e ∙ (ap (λ o. o ++ run octets start end) r.appended ∙ append_assoc old r.written (run octets start end));
      front = omega arith;
      inside = within;
      joined = ap (λ n. r.written ++ run octets start end ++ take n (drop p.start octets)) same ∙ (ap (λ o. o ++ octets_at octets p) r.joined ∙ sym (one_more octets places p));
    }

pub runs_all : (octets : List ℕ) (places : List Place) (old out now : List ℕ) (start end : ℕ) → Runs octets places old out start end → now ≡ out ++ run octets start end → now ≡ old ++ octets_placed octets places
runs_all octets places old out now start end r e =
    e ∙ (ap (λ o. o ++ run octets start end) r.appended ∙ (append_assoc old r.written (run octets start end) ∙ ap (λ o. old ++ o) r.joined))

pub runs_front : (octets : List ℕ) (places : List Place) (i : ℕ) (old out : List ℕ) (start end : ℕ) → Runs octets (take i places) old out start end → AppendsFront old out (octets_placed octets places)
runs_front octets places i old out start end r =
    record {
      written = r.written;
      left = run octets start end ++ octets_placed octets (drop i places);
      parts = ap (octets_placed octets) (sym (take-append-drop i places))
          ∙ (flat_map-append (octets_at octets) (take i places) (drop i places)
          ∙ (ap (λ o. o ++ octets_placed octets (drop i places)) (sym r.joined) ∙ append_assoc r.written (run octets start end) (octets_placed octets (drop i places))));
      appended = r.appended;
    }

-- how many octets stand at places that are within
placed_by_recursion : (octets : List ℕ) (places : List Place) → AllByRecursion (IsWithin octets) places → length (octets_placed octets places) ≡ placed_size places
placed_by_recursion octets [] within = refl
placed_by_recursion octets (p ∷ places) within =
    let inside : p.start + p.len ≤ length octets = within.0 in
    let l : length (octets_at octets p) ≡ p.len = length-take-le p.len (drop p.start octets) (let d = length-drop p.start octets in omega arith) in
    let more = placed_by_recursion octets places within.1 in
    let s = sum_by-cons (λ (q : Place). q.len) p places in
    let a : length (octets_placed octets (p ∷ places)) ≡ length (octets_at octets p) + length (octets_placed octets places) =
    ap length (flat_map-cons (octets_at octets) p places) ∙ length-append (octets_at octets p) (octets_placed octets places) in
    omega arith

pub placed_long : (octets : List ℕ) (places : List Place) → All (IsWithin octets) places → length (octets_placed octets places) ≡ placed_size places
placed_long octets places within = placed_by_recursion octets places (recursion_from_All (IsWithin octets) places within)

-- records stand within
within_by_recursion : (fields : List FieldSpec) (octets : List ℕ) (places : List Place) → AllByRecursion (IsRecordAt fields octets) places → AllByRecursion (IsWithin octets) places
within_by_recursion fields octets [] sound = tt
within_by_recursion fields octets (p ∷ places) sound = (sound.0.0, within_by_recursion fields octets places sound.1)

pub all_within : (fields : List FieldSpec) (octets : List ℕ) (places : List Place) → AllByRecursion (IsRecordAt fields octets) places → All (IsWithin octets) places
all_within fields octets places sound = All-from_recursion (IsWithin octets) places (within_by_recursion fields octets places sound)
