-- A description has no sink name twice.
use Rattle.std.proofs.Common.{◌≡◌, inl, inr, ℕ, ◌+◌, ◌≤◌, Bool, true, false, cond, ◌||◌, if◌then◌else◌, List, [], ◌∷◌, ◌++◌, length, take, map, Option, Some, None, Ok, refl, ap, sym, subst, ◌∙◌, arith, append_assoc, append-nil, length-append}
use Rattle.std.specs.Prelude.{bytes_eq, option_map}
use Rattle.std.specs.Option.{option_or}
use Rattle.std.proofs.Math.Seq.{take-append_seam}
use Rattle.std.proofs.lemmas.List.{map-append}
use Rattle.toml.specs.Data.{Members}
use Rattle.config_spec.specs.declared.conf.Conf.{Conf}
use Rattle.config_spec.specs.declared.conf.OutputConf.{OutputConf}
use Rattle.config_spec.specs.declared.fault.ConfFault.{ConfFault}
use Rattle.config_spec.specs.declared.fault.ConfFault.TheVariants.{DuplicateName}
use Rattle.config_spec.specs.declared.marked.Marked.{Marked}
use Rattle.config_spec.specs.Faults.{tables_fault}
use Rattle.config_spec.specs.Values.{conf_of}
use Rattle.config_spec.specs.Repeats.{is_marked, repeat_from, repeat_fault, plain, names_of, paths_of}
use Rattle.config_spec.specs.Description.{no_input, no_output, tree_fault, unless_fault, tree_of, tree_conf, description}
use Rattle.config_spec.proofs.FirstLemmas.{first_of_two}
use Rattle.call_spec.specs.Names.{times}
use Rattle.call_spec.specs.Leaves.{at_of, log_and, sink_names}
use Rattle.call_spec.specs.Plan.{output_party, described_parties}
use Rattle.call_spec.proofs.NameLemmas.{same_or, one_if, times_more}
use Rattle.site_openings.specs.Out.{AreDistinct}

abbrev marks : List Marked → List (List ℕ)
marks all = map (λ (m : Marked). m.mark) all

-- a mark that none of some things has
not_there : (mark : List ℕ) (before : List Marked) → is_marked mark before ≡ false → times mark (marks before) ≡ 0
not_there mark [] e = refl
not_there mark (m ∷ before) e = elim (same_or m.mark mark) [
  | inl s ↦ absurd (let t : true ≡ false = sym (ap (λ b. b || is_marked mark before) s.0) ∙ e in cc)
  | inr d ↦ (let rest : is_marked mark before ≡ false = sym (ap (λ b. b || is_marked mark before) d.0) ∙ e in
      let none = not_there mark before rest in
      elim (same_or mark m.mark) [
        | inl s ↦ absurd (d.1 (sym s.1))
        | inr away ↦ (let zero_here : one_if mark m.mark ≡ 0 = ap (λ b. cond b 1 0) away.0 in omega arith)
      ])
]

-- one name more that wasn't there
one_more : (before : List Marked) (m : Marked) → ((p : List ℕ) → times p (marks before) ≤ 1) → is_marked m.mark before ≡ false → (p : List ℕ) → times p (marks (before ++ m ∷ [])) ≤ 1
one_more before m once new p =
    let more : times p (marks (before ++ m ∷ [])) ≡ times p (marks before) + one_if p m.mark =
    ap (times p) (map-append (λ (x : Marked). x.mark) before (m ∷ [])) ∙ times_more p (marks before) m.mark in
    elim (same_or p m.mark) [
      | inl s ↦ (let none : times p (marks before) ≡ 0 = subst (λ q. times q (marks before) ≡ 0) (sym s.1) (not_there m.mark before new) in let here : one_if p m.mark ≡ 1 = ap (λ b. cond b 1 0) s.0 in omega arith)
      | inr d ↦ (let le = once p in let here : one_if p m.mark ≡ 0 = ap (λ b. cond b 1 0) d.0 in omega arith)
    ]

-- where no mark is repeated each stands there once
all_once : (place : ℕ) (before rest : List Marked) → place ≡ length before → repeat_from place (before ++ rest) rest ≡ None → ((p : List ℕ) → times p (marks before) ≤ 1) → (p : List ℕ) → times p (marks (before ++ rest)) ≤ 1
all_once place before [] is e once p = subst (λ (l : List Marked). times p (marks l) ≤ 1) (sym (append-nil before)) (once p)
all_once place before (m ∷ rest) is e once p =
    by (is_marked m.mark (take place (before ++ m ∷ rest))) refl e (λ new left.
    all_once (place + 1) (before ++ m ∷ []) rest (ap (λ n. n + 1) is ∙ sym (length-append before (m ∷ []))) (subst (λ (l : List Marked). repeat_from (place + 1) l rest ≡ None) (sym longer) left) (one_more before m once new) p)
  where
    front : take place (before ++ m ∷ rest) ≡ before
    front = ap (λ n. take n (before ++ m ∷ rest)) is ∙ take-append_seam before (m ∷ rest)

    longer : (before ++ m ∷ []) ++ rest ≡ before ++ m ∷ rest
    longer = append_assoc before (m ∷ []) rest

    by : (b : Bool) → is_marked m.mark (take place (before ++ m ∷ rest)) ≡ b → (if b then Some m.text else repeat_from (place + 1) (before ++ m ∷ rest) rest) ≡ None
        → (is_marked m.mark before ≡ false → repeat_from (place + 1) (before ++ m ∷ rest) rest ≡ None → times p (marks ((before ++ m ∷ []) ++ rest)) ≤ 1) → times p (marks (before ++ m ∷ rest)) ≤ 1
    by true found e go = absurd (cc)
    by false found e go = subst (λ (l : List Marked). times p (marks l) ≤ 1) longer (go (ap (is_marked m.mark) (sym front) ∙ found) e)

no_text : (o : Option (List ℕ)) → option_map (λ text. DuplicateName text) o ≡ None → o ≡ None
no_text None e = refl
no_text (Some text) e = absurd (cc)

no_repeat : (all : List Marked) → repeat_fault all ≡ None → (p : List ℕ) → times p (marks all) ≤ 1
unfolding repeat_fault
no_repeat all e = all_once 0 [] all refl (no_text (repeat_from 0 all all) e) (λ p. omega arith)

-- the marks of the paths of a description are its sink names
path_marks : (outputs : List OutputConf) → marks (map (λ (output : OutputConf). plain output.path) outputs) ≡ at_of (map output_party outputs)
path_marks [] = refl
path_marks (output ∷ outputs) = ap (λ l. output.path ∷ l) (path_marks outputs)

all_marks : (conf : Conf) → marks (paths_of conf) ≡ sink_names (described_parties conf)
unfolding paths_of
all_marks conf = by conf.order_log
  where
    by : (log : Option (List ℕ)) → marks (map plain (Rattle.std.specs.Prelude.option_to_list log) ++ map (λ (output : OutputConf). plain output.path) conf.outputs) ≡ log_and log (at_of (map output_party conf.outputs))
    by None = path_marks conf.outputs
    by (Some path) = ap (λ l. path ∷ l) (path_marks conf.outputs)

paths_kept : (entries : Members) → tree_fault entries ≡ None → repeat_fault (paths_of (conf_of entries)) ≡ None
unfolding tree_fault
paths_kept entries e =
    let tables = first_of_two (tables_fault entries) _ e in
    let input = first_of_two (no_input (conf_of entries)) _ tables.1 in
    let output = first_of_two (no_output (conf_of entries)) _ input.1 in
    let names = first_of_two (repeat_fault (names_of (conf_of entries))) _ output.1 in
    (first_of_two (repeat_fault (paths_of (conf_of entries))) _ names.1).0

paths_differ : (octets : List ℕ) (conf : Conf) → description octets ≡ Ok conf → repeat_fault (paths_of conf) ≡ None
unfolding description
paths_differ octets conf e = tree (tree_of octets) e
  where
    fault : (entries : Members) (o : Option ConfFault) → tree_fault entries ≡ o → unless_fault (conf_of entries) o ≡ Ok conf → repeat_fault (paths_of conf) ≡ None
    fault entries (Some f) is e = absurd (cc)
    fault entries None is e = let same : conf_of entries ≡ conf = cc in subst (λ (c : Conf). repeat_fault (paths_of c) ≡ None) same (paths_kept entries is)

    tree : (o : Option Members) → tree_conf o ≡ Ok conf → repeat_fault (paths_of conf) ≡ None
    tree None e = absurd (cc)
    tree (Some entries) e = fault entries (tree_fault entries) refl e

pub distinct_names : (octets : List ℕ) (conf : Conf) → description octets ≡ Ok conf → AreDistinct (sink_names (described_parties conf))
distinct_names octets conf e = subst AreDistinct (all_marks conf) (no_repeat (paths_of conf) (paths_differ octets conf e))
