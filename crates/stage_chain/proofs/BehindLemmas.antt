-- Records behind intermediates, and messages set by set.
use Rattle.std.proofs.Common.{◌≡◌, ℕ, Bool, true, false, not, cond, List, [], ◌∷◌, ◌++◌, length, map, refl, ap, sym, ◌∙◌}
use Rattle.std.specs.Prelude.{◌==◌, filter}
use Rattle.std.specs.List.{AllByRecursion}
use Rattle.std.proofs.lemmas.Bool.{eqb-true}
use Rattle.std.proofs.lemmas.List.{map-append, nil_from_length}
use Rattle.std.proofs.lemmas.List.Elements.{filter-append}
use Rattle.col_base.specs.declared.base.SessionKey.{SessionKey}
use Rattle.wire_spec.specs.Content.{Definition}
use Rattle.wire_spec.specs.Record.{IsSomeRecord}
use Rattle.wire_spec.proofs.ValuesLemmas.{values_are}
use Rattle.config_spec.specs.declared.conf.StageConf.{StageConf}
use Rattle.config_spec.specs.declared.conf.StageWork.{StageWork}
use Rattle.config_spec.specs.declared.conf.StageWork.TheVariants.{Filter, Anonymise}
use Rattle.config_spec.specs.declared.tables.AnonTable.{AnonTable}
use Rattle.act_spec.specs.Filter.{keeps}
use Rattle.act_spec.specs.Anonymise.{hidden_octets, hidden_values}
use Rattle.act_spec.proofs.HiddenLemmas.{hidden_is}
use Rattle.file_spec.specs.File.{has_records}
use Rattle.run_spec.specs.Records.{Record, record_of}
use Rattle.run_spec.specs.Outcome.{DecodedSet}
use Rattle.run_spec.specs.Work.Item.{Data}
use Rattle.result_spec.specs.Through.{hidden_record, records_through, set_through, sets_through, items_through}
use Rattle.stage_chain.specs.Behind.{records_behind, set_behind, sets_behind, works_of}

-- of no record nothing is left
pub none_behind : (works : List StageWork) (def : Definition) → records_behind works def [] ≡ []
none_behind [] def = refl
none_behind (Filter table ∷ works) def = none_behind works def
none_behind (Anonymise table ∷ works) def = none_behind works def

through_append : (work : StageWork) (def : Definition) (a b : List Record) → records_through work def (a ++ b) ≡ records_through work def a ++ records_through work def b
through_append (Filter table) def a b = filter-append (λ r. keeps table def.fields r.values) a b
through_append (Anonymise table) def a b = map-append (hidden_record table def) a b

pub behind_append : (works : List StageWork) (def : Definition) (a b : List Record) → records_behind works def (a ++ b) ≡ records_behind works def a ++ records_behind works def b
behind_append [] def a b = refl
behind_append (w ∷ works) def a b = ap (records_behind works def) (through_append w def a b) ∙ behind_append works def (records_through w def a) (records_through w def b)

-- An anonymiser leaves one record of the same fields.
pub hidden_one : (table : AnonTable) (def : Definition) (octets : List ℕ) → IsSomeRecord def.fields octets → hidden_record table def (record_of def.fields octets) ≡ record_of def.fields (hidden_octets table def.fields octets)
hidden_one table def octets r =
    let now = values_are def.fields octets r.0 r.1 in
    let later = values_are def.fields (hidden_octets table def.fields octets) (hidden_values table def.fields r.0) (hidden_is table def.fields octets r.0 r.1) in
    ap (λ (v : List (List ℕ)). record { octets = hidden_octets table def.fields octets; values = v }) (ap (hidden_values table def.fields) now ∙ sym later)

-- ---- sets

-- a number is 0, or it isn't
zero_of : (n : ℕ) → not (n == 0) ≡ false → n ≡ 0
zero_of n e = by_test (n == 0) refl e
  where
    by_test : (b : Bool) → (n == 0) ≡ b → not b ≡ false → n ≡ 0
    by_test true is e = eqb-true n 0 is
    by_test false is e = absurd cc

pub not_zero : (n : ℕ) → (n ≡ 0 → ⊥) → not (n == 0) ≡ true
not_zero n some = by_test (n == 0) refl
  where
    by_test : (b : Bool) → (n == 0) ≡ b → not b ≡ true
    by_test true is = absurd (some (eqb-true n 0 is))
    by_test false is = refl

behind_none : (works : List StageWork) (d : DecodedSet) → has_records d ≡ false → has_records (set_behind works d) ≡ false
behind_none works d none =
    let e = nil_from_length d.records (zero_of (length d.records) none) in
    ap (λ (l : List Record). not (length (records_behind works d.definition l) == 0)) e ∙ ap (λ (l : List Record). not (length l == 0)) (none_behind works d.definition)

-- sets that go behind the first intermediate go behind all
behind_first : (w : StageWork) (works : List StageWork) (sets : List DecodedSet) → sets_behind works (sets_through w sets) ≡ sets_behind (w ∷ works) sets
behind_first w works [] = refl
behind_first w works (d ∷ sets) = by_test (has_records (set_through w d)) refl (behind_first w works sets)
  where
    by_test : (b : Bool) → has_records (set_through w d) ≡ b → sets_behind works (sets_through w sets) ≡ sets_behind (w ∷ works) sets
        → sets_behind works (cond b (set_through w d ∷ sets_through w sets) (sets_through w sets)) ≡ sets_behind (w ∷ works) (d ∷ sets)
    by_test true some rest =
        ap (λ (l : List DecodedSet). cond (has_records (set_behind works (set_through w d))) (set_behind works (set_through w d) ∷ l) l) rest
    by_test false none rest =
        rest ∙ sym (ap (λ b. cond b (set_behind works (set_through w d) ∷ sets_behind (w ∷ works) sets) (sets_behind (w ∷ works) sets)) (behind_none works (set_through w d) none))

all_there : (sets : List DecodedSet) → AllByRecursion (λ d. has_records d ≡ true) sets → sets_behind [] sets ≡ sets
all_there [] all = refl
all_there (d ∷ sets) all =
    ap (λ b. cond b (d ∷ sets_behind [] sets) (sets_behind [] sets)) all.0 ∙ ap (λ (l : List DecodedSet). d ∷ l) (all_there sets all.1)

pub some_left : (sets : List DecodedSet) → AllByRecursion (λ d. has_records d ≡ true) (filter has_records sets)
some_left [] = tt
some_left (d ∷ sets) = by_test (has_records d) refl (some_left sets)
  where
    by_test : (b : Bool) → has_records d ≡ b → AllByRecursion (λ e. has_records e ≡ true) (filter has_records sets)
        → AllByRecursion (λ e. has_records e ≡ true) (cond b (d ∷ filter has_records sets) (filter has_records sets))
    by_test true some rest = (some, rest)
    by_test false none rest = rest

-- A message whose sets have records goes through the intermediates set by set.
pub message_behind : (stages : List StageConf) (key : SessionKey) (domain export sequence : ℕ) (sets : List DecodedSet) → AllByRecursion (λ d. has_records d ≡ true) sets
    → items_through stages (Data key domain export sequence sets ∷ []) ≡ Data key domain export sequence (sets_behind (works_of stages) sets) ∷ []
message_behind [] key domain export sequence sets all = ap (λ (l : List DecodedSet). Data key domain export sequence l ∷ []) (sym (all_there sets all))
message_behind (s ∷ stages) key domain export sequence sets all =
    message_behind stages key domain export sequence (sets_through s.work sets) (some_left (map (set_through s.work) sets))
    ∙ ap (λ (l : List DecodedSet). Data key domain export sequence l ∷ []) (behind_first s.work (works_of stages) sets)
