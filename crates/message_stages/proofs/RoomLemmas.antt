-- Intermediates leave no more octets than there were.
use Rattle.std.proofs.Common.{ℕ, ◌≤◌, Bool, true, false, cond, List, [], ◌∷◌, length, map, filter, sym, subst, arith}
use Rattle.std.specs.Prelude.{sum_by}
use Rattle.std.specs.List.{AllByRecursion}
use Rattle.std.proofs.lemmas.List.Sums.{sum_by-cons}
use Rattle.wire_spec.specs.declared.field.FieldSpec.{FieldSpec}
use Rattle.wire_spec.specs.Content.{Definition}
use Rattle.wire_spec.specs.Record.{IsRecord, IsSomeRecord}
use Rattle.wire_spec.specs.Values.{values_of}
use Rattle.wire_spec.proofs.ValuesLemmas.{values_are}
use Rattle.config_spec.specs.declared.conf.StageWork.{StageWork}
use Rattle.config_spec.specs.declared.conf.StageWork.TheVariants.{Filter, Anonymise}
use Rattle.config_spec.specs.declared.tables.AnonTable.{AnonTable}
use Rattle.act_spec.specs.Filter.{keeps}
use Rattle.act_spec.proofs.HiddenLemmas.{hidden_is, hidden_same_length}
use Rattle.run_spec.specs.Records.{Record}
use Rattle.run_spec.specs.Outcome.{DecodedSet}
use Rattle.file_spec.specs.File.{has_records}
use Rattle.file_spec.specs.Fit.{message_octets, set_octets}
use Rattle.file_spec.proofs.ValidLemmas.{all-filter}
use Rattle.result_spec.specs.Through.{hidden_record, records_through}
use Rattle.pipeline_message.specs.declared.message.Place.{Place}
use Rattle.pipeline_message.specs.declared.message.DataSet.{DataSet}
use Rattle.pipeline_message.specs.declared.message.DataMessage.{DataMessage}
use Rattle.pipeline_message.specs.Items.{IsRecordAt, IsSound, IsSoundSet, octets_at, record_at, set_of}
use Rattle.stage_chain.specs.Behind.{records_behind, set_behind, sets_behind}
use Rattle.message_stages.specs.Sets.{octets_now, AreSetsLeft}

abbrev IsOf : Definition → Record → Type 0
IsOf def r = IsRecord def.fields r.octets r.values

abbrev octets_in : List Record → ℕ
octets_in records = sum_by (λ (r : Record). length r.octets) records

-- records of a definition, of at most so many octets
record AreWithin (def : Definition) (most : ℕ) (records : List Record) : Type 0 where
  each : AllByRecursion (IsOf def) records
  inside : octets_in records ≤ most

fewer : (test : Record → Bool) (records : List Record) → octets_in (filter test records) ≤ octets_in records
fewer test [] = omega arith
fewer test (r ∷ records) = by_test (test r) (fewer test records)
  where
    by_test : (b : Bool) → octets_in (filter test records) ≤ octets_in records → octets_in (cond b (r ∷ filter test records) (filter test records)) ≤ octets_in (r ∷ records)
    by_test true le =
        let a = sum_by-cons (λ (x : Record). length x.octets) r records in
        let b = sum_by-cons (λ (x : Record). length x.octets) r (filter test records) in
        omega arith
    by_test false le = let a = sum_by-cons (λ (x : Record). length x.octets) r records in omega arith

as_many : (table : AnonTable) (def : Definition) (records : List Record) → AllByRecursion (IsOf def) records → AreWithin def (octets_in records) (map (hidden_record table def) records)
as_many table def [] each = record { each = tt; inside = omega arith }
as_many table def (r ∷ records) each =
    let rest = as_many table def records each.1 in
    let i = rest.inside in
    let l = hidden_same_length table def.fields r.octets r.values each.0 in
    let a = sum_by-cons (λ (x : Record). length x.octets) r records in
    let b = sum_by-cons (λ (x : Record). length x.octets) (hidden_record table def r) (map (hidden_record table def) records) in
    record { each = (hidden_is table def.fields r.octets r.values each.0, rest.each); inside = omega arith }

one_work : (work : StageWork) (def : Definition) (records : List Record) → AllByRecursion (IsOf def) records → AreWithin def (octets_in records) (records_through work def records)
one_work (Filter table) def records each =
    record { each = all-filter (IsOf def) (λ r. keeps table def.fields r.values) records each; inside = fewer (λ r. keeps table def.fields r.values) records }
one_work (Anonymise table) def records each = as_many table def records each

all_works : (works : List StageWork) (def : Definition) (records : List Record) → AllByRecursion (IsOf def) records → octets_in (records_behind works def records) ≤ octets_in records
all_works [] def records each = omega arith
all_works (w ∷ works) def records each =
    let one = one_work w def records each in
    let i = one.inside in
    let more = all_works works def (records_through w def records) one.each in
    omega arith

abbrev AreOfSet : DecodedSet → Type 0
AreOfSet d = AllByRecursion (IsOf d.definition) d.records

sets_within : (works : List StageWork) (sets : List DecodedSet) → AllByRecursion AreOfSet sets → sum_by set_octets (sets_behind works sets) ≤ sum_by set_octets sets
sets_within works [] each = omega arith
sets_within works (d ∷ sets) each = by_test (has_records (set_behind works d)) (sets_within works sets each.1) (all_works works d.definition d.records each.0)
  where
    by_test : (b : Bool) → sum_by set_octets (sets_behind works sets) ≤ sum_by set_octets sets → octets_in (records_behind works d.definition d.records) ≤ octets_in d.records
        → sum_by set_octets (cond b (set_behind works d ∷ sets_behind works sets) (sets_behind works sets)) ≤ sum_by set_octets (d ∷ sets)
    by_test true rest one =
        let a = sum_by-cons set_octets d sets in
        let b = sum_by-cons set_octets (set_behind works d) (sets_behind works sets) in
        omega arith
    by_test false rest one = let a = sum_by-cons set_octets d sets in omega arith

valued : (fields : List FieldSpec) (o : List ℕ) → IsSomeRecord fields o → IsRecord fields o (values_of fields o)
valued fields o is = subst (IsRecord fields o) (sym (values_are fields o is.0 is.1)) is.1

records_are : (def : Definition) (octets : List ℕ) (places : List Place) → AllByRecursion (IsRecordAt def.fields octets) places → AllByRecursion (IsOf def) (map (record_at def.fields octets) places)
records_are def octets [] sound = tt
records_are def octets (p ∷ places) sound = (valued def.fields (octets_at octets p) sound.0.1, records_are def octets places sound.1)

sets_are : (octets : List ℕ) (sets : List DataSet) → AllByRecursion (IsSoundSet octets) sets → AllByRecursion AreOfSet (map (set_of octets) sets)
sets_are octets [] sound = tt
sets_are octets (s ∷ sets) sound = (records_are s.def.value octets s.places.items sound.0.1, sets_are octets sets sound.1)

-- what is left of a message's sets has room where these have
room_behind : (works : List StageWork) (octets : List ℕ) (sets : List DataSet) → AllByRecursion (IsSoundSet octets) sets → message_octets (map (set_of octets) sets) ≤ 65535
    → message_octets (sets_behind works (map (set_of octets) sets)) ≤ 65535
room_behind works octets sets sound room = let less = sets_within works (map (set_of octets) sets) (sets_are octets sets sound) in omega arith

pub left_room : (works : List StageWork) (m : DataMessage) (copies : List ℕ) (left : List DataSet) → AreSetsLeft works m.octets.value m.sets.items copies left → IsSound m
    → message_octets (map (set_of (octets_now works m.octets.value copies)) left) ≤ 65535
left_room works m copies left l sound = subst (λ (sets : List DecodedSet). message_octets sets ≤ 65535) (sym l.are) (room_behind works m.octets.value m.sets.items sound.0 sound.1)
