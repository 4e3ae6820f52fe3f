-- Sets whose records are counted.
use Rattle.std.proofs.Common.{◌≡◌, ℕ, ◌+◌, ◌<◌, ◌≤◌, List, [], ◌∷◌, ◌++◌, length, map, ap, sym, refl, ◌∙◌, arith, subst, append-nil, length-append}
use Rattle.std.specs.List.{AllByRecursion, concat, flat_map}
use Rattle.std.proofs.lemmas.List.{length-map}
use Rattle.std.proofs.lemmas.List.Sums.{sum_by-cons}
use Rattle.wire_spec.specs.declared.field.FieldSpec.{FieldSpec}
use Rattle.wire_spec.specs.Content.{Definition}
use Rattle.wire_spec.specs.Record.{IsSomeRecord, IsRecords, shortest}
use Rattle.wire_spec.proofs.RecordLemmas.{record_least}
use Rattle.run_spec.specs.Records.{Record}
use Rattle.run_spec.specs.Outcome.{DecodedSet}
use Rattle.run_spec.specs.Work.{Item}
use Rattle.run_spec.specs.Work.Item.{Note, Tick, Data}
use Rattle.file_output.specs.declared.file_set.FileSet.{FileSet}
use Rattle.file_output.specs.declared.file_set.CountedSet.{CountedSet}
use Rattle.file_output.specs.Sets.{sets_size}
use Rattle.file_output.specs.Stands.{IsOfSet, AreOfSets, IsItemOf}
use Rattle.file_output.specs.FileSets.{file_sets_size, IsFileSet, AreFileSets, IsFileItem}
use Rattle.file_output.specs.Counted.{counted_body, IsCounted, AreCounted}

counted_more : (sets : List FileSet) (counted : List CountedSet) (s : FileSet) (c : CountedSet) → AreCounted sets counted → IsCounted s c → AreCounted (sets ++ s ∷ []) (counted ++ c ∷ [])
counted_more [] [] s c a i = (i, tt)
counted_more [] (d ∷ counted) s c a i = absurd a
counted_more (r ∷ sets) [] s c a i = absurd a
counted_more (r ∷ sets) (d ∷ counted) s c a i = (a.0, counted_more sets counted s c a.1 i)

pub counted_pushed : (sets : List FileSet) (counted now : List CountedSet) (s : FileSet) (c : CountedSet) → now ≡ counted ++ c ∷ [] → AreCounted sets counted → IsCounted s c → AreCounted (sets ++ s ∷ []) now
counted_pushed sets counted now s c e a i = subst (AreCounted (sets ++ s ∷ [])) (sym e) (counted_more sets counted s c a i)

-- what was counted of the same definition and octets
pub is_counted : (s : FileSet) (c : CountedSet) (d : Definition) (o : List ℕ) → d ≡ s.def.value → o ≡ s.octets → c.definition.now.value ≡ s.def.value → c.octets.now ≡ s.octets
    → ((list : List (List ℕ)) → IsRecords d.fields o list → c.records ≡ length list) → 0 < shortest d.fields → IsCounted s c
is_counted s c d o same there definition octets records some =
    record {
      definition = definition;
      octets = octets;
      records = λ list are. records list (subst (λ (x : Definition). IsRecords x.fields o list) (sym same) (subst (λ (x : List ℕ). IsRecords s.def.value.fields x list) (sym there) are));
      shortest = subst (λ (x : Definition). 0 < shortest x.fields) same some;
    }

pub counted_sized : (sets : List FileSet) (counted : List CountedSet) → AreCounted sets counted → sets_size counted_body counted ≡ file_sets_size sets
counted_sized [] [] a = refl
counted_sized [] (c ∷ counted) a = absurd a
counted_sized (s ∷ sets) [] a = absurd a
counted_sized (s ∷ sets) (c ∷ counted) a =
    let one : length c.octets.now ≡ length s.octets = ap length a.0.octets in
    let more = counted_sized sets counted a.1 in
    let x = sum_by-cons (λ (t : CountedSet). 4 + length (counted_body t).octets) c counted in
    let y = sum_by-cons (λ (t : FileSet). 4 + length t.octets) s sets in
    omega arith

joined : (records : List Record) → flat_map (λ (r : Record). r.octets) records ≡ concat (map (λ (r : Record). r.octets) records)
joined [] = refl
joined (r ∷ records) = ap (λ o. r.octets ++ o) (joined records)

each_record : (fields : List FieldSpec) (records : List Record) → AllByRecursion (λ r. IsSomeRecord fields r.octets) records → AllByRecursion (IsSomeRecord fields) (map (λ (r : Record). r.octets) records)
each_record fields [] each = tt
each_record fields (r ∷ records) each = (each.0, each_record fields records each.1)

-- records of which some octets are joined, with no padding behind them
pub without_padding : (fields : List FieldSpec) → 0 < shortest fields → (octets : List ℕ) (list : List (List ℕ)) → octets ≡ concat list → AllByRecursion (IsSomeRecord fields) list → IsRecords fields octets list
without_padding fields some octets list whole each = record { end = []; whole = whole ∙ sym (append-nil (concat list)); each = each; ends = some }

is_of_set : (s : FileSet) (c : CountedSet) (d : DecodedSet) → IsCounted s c → IsFileSet s d → IsOfSet (counted_body c) d
is_of_set s c d i f =
    let each : AllByRecursion (IsSomeRecord s.def.value.fields) (map (λ (r : Record). r.octets) d.records) =
    subst (λ (x : Definition). AllByRecursion (IsSomeRecord x.fields) (map (λ (r : Record). r.octets) d.records)) (sym f.definition) (each_record d.definition.fields d.records f.each) in
    let are = without_padding s.def.value.fields i.shortest s.octets (map (λ (r : Record). r.octets) d.records) (f.octets ∙ joined d.records) each in
    record {
      definition = i.definition ∙ f.definition;
      octets = i.octets ∙ f.octets;
      records = i.records (map (λ (r : Record). r.octets) d.records) are ∙ length-map d.records (λ (r : Record). r.octets);
      some = f.some;
    }

are_of_sets : (sets : List FileSet) (counted : List CountedSet) (decoded : List DecodedSet) → AreCounted sets counted → AreFileSets sets decoded → AreOfSets counted_body counted decoded
are_of_sets [] [] [] a f = tt
are_of_sets [] (c ∷ counted) decoded a f = absurd a
are_of_sets [] [] (d ∷ decoded) a f = absurd f
are_of_sets (s ∷ sets) [] decoded a f = absurd a
are_of_sets (s ∷ sets) (c ∷ counted) [] a f = absurd f
are_of_sets (s ∷ sets) (c ∷ counted) (d ∷ decoded) a f = (is_of_set s c d a.0 f.0, are_of_sets sets counted decoded a.1 f.1)

pub file_item : (domain export : ℕ) (sets : List FileSet) (counted : List CountedSet) (item : Item) → AreCounted sets counted → IsFileItem domain export sets item → IsItemOf counted_body domain export counted item
file_item domain export sets counted (Data key d e sequence decoded) a p = (p.0, p.1, are_of_sets sets counted decoded a p.2)
file_item domain export sets counted (Note key transport opened) a p = absurd p
file_item domain export sets counted (Tick input seconds) a p = absurd p

-- octets shorter than the shortest record are none
pub none_short : (fields : List FieldSpec) (octets : List ℕ) (list : List (List ℕ)) → length octets < shortest fields → IsRecords fields octets list → 0 ≡ length list
none_short fields octets [] short are = refl
none_short fields octets (x ∷ list) short are =
    let least = record_least fields x are.each.0.0 are.each.0.1 in
    let a : length octets ≡ length (x ++ concat list) + length are.end = ap length are.whole ∙ length-append (x ++ concat list) are.end in
    let b = length-append x (concat list) in
    absurd (omega arith)

-- a step gives a record with an octet
pub one_counted : (fields : List FieldSpec) (body old first new : List ℕ) (list : List (List ℕ)) (count : ℕ) → 0 < shortest fields → IsSomeRecord fields first → old ≡ first ++ new
    → count ≡ length list → count + length old ≤ length body → (count + 1 ≡ length (list ++ first ∷ [])) × (count + 1 + length new ≤ length body)
one_counted fields body old first new list count some is whole counted room =
    let least = record_least fields first is.0 is.1 in
    let a : length old ≡ length first + length new = ap length whole ∙ length-append first new in
    let b = length-append list (first ∷ []) in
    (omega arith, omega arith)

-- one set and those behind it
pub one_sized : (s : FileSet) (sets : List FileSet) → file_sets_size (s ∷ sets) ≡ 4 + length s.octets + file_sets_size sets
one_sized s sets = sum_by-cons (λ (t : FileSet). 4 + length t.octets) s sets
