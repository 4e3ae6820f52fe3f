-- The lines of a body, record by record.
use Rattle.std.proofs.Common.{◌≡◌, ℕ, ◌<◌, inl, inr, Bool, true, false, List, [], ◌∷◌, ◌++◌, length, take, map, refl, ap, sym, subst, ◌∙◌, append_assoc}
use Rattle.std.specs.Prelude.{Some, None, Result, Ok, Err, OnErr, if◌then◌else◌}
use Rattle.std.specs.List.{AllByRecursion, flat_map, concat}
use Rattle.std.proofs.Math.Seq.{take-append_seam}
use Rattle.std.proofs.lemmas.List.{append-nil}
use Rattle.std.proofs.lemmas.Grind.{flat_map-append}
use Rattle.wire_spec.specs.declared.field.FieldSpec.{FieldSpec}
use Rattle.wire_spec.specs.Record.{IsRecord, IsSomeRecord, IsShort, IsRecords, shortest}
use Rattle.wire_spec.specs.Content.{Definition}
use Rattle.wire_spec.proofs.RowLemmas.{one_goes_on}
use Rattle.wire_spec.proofs.RecordLemmas.{BeginNone, records_apart, one_list}
use Rattle.wire_spec.proofs.UniqueLemmas.{one_values}
use Rattle.text_spec.specs.declared.element.Element.{Element}
use Rattle.run_spec.specs.Records.{Record, AreRecordsOf}
use Rattle.run_spec.specs.Result.{record_text, is_printed}
use Rattle.record_iter.specs.Walk.{HaveRecords, GivesRecord}
use Rattle.record_iter.proofs.WalkLemmas.{records_none, records_more, records_all}
use Rattle.prepared_lines.specs.Front.{GrowsByFront}
use Rattle.prepared_lines.proofs.LineLemmas.{values_many}
use Rattle.json_output.specs.declared.prepared.Prepared.{Prepared}
use Rattle.json_output.specs.Printed.{records_text}
use Rattle.json_output.specs.Suits.{text_by, Suits, PutsBy}

abbrev pub octets_of : List Record → List (List ℕ)
octets_of records = map (λ (r : Record). r.octets) records

-- each record has these values
abbrev pub Each : List FieldSpec → List Record → Type 0
Each fields records = AllByRecursion (λ (r : Record). IsRecord fields r.octets r.values) records

-- what was prepared puts of records
abbrev pub lines_by : Prepared → List Record → List ℕ
lines_by prepared records = flat_map (λ (r : Record). text_by prepared.line r.values) records

-- What the loop over a body's records keeps: the records so far with their values, and their lines behind what was there.
pub record HaveLines (def : Definition) (prepared : Prepared) (body : List ℕ) (left : List FieldSpec) (rest before now : List ℕ) : Type 0 where
  pub records : List Record
  pub have : HaveRecords def.fields body left rest (map (λ (r : Record). r.octets) records)
  pub each : AllByRecursion (λ (r : Record). IsRecord def.fields r.octets r.values) records
  pub text : now ≡ before ++ lines_by prepared records

-- what holds of every result holds of an error
pub on_err : {T E P : Type 0} (r : Result T E) → P → OnErr r P
on_err (Ok x) p = tt
on_err (Err e) p = p

-- before the first record
pub lines_none : (def : Definition) (prepared : Prepared) (body : List ℕ) (left : List FieldSpec) (rest before now : List ℕ) → left ≡ def.fields → rest ≡ body → now ≡ before → HaveLines def prepared body left rest before now
lines_none def prepared body left rest before now same is e = record { records = []; have = records_none def.fields left body rest same is; each = tt; text = e ∙ sym (append-nil before) }

map_more : (records : List Record) (r : Record) → map (λ (x : Record). x.octets) (records ++ r ∷ []) ≡ map (λ (x : Record). x.octets) records ++ r.octets ∷ []
map_more [] r = refl
map_more (x ∷ records) r = ap (λ (l : List (List ℕ)). x.octets ∷ l) (map_more records r)

each_more : (fields : List FieldSpec) (records : List Record) (r : Record) → Each fields records → IsRecord fields r.octets r.values → Each fields (records ++ r ∷ [])
each_more fields [] r each is = (is, tt)
each_more fields (x ∷ records) r each is = (each.0, each_more fields records r each.1 is)

-- one more record
pub lines_more : (def : Definition) (prepared : Prepared) (body : List ℕ) (left : List FieldSpec) (rest before now after : List ℕ) (next : List FieldSpec) (first new : List ℕ)
    → HaveLines def prepared body left rest before now → GivesRecord left rest (Some first) new × (next ≡ left) → PutsBy def prepared first now after → HaveLines def prepared body next new before after
lines_more def prepared body left rest before now after next first new h g put =
    let r : Record = record { octets = first; values = put.0 } in
    let more : lines_by prepared (h.records ++ r ∷ []) ≡ lines_by prepared h.records ++ text_by prepared.line put.0 =
    flat_map-append (λ (x : Record). text_by prepared.line x.values) h.records (r ∷ []) ∙ ap (λ l. lines_by prepared h.records ++ l) (append-nil (text_by prepared.line put.0)) in
    record {
      records = h.records ++ r ∷ [];
      have = subst (λ (l : List (List ℕ)). HaveRecords def.fields body next new l) (sym (map_more h.records r)) (records_more next first new h.have g);
      each = each_more def.fields h.records r h.each put.1;
      text = put.2 ∙ ap (λ t. t ++ text_by prepared.line put.0) h.text ∙ append_assoc before _ _ ∙ ap (λ t. before ++ t) (sym more);
    }

-- the first records are those whose octets come first
pub record GoesOn (records before : List Record) : Type 0 where
  pub more : List Record
  pub are : records ≡ before ++ more

first_records : (fields : List FieldSpec) (records before : List Record) (more : List (List ℕ)) → Each fields records → Each fields before → octets_of records ≡ octets_of before ++ more → GoesOn records before
first_records fields records [] more a b e = record { more = records; are = refl }
first_records fields [] (x ∷ before) more a b e = absurd cc
first_records fields (y ∷ records) (x ∷ before) more a b e =
    let octets : y.octets ≡ x.octets = cc in
    let others : octets_of records ≡ octets_of before ++ more = cc in
    let values = one_values fields x.octets y.values x.values (subst (λ (o : List ℕ). IsRecord fields o y.values) octets a.0) b.0 in
    let rest = first_records fields records before more a.1 b.1 others in
    let same : y ≡ x = ap (λ (o : List ℕ). record y { octets = o }) octets ∙ ap (λ (v : List (List ℕ)). record x { values = v }) values in
    record { more = rest.more; are = ap (λ (l : List Record). y ∷ l) rest.are ∙ ap (λ (r : Record). r ∷ (before ++ rest.more)) same }

short_is_end : (fields : List FieldSpec) → 0 < shortest fields → (more : List (List ℕ)) (rest end : List ℕ) → AllByRecursion (IsSomeRecord fields) more → IsShort fields end → end ≡ concat more ++ rest → more ≡ []
short_is_end fields some [] rest end all short e = refl
short_is_end fields some (a ∷ more) rest end all short e =
    absurd ((records_apart fields some).item_or_end a (concat more ++ rest) all.0 (subst (λ (o : List ℕ). IsShort fields o) (e ∙ append_assoc a (concat more) rest) short))

-- records that were found in a body are the first of its records
pub are_first : (def : Definition) → 0 < shortest def.fields → (prepared : Prepared) (body : List ℕ) (left : List FieldSpec) (rest before now : List ℕ) → (h : HaveLines def prepared body left rest before now)
    → (records : List Record) → AreRecordsOf def body records → GoesOn records h.records
are_first def some prepared body left rest before now h records are =
    let found = map (λ (r : Record). r.octets) h.records in
    let all = map (λ (r : Record). r.octets) records in
    elim (one_goes_on (IsSomeRecord def.fields) (IsShort def.fields) (BeginNone def.fields) (records_apart def.fields some) found all rest are.cut.end h.have.each are.cut.each (sym h.have.whole ∙ are.cut.whole)) [
      | inl g ↦ first_records def.fields records h.records g.more are.each h.each g.are
      | inr g ↦ first_records def.fields records h.records [] are.each h.each
          (sym (append-nil all) ∙ ap (λ (m : List (List ℕ)). all ++ m) (sym (short_is_end def.fields some g.more rest are.cut.end g.each are.cut.ends g.left)) ∙ sym g.are ∙ sym (append-nil found))
    ]

-- the lines of records are those that are printed of them
text_if : (b : Bool) (f : Record → List ℕ) (r : Record) (rest : List ℕ) (records : List Record) → rest ≡ (if b then flat_map f records else []) → (if b then f r else []) ++ rest ≡ (if b then flat_map f (r ∷ records) else [])
text_if true f r rest records e = ap (λ l. f r ++ l) e
text_if false f r rest records e = e

no_lines : (b : Bool) (f : Record → List ℕ) → [] ≡ (if b then flat_map f [] else [])
no_lines true f = refl
no_lines false f = refl

pub printed_lines : (options : Bool) (table : List Element) (def : Definition) (prepared : Prepared) (records : List Record) → Suits options table def prepared
    → AllByRecursion (λ (r : Record). IsRecord def.fields r.octets r.values) records → lines_by prepared records ≡ records_text options table def records
printed_lines options table def prepared [] suits each = no_lines (is_printed options def.kind) (record_text table def)
printed_lines options table def prepared (r ∷ records) suits each =
    ap (λ l. l ++ lines_by prepared records) (suits.text r.values (values_many def.fields r.octets r.values each.0))
    ∙ text_if (is_printed options def.kind) (record_text table def) r (lines_by prepared records) records (printed_lines options table def prepared records suits each.1)

-- a front of the lines was put
pub lines_front : (def : Definition) → 0 < shortest def.fields → (prepared : Prepared) (body : List ℕ) (left : List FieldSpec) (rest before now : List ℕ) → HaveLines def prepared body left rest before now
    → (options : Bool) (table : List Element) (records : List Record) → Suits options table def prepared → AreRecordsOf def body records → GrowsByFront before now (records_text options table def records)
lines_front def some prepared body left rest before now h options table records suits are =
    let g = are_first def some prepared body left rest before now h records are in
    let parts : records_text options table def records ≡ lines_by prepared h.records ++ lines_by prepared g.more =
    sym (printed_lines options table def prepared records suits are.each) ∙ ap (lines_by prepared) g.are ∙ flat_map-append (λ (x : Record). text_by prepared.line x.values) h.records g.more in
    (length (lines_by prepared h.records), h.text ∙ ap (λ l. before ++ l) (sym (ap (λ t. take (length (lines_by prepared h.records)) t) parts ∙ take-append_seam (lines_by prepared h.records) (lines_by prepared g.more))))

-- a body has one list of records with their values
same_records : (fields : List FieldSpec) (a b : List Record) → Each fields a → Each fields b → octets_of a ≡ octets_of b → a ≡ b
same_records fields [] [] p q e = refl
same_records fields [] (y ∷ b) p q e = absurd cc
same_records fields (x ∷ a) [] p q e = absurd cc
same_records fields (x ∷ a) (y ∷ b) p q e =
    let octets : x.octets ≡ y.octets = cc in
    let rest : octets_of a ≡ octets_of b = cc in
    let values = one_values fields x.octets x.values y.values p.0 (subst (λ (o : List ℕ). IsRecord fields o y.values) (sym octets) q.0) in
    let first : x ≡ y = ap (λ (o : List ℕ). record x { octets = o }) octets ∙ ap (λ (v : List (List ℕ)). record y { values = v }) values in
    let others = same_records fields a b p.1 q.1 rest in
    cc

-- the lines of all records were put
pub lines_all : (def : Definition) → 0 < shortest def.fields → (prepared : Prepared) (body : List ℕ) (left : List FieldSpec) (rest before now : List ℕ) (next : List FieldSpec) (new : List ℕ)
    → HaveLines def prepared body left rest before now → GivesRecord left rest None new × (next ≡ left)
    → (options : Bool) (table : List Element) (records : List Record) → Suits options table def prepared → AreRecordsOf def body records → now ≡ before ++ records_text options table def records
lines_all def some prepared body left rest before now next new h g options table records suits are =
    let found : IsRecords def.fields body (map (λ (r : Record). r.octets) h.records) = records_all next new h.have g in
    let octets = one_list def.fields some body _ _ are.cut found in
    h.text ∙ ap (λ l. before ++ l) (ap (lines_by prepared) (same_records def.fields h.records records h.each are.each (sym octets)) ∙ printed_lines options table def prepared records suits are.each)
