-- What a message is decoded to has room in a message: no more than it had.
use Rattle.std.proofs.Common.{◌≡◌, ℕ, zero, suc, ◌+◌, ◌<◌, ◌≤◌, Bool, true, false, cond, List, [], ◌∷◌, ◌++◌, Option, Some, None, length, take, drop, ap, sym, ◌∙◌, arith, take-append-drop, length-append, length-drop}
use Rattle.std.specs.Prelude.{nat_lt, sum_by, option_map, ⊤}
use Rattle.std.specs.List.{AllByRecursion, concat}
use Rattle.std.proofs.lemmas.List.Sums.{sum_by-append, sum_by-cons}
use Rattle.col_base.specs.declared.base.Kind.{Kind}
use Rattle.col_base.specs.Numbers.{be16_at}
use Rattle.wire_spec.specs.declared.field.FieldSpec.{FieldSpec}
use Rattle.wire_spec.specs.Content.{Definition, Message, Part, SayParts, Says, SaysPart, Touch}
use Rattle.wire_spec.specs.Content.Part.{Touches, Body}
use Rattle.wire_spec.specs.Message.{IsSet, kind_of}
use Rattle.wire_spec.specs.Record.{shortest}
use Rattle.wire_spec.specs.Size.{record_size}
use Rattle.wire_spec.proofs.ApartLemmas.{sized_set}
use Rattle.template_spec.specs.Valid.{valid}
use Rattle.arrival_spec.specs.Settings.{Settings}
use Rattle.run_spec.specs.Judge.{Judgement}
use Rattle.run_spec.specs.Judge.Judgement.{Malformed, Crowded, Late, Taken}
use Rattle.run_spec.specs.Records.{Record, body_behind, put_first, record_of, records_of, records_within}
use Rattle.run_spec.specs.Outcome.{by_definition, by_records, decoded_in, decoded_sets, outcome, outcomes_after}
use Rattle.run_spec.specs.Outcome.SkipReason.{ReservedId}
use Rattle.run_spec.specs.Outcome.Outcome.{Skipped}
use Rattle.run_spec.specs.Touches.{dated, touches_before}
use Rattle.run_spec.specs.Work.{outcomes_if}
use Rattle.file_spec.specs.Fit.{message_octets, set_octets}
use Rattle.file_spec.proofs.CutLemmas.{framed}

-- records have so many octets at most, if there are any
abbrev Within : ℕ → Option (List Record) → Type 0
Within most None = ⊤
Within most (Some records) = sum_by (λ (r : Record). length r.octets) records ≤ most

first_within : (fields : List FieldSpec) (body : List ℕ) (size : ℕ) (more : Option (List Record)) → Within (length (drop size body)) more → Within (length body) (option_map (λ records. record_of fields (take size body) ∷ records) more)
first_within fields body size None w = tt
first_within fields body size (Some records) w =
    let l : length body ≡ length (take size body) + length (drop size body) = ap length (sym (take-append-drop size body)) ∙ length-append (take size body) (drop size body) in
    let s = sum_by-cons (λ (r : Record). length r.octets) (record_of fields (take size body)) records in
    omega arith

size_within : (fields : List FieldSpec) (body : List ℕ) (n : ℕ) → ((later : List ℕ) → Within (length later) (records_within n fields later)) → (o : Option ℕ)
    → Within (length body) (put_first fields body o (records_within n fields (body_behind body o)))
size_within fields body n more None = tt
size_within fields body n more (Some size) = first_within fields body size (records_within n fields (drop size body)) (more (drop size body))

short_within : (fields : List FieldSpec) (body : List ℕ) (n : ℕ) → ((later : List ℕ) → Within (length later) (records_within n fields later)) → (b : Bool)
    → Within (length body) (cond b (Some []) (put_first fields body (record_size fields body) (records_within n fields (body_behind body (record_size fields body)))))
short_within fields body n more true = omega arith
short_within fields body n more false = size_within fields body n more (record_size fields body)

all_within : (n : ℕ) (fields : List FieldSpec) (body : List ℕ) → Within (length body) (records_within n fields body)
all_within zero fields body = omega arith
all_within (suc n) fields body = short_within fields body n (all_within n fields) (nat_lt (length body) (shortest fields))

-- a set with its records
records_room : (id : ℕ) (body : List ℕ) (def : Definition) (o : Option (List Record)) → Within (length body) o → sum_by set_octets (decoded_in (by_records id def o)) ≤ 4 + length body
records_room id body def None w = omega arith
records_room id body def (Some []) w = omega arith
records_room id body def (Some (x ∷ records)) w =
    let s = sum_by-cons set_octets (record { id = id; definition = def; records = x ∷ records }) [] in
    omega arith

body_room : (id : ℕ) (body : List ℕ) (found : Option Definition) → sum_by set_octets (decoded_in (by_definition id body found)) ≤ 4 + length body
body_room id body None = omega arith
body_room id body (Some def) = records_room id body def (records_of def.fields body) (all_within (length body) def.fields body)

id_room : (id : ℕ) (body : List ℕ) (found : Option Definition) (b : Bool) → sum_by set_octets (decoded_in (cond b (Skipped ReservedId) (by_definition id body found))) ≤ 4 + length body
id_room id body found true = omega arith
id_room id body found false = body_room id body found

part_room : (settings : Settings) (time : ℕ) (touches : List (ℕ × Touch)) (kind : Option Kind) (set : List ℕ) (p : Part) → SaysPart kind set p → 4 ≤ length set → sum_by set_octets (decoded_in (outcome settings time touches p)) ≤ length set
part_room settings time touches kind set (Touches new) says head = omega arith
part_room settings time touches (Some kind) set (Body id body) says head = absurd (let e = says.2 in cc)
part_room settings time touches None set (Body id body) says head =
    let e : body ≡ drop 4 set = cc in
    let l = ap length e ∙ length-drop 4 set in
    let room = id_room id body (valid settings.transport settings.life touches time id) (nat_lt id 256) in
    omega arith

parts_room : (settings : Settings) (time : ℕ) (touches : List (ℕ × Touch)) (sets : List (List ℕ)) (parts : List Part) → SayParts sets parts → AllByRecursion IsSet sets
    → sum_by set_octets (decoded_sets (outcomes_after settings time touches parts)) ≤ length (concat sets)
parts_room settings time touches [] [] say are = omega arith
parts_room settings time touches [] (p ∷ parts) say are = absurd say
parts_room settings time touches (s ∷ sets) [] say are = absurd say
parts_room settings time touches (s ∷ sets) (p ∷ parts) say are =
    let head = (sized_set s are.0.unbroken).head in
    let first = part_room settings time touches (kind_of (be16_at 0 s)) s p say.0 head in
    let rest = parts_room settings time (touches ++ dated settings.transport time p) sets parts say.1 are.1 in
    let l = length-append s (concat sets) in
    let sum = sum_by-append set_octets (decoded_in (outcome settings time touches p)) (decoded_sets (outcomes_after settings time (touches ++ dated settings.transport time p) parts)) in
    omega arith

message_room : (settings : Settings) (time : ℕ) (touches : List (ℕ × Touch)) (octets : List ℕ) (m : Message) → Says octets m → length octets ≤ 65535
    → message_octets (decoded_sets (outcomes_after settings time touches m.parts)) ≤ 65535
message_room settings time touches octets m says most =
    let row = says.are.body in
    let header = (framed octets says.sets says.are).header in
    let l = ap length row.whole in
    let n = length-drop 16 octets in
    let k = length-append (concat says.sets) row.end in
    let w = parts_room settings time touches says.sets m.parts says.parts row.each in
    omega arith

-- what a message gives, however it is judged
pub judged_room : (settings : Settings) (before : List Message) (octets : List ℕ) (m : Message) → Says octets m → length octets ≤ 65535 → (j : Judgement) → message_octets (decoded_sets (outcomes_if settings before m j)) ≤ 65535
judged_room settings before octets m says most (Malformed fault) = omega arith
judged_room settings before octets m says most Crowded = omega arith
judged_room settings before octets m says most Late = omega arith
judged_room settings before octets m says most Taken = message_room settings m.export (touches_before settings before m.domain) octets m says most

-- a message is as long as its header says
pub short_message : (octets : List ℕ) (m : Message) → Says octets m → (n : ℕ) → n ≡ be16_at 2 octets → n < 65536 → length octets ≤ 65535
short_message octets m says n is most = let whole = (framed octets says.sets says.are).whole in omega arith
