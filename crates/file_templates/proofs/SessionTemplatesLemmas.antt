-- The domains of a session stand for its messages, one after another: the domain of a message is admitted or crowded
-- out, then the template records of its sets are taken, and at its end the domains stand for one message more.
use Rattle.std.proofs.Common.{◌≡◌, ◌≢◌, ℕ, ◌+◌, ◌<◌, ◌≤◌, inl, inr, Bool, true, false, not, ◌&&◌, ◌||◌, cond, List, [], ◌∷◌, ◌++◌, map, length, refl, ap, sym, subst, ◌∙◌, append_assoc, append-nil, length-append}
use Rattle.std.specs.Prelude.{◌==◌, nat_le, nat_lt, Option, None, Some, fold, filter, flat_map}
use Rattle.std.proofs.lemmas.Bool.{cases_Bool, cases_lt, eq-eqb, eqb-true, le-ltb, lt-ltb, le-leb, lt-leb, or_left, or_right, cond-true, cond-false, true≢false}
use Rattle.std.proofs.lemmas.List.Concat.{flat_map-append}
use Rattle.std.proofs.lemmas.List.Folds.{list_any-append}
use Rattle.std.proofs.lemmas.List.Sums.{fold-append}
use Rattle.col_base.specs.declared.base.Transport.TheVariants.{File}
use Rattle.wire_spec.specs.Content.{Definition, Touch, Part, Message}
use Rattle.wire_spec.specs.Content.Part.{Touches, Body}
use Rattle.template_spec.specs.Valid.{touched, last_touched, valid}
use Rattle.template_spec.specs.Late.{is_kept as is_counted}
use Rattle.arrival_spec.specs.Settings.{Settings}
use Rattle.run_spec.specs.Judge.{is_crowded, judge, is_taken}
use Rattle.run_spec.specs.Judge.Judgement.{Crowded, Taken}
use Rattle.run_spec.specs.Touches.{dated, touches_in, touches_before}
use Rattle.run_spec.specs.Domains.{is_among, kept_domains, with_domain}
use Rattle.wire_spec.specs.WellFormed.{IsWellFormed}
use Rattle.run_spec.specs.Records.{Record, AreRecordsOf, records_of}
use Rattle.run_spec.specs.Outcome.{Outcome, by_records, by_definition, outcome, outcomes, decoded_in}
use Rattle.run_spec.specs.Outcome.SkipReason.{ReservedId, NoTemplate}
use Rattle.run_spec.specs.Outcome.Outcome.{Touched, Skipped, Empty, Decoded}
use Rattle.run_spec.specs.Meaning.{IsOutcomeBy}
use Rattle.run_spec.specs.Work.{outcomes_if}
use Rattle.run_spec.proofs.DomainLemmas.{kept_domains-more, crowded_if}
use Rattle.run_spec.proofs.MoreLemmas.{one_more_touches}
use Rattle.run_spec.proofs.RecordLemmas.{records_there, records_found, no_records}
use Rattle.file_templates.specs.declared.domains.Domains.{Domains}
use Rattle.file_templates.specs.SessionTemplates.{of_file, is_kept, count_kept, templates_of, Admits, AreTouched, KeepDomains, StandFor, StandAmid}

-- ---- which domains are kept

not_not : (b : Bool) → not (not b) ≡ b
not_not true = refl
not_not false = refl

-- there is no room exactly where there are enough
no_room : (n most : ℕ) → not (nat_lt n most) ≡ nat_le most n
no_room n most =
    elim (cases_lt n most) [
      | inl lt ↦ ap not (lt-ltb n most lt) ∙ sym (lt-leb most n lt)
      | inr le ↦ ap not (le-ltb n most le) ∙ sym (le-leb most n le)
    ]

some_room : (n most : ℕ) → nat_lt n most ≡ not (nat_le most n)
some_room n most = sym (ap not (sym (no_room n most)) ∙ not_not (nat_lt n most))

-- there is room by the domains that are kept
room_by : {old new : Domains} {kept : List ℕ} {domain : ℕ} {admitted : Bool} → KeepDomains old kept → Admits old domain admitted new → admitted ≡ (is_among domain kept || nat_lt (length kept) 1024)
room_by {old} {new} {kept} {domain} {admitted} k a = a.room ∙ (ap (λ b. b || nat_lt (count_kept old) 1024) (k.are domain) ∙ ap (λ n. is_among domain kept || nat_lt n 1024) k.count)

neither : (a b : Bool) → not (a || b) ≡ not a && not b
neither true b = refl
neither false b = refl

-- A message is crowded out exactly where its domain isn't admitted.
pub crowded_out : {old new : Domains} {past : List Message} {admitted : Bool} (m : Message) → StandFor old past → Admits old m.domain admitted new → is_crowded past m ≡ not admitted
crowded_out {old} {new} {past} {admitted} m s a =
    let k = kept_domains past in
    crowded_if past m
    ∙ (ap (λ b. not (is_among m.domain k) && b) (sym (no_room (length k) 1024))
    ∙ (sym (neither (is_among m.domain k) (nat_lt (length k) 1024)) ∙ ap not (sym (room_by s.kept a))))

taken_not : (admitted : Bool) → is_taken (cond (not admitted) Crowded Taken) ≡ admitted
taken_not true = refl
taken_not false = refl

-- In a file a message is taken exactly where its domain is admitted.
pub admitted_taken : {old new : Domains} {past : List Message} {admitted : Bool} (settings : Settings) (m : Message) → StandFor old past → Admits old m.domain admitted new → is_taken (judge (of_file settings) past m) ≡ admitted
admitted_taken {old} {new} {past} {admitted} settings m s a = ap (λ b. is_taken (cond b Crowded Taken)) (crowded_out m s a) ∙ taken_not admitted

-- what is among some domains and one more
among_grown : (known full : Bool) (kept : List ℕ) (domain d : ℕ) → known ≡ is_among domain kept → is_among d (cond (known || full) kept (kept ++ domain ∷ [])) ≡ cond (domain == d) (known || not full) (is_among d kept)
among_grown known full kept domain d e = elim (cases_Bool (domain == d)) [ inl same ↦ here known full e same | inr other ↦ away known full other ]
  where
    among_more : is_among d (kept ++ domain ∷ []) ≡ is_among d kept || ((domain == d) || false)
    among_more = list_any-append (λ (m : ℕ). m == d) kept (domain ∷ [])

    same_known : (known : Bool) → known ≡ is_among domain kept → (domain == d) ≡ true → is_among d kept ≡ cond (domain == d) known (is_among d kept)
    same_known known e same = ap (λ n. is_among n kept) (sym (eqb-true domain d same)) ∙ (sym e ∙ sym (cond-true (domain == d) known (is_among d kept) same))

    here : (known full : Bool) → known ≡ is_among domain kept → (domain == d) ≡ true → is_among d (cond (known || full) kept (kept ++ domain ∷ [])) ≡ cond (domain == d) (known || not full) (is_among d kept)
    here true full e same = same_known true e same
    here false true e same = same_known false e same
    here false false e same =
        among_more ∙ (or_right (is_among d kept) ((domain == d) || false) (or_left (domain == d) false same) ∙ sym (cond-true (domain == d) true (is_among d kept) same))

    or_none : (a b : Bool) → b ≡ false → (a || (b || false)) ≡ a
    or_none true b e = refl
    or_none false true e = absurd (true≢false e)
    or_none false false e = refl

    away : (known full : Bool) → (domain == d) ≡ false → is_among d (cond (known || full) kept (kept ++ domain ∷ [])) ≡ cond (domain == d) (known || not full) (is_among d kept)
    away true full other = sym (cond-false (domain == d) true (is_among d kept) other)
    away false true other = sym (cond-false (domain == d) false (is_among d kept) other)
    away false false other = among_more ∙ (or_none (is_among d kept) (domain == d) other ∙ sym (cond-false (domain == d) true (is_among d kept) other))

length_grown : (b : Bool) (kept : List ℕ) (domain : ℕ) → length (cond b kept (kept ++ domain ∷ [])) ≡ cond b (length kept) (length kept + 1)
length_grown true kept domain = refl
length_grown false kept domain = length-append kept (domain ∷ [])

-- The domains that are kept after one was admitted or crowded out.
pub keep_more : {old new : Domains} {kept : List ℕ} {domain : ℕ} {admitted : Bool} → KeepDomains old kept → Admits old domain admitted new → KeepDomains new (with_domain kept domain)
keep_more {old} {new} {kept} {domain} {admitted} k a = record {
  are = λ d.
      a.kept d
      ∙ (ap (λ b. cond (domain == d) b (is_kept old d)) (room_by k a ∙ ap (λ b. is_among domain kept || b) (some_room (length kept) 1024))
      ∙ (ap (λ b. cond (domain == d) (is_among domain kept || not (nat_le 1024 (length kept))) b) (k.are d)
      ∙ sym (among_grown (is_among domain kept) (nat_le 1024 (length kept)) kept domain d refl)));
  count = a.count
      ∙ (ap (λ b. cond (b || nat_le 1024 (count_kept old)) (count_kept old) (count_kept old + 1)) (k.are domain)
      ∙ (ap (λ n. cond (is_among domain kept || nat_le 1024 n) n (n + 1)) k.count ∙ sym (length_grown (is_among domain kept || nat_le 1024 (length kept)) kept domain)));
}

-- ---- their templates

-- the touches of one set more
parts-more : (time : ℕ) (parts : List Part) (p : Part) → flat_map (dated File time) (parts ++ p ∷ []) ≡ flat_map (dated File time) parts ++ dated File time p
parts-more time parts p = flat_map-append (dated File time) parts (p ∷ []) ∙ ap (λ t. flat_map (dated File time) parts ++ t) (append-nil (dated File time p))

dated_fold : (time id : ℕ) (found : Option Definition) (touches : List Touch) → fold (λ (f : Option Definition) (t : ℕ × Touch). touched id f t.1) found (map (λ (t : Touch). (time, t)) touches) ≡ fold (touched id) found touches
dated_fold time id found [] = refl
dated_fold time id found (t ∷ touches) = dated_fold time id (touched id found t) touches

-- the last touch of an ID behind others
last_more : (before : List (ℕ × Touch)) (time id : ℕ) (touches : List Touch) → last_touched (before ++ map (λ (t : Touch). (time, t)) touches) id ≡ fold (touched id) (last_touched before id) touches
last_more before time id touches =
    fold-append (λ (f : Option Definition) (t : ℕ × Touch). touched id f t.1) None before (map (λ (t : Touch). (time, t)) touches) ∙ dated_fold time id (last_touched before id) touches

-- in a file all template records count
all_counted : (touches : List Touch) → filter (is_counted File) touches ≡ touches
all_counted [] = refl
all_counted (t ∷ touches) = ap (λ l. t ∷ l) (all_counted touches)

last_dated : (before : List (ℕ × Touch)) (time id : ℕ) (touches : List Touch) → last_touched (before ++ dated File time (Touches touches)) id ≡ fold (touched id) (last_touched before id) touches
last_dated before time id touches = ap (λ l. last_touched (before ++ map (λ (t : Touch). (time, t)) l) id) (all_counted touches) ∙ last_more before time id touches

none_more : (before : List (ℕ × Touch)) (b : Bool) → before ++ cond b [] [] ≡ before
none_more before true = append-nil before
none_more before false = append-nil before

-- A domain that is admitted is kept.
pub admitted_here : {old new : Domains} {domain : ℕ} {admitted : Bool} → Admits old domain admitted new → admitted ≡ true → is_kept new domain ≡ true
admitted_here {old} {new} {domain} {admitted} a e = a.kept domain ∙ (cond-true (domain == domain) admitted (is_kept old domain) (eq-eqb domain domain refl) ∙ e)

-- Where the domain of a message is admitted, the domains stand for what came before it.
pub stand_admitted : {old new : Domains} {past : List Message} {domain : ℕ} {admitted : Bool} (time : ℕ) → StandFor old past → Admits old domain admitted new → admitted ≡ true → StandAmid new past time domain []
stand_admitted {old} {new} {past} {domain} {admitted} time s a e = record {
  here = admitted_here a e;
  kept = keep_more s.kept a;
  templates = λ settings d id. a.templates d id ∙ (s.templates settings d id ∙ sym (ap (λ t. last_touched t id) (none_more (touches_before (of_file settings) past d) (domain == d))));
}

-- Where it is crowded out, they stand for one message more.
pub stand_crowded : {old new : Domains} {past : List Message} {admitted : Bool} (m : Message) → StandFor old past → Admits old m.domain admitted new → admitted ≡ false → StandFor new (past ++ m ∷ [])
stand_crowded {old} {new} {past} {admitted} m s a e = record {
  kept = subst (KeepDomains new) (sym (kept_domains-more past m)) (keep_more s.kept a);
  templates = λ settings d id.
      a.templates d id
      ∙ (s.templates settings d id
      ∙ ap (λ t. last_touched t id)
      (sym (one_more_touches (of_file settings) past m d
      ∙ (ap (λ b. touches_before (of_file settings) past d ++ cond (b && (m.domain == d)) (touches_in File m) []) (admitted_taken settings m s a ∙ e) ∙ append-nil (touches_before (of_file settings) past d)))));
}

-- One set of template records more.
pub stand_touched : {old new : Domains} {past : List Message} {time domain : ℕ} {parts : List Part} (touches : List Touch) → StandAmid old past time domain parts → AreTouched old domain touches new
    → StandAmid new past time domain (parts ++ Touches touches ∷ [])
stand_touched {old} {new} {past} {time} {domain} {parts} touches s a = record {
  here = a.kept domain ∙ s.here;
  kept = record { are = λ d. a.kept d ∙ s.kept.are d; count = a.count ∙ s.kept.count };
  templates = λ settings d id.
      a.templates d id
      ∙ (ap (λ f. cond (domain == d) (fold (touched id) f touches) f) (s.templates settings d id) ∙ by_domain (touches_before (of_file settings) past d) id (domain == d));
}
  where
    by_domain : (before : List (ℕ × Touch)) (id : ℕ) (b : Bool)
        → cond b (fold (touched id) (last_touched (before ++ cond b (flat_map (dated File time) parts) []) id) touches) (last_touched (before ++ cond b (flat_map (dated File time) parts) []) id)
        ≡ last_touched (before ++ cond b (flat_map (dated File time) (parts ++ Touches touches ∷ [])) []) id
    by_domain before id true =
        sym (last_dated (before ++ flat_map (dated File time) parts) time id touches)
        ∙ ap (λ t. last_touched t id) (append_assoc before (flat_map (dated File time) parts) (dated File time (Touches touches)) ∙ ap (λ t. before ++ t) (sym (parts-more time parts (Touches touches))))
    by_domain before id false = refl

-- One set without template records more.
pub stand_body : {domains : Domains} {past : List Message} {time domain : ℕ} {parts : List Part} (id : ℕ) (body : List ℕ) → StandAmid domains past time domain parts
    → StandAmid domains past time domain (parts ++ Body id body ∷ [])
stand_body {domains} {past} {time} {domain} {parts} id body s = record {
  here = s.here;
  kept = s.kept;
  templates = λ settings d k.
      s.templates settings d k
      ∙ ap (λ t. last_touched (touches_before (of_file settings) past d ++ cond (domain == d) t []) k) (sym (parts-more time parts (Body id body) ∙ append-nil (flat_map (dated File time) parts)));
}

-- a message whose domain is kept is not crowded out
amid_room : {domains : Domains} (past : List Message) (m : Message) → is_kept domains m.domain ≡ true → KeepDomains domains (with_domain (kept_domains past) m.domain) → is_crowded past m ≡ false
amid_room {domains} past m here kept = ap not (ap (is_among m.domain) (kept_domains-more past m) ∙ (sym (kept.are m.domain) ∙ here))

-- and so it is taken
amid_taken : {domains : Domains} (past : List Message) (settings : Settings) (m : Message) → is_kept domains m.domain ≡ true → KeepDomains domains (with_domain (kept_domains past) m.domain) → is_taken (judge (of_file settings) past m) ≡ true
amid_taken {domains} past settings m here kept = ap (λ b. is_taken (cond b Crowded Taken)) (amid_room past m here kept)

-- Behind the sets of a message the domains stand for one message more.
pub stand_later : {domains : Domains} {past : List Message} (m : Message) → StandAmid domains past m.export m.domain m.parts → StandFor domains (past ++ m ∷ [])
stand_later {domains} {past} m s = record {
  kept = subst (KeepDomains domains) (sym (kept_domains-more past m)) s.kept;
  templates = λ settings d id.
      s.templates settings d id
      ∙ ap (λ t. last_touched t id)
      (sym (one_more_touches (of_file settings) past m d ∙ ap (λ b. touches_before (of_file settings) past d ++ cond (b && (m.domain == d)) (touches_in File m) []) (amid_taken past settings m s.here s.kept)));
}

-- ---- what the sets of a message give

-- The definition of an ID in the domain of a message is the valid one.
pub amid_valid : {domains : Domains} {past : List Message} {time domain : ℕ} {parts : List Part} (settings : Settings) (id : ℕ) → StandAmid domains past time domain parts
    → templates_of domains domain id ≡ valid File settings.life (touches_before (of_file settings) past domain ++ flat_map (dated File time) parts) time id
amid_valid {domains} {past} {time} {domain} {parts} settings id s =
    s.templates settings domain id
    ∙ ap (λ t. last_touched (touches_before (of_file settings) past domain ++ t) id) (cond-true (domain == domain) (flat_map (dated File time) parts) [] (eq-eqb domain domain refl))

-- A set whose definition is found gives what its body is by it.
pub part_found : {domains : Domains} {past : List Message} {time domain : ℕ} {parts : List Part} (settings : Settings) (id : ℕ) (definition : Definition) (body : List ℕ)
    → StandAmid domains past time domain parts → 256 ≤ id → templates_of domains domain id ≡ Some definition
    → outcome (of_file settings) time (touches_before (of_file settings) past domain ++ flat_map (dated File time) parts) (Body id body) ≡ by_definition id body (Some definition)
part_found {domains} {past} {time} {domain} {parts} settings id definition body s le e =
    ap (λ b. cond b (Skipped ReservedId) (by_definition id body (last_touched (touches_before (of_file settings) past domain ++ flat_map (dated File time) parts) id))) (le-ltb id 256 le)
    ∙ ap (by_definition id body) (sym (amid_valid settings id s) ∙ e)

-- One whose definition isn't found has no template.
pub part_unknown : {domains : Domains} {past : List Message} {time domain : ℕ} {parts : List Part} (settings : Settings) (id : ℕ) (body : List ℕ)
    → StandAmid domains past time domain parts → 256 ≤ id → templates_of domains domain id ≡ None
    → outcome (of_file settings) time (touches_before (of_file settings) past domain ++ flat_map (dated File time) parts) (Body id body) ≡ Skipped NoTemplate
part_unknown {domains} {past} {time} {domain} {parts} settings id body s le e =
    ap (λ b. cond b (Skipped ReservedId) (by_definition id body (last_touched (touches_before (of_file settings) past domain ++ flat_map (dated File time) parts) id))) (le-ltb id 256 le)
    ∙ ap (by_definition id body) (sym (amid_valid settings id s) ∙ e)

-- One of an ID below those of Data Sets has a reserved one.
pub part_low : (settings : Settings) (time id : ℕ) (touches : List (ℕ × Touch)) (body : List ℕ) → id < 256 → outcome (of_file settings) time touches (Body id body) ≡ Skipped ReservedId
part_low settings time id touches body lt = ap (λ b. cond b (Skipped ReservedId) (by_definition id body (last_touched touches id))) (lt-ltb id 256 lt)

-- The sets of a message whose domain is kept give what they give in order.
pub amid_given : {domains : Domains} {past : List Message} (settings : Settings) (m : Message) (given : List Outcome) → StandAmid domains past m.export m.domain m.parts → outcomes (of_file settings) past m ≡ given
    → outcomes_if (of_file settings) past m (judge (of_file settings) past m) ≡ given
amid_given {domains} {past} settings m given s e = ap (λ b. outcomes_if (of_file settings) past m (cond b Crowded Taken)) (amid_room past m s.here s.kept) ∙ e

-- Those of a message that is crowded out give nothing.
pub crowded_given : {old new : Domains} {past : List Message} {admitted : Bool} (settings : Settings) (m : Message) → StandFor old past → Admits old m.domain admitted new → admitted ≡ false
    → outcomes_if (of_file settings) past m (judge (of_file settings) past m) ≡ []
crowded_given {old} {new} {past} {admitted} settings m s a e = ap (λ b. outcomes_if (of_file settings) past m (cond b Crowded Taken)) (crowded_out m s a ∙ ap not e)

-- ---- what a body gives by a definition

some_decoded : (definition : Definition) (id : ℕ) (records : List Record) → records ≢ [] → by_records id definition (Some records) ≡ Decoded (record { id = id; definition = definition; records = records })
some_decoded definition id [] some = absurd (some refl)
some_decoded definition id (r ∷ records) some = refl

-- What a body is by a well-formed definition is what is computed of it.
pub given_by : (definition : Definition) (id : ℕ) (body : List ℕ) (o : Outcome) → IsWellFormed definition → IsOutcomeBy definition id body o → by_definition id body (Some definition) ≡ o
given_by definition id body Touched well is = absurd is
given_by definition id body (Skipped reason) well is = ap (by_records id definition) (no_records definition body well is.1) ∙ ap Skipped (sym is.0)
given_by definition id body Empty well is = ap (by_records id definition) (records_found definition body [] well (record { cut = is; each = tt }))
given_by definition id body (Decoded d) well is = ap (by_records id definition) (records_found definition body d.records well is.1) ∙ (some_decoded definition id d.records is.2 ∙ ap Decoded (sym is.0))

-- A body without records is decoded to no set.
pub none_decoded : (definition : Definition) (id : ℕ) (body : List ℕ) → IsWellFormed definition → ((records : List Record) → AreRecordsOf definition body records → records ≡ []) → decoded_in (by_definition id body (Some definition)) ≡ []
none_decoded definition id body well none = of (records_of definition.fields body) refl
  where
    of : (r : Option (List Record)) → records_of definition.fields body ≡ r → decoded_in (by_records id definition r) ≡ []
    of None e = refl
    of (Some []) e = refl
    of (Some (x ∷ records)) e = absurd (let empty = none (x ∷ records) (records_there definition body (x ∷ records) well e) in cc)
