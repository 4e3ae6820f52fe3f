-- What is taken of a session: data sets, sets, messages.
use Rattle.std.proofs.Common.{◌≡◌, ℕ, ◌+◌, ◌<◌, ◌≤◌, true, false, List, [], ◌∷◌, ◌++◌, drop, cond, Some, None, refl, ap, sym, subst, ◌∙◌, arith, append-nil}
use Rattle.std.specs.Prelude.{Result, Ok, Err, OnOk, flat_map}
use Rattle.std.proofs.lemmas.Bool.{ne_eqb}
use Rattle.std.proofs.lemmas.List.Concat.{flat_map-append}
use Rattle.col_base.specs.declared.base.Transport.TheVariants.{File}
use Rattle.col_base.specs.Numbers.{be32_at}
use Rattle.wire_spec.specs.declared.malformed.Malformed.{Malformed}
use Rattle.wire_spec.specs.Message.{kind_of, FirstFault}
use Rattle.wire_spec.specs.Content.{Definition, Touch, Message, Reads}
use Rattle.wire_spec.specs.Content.Part.{Touches, Body}
use Rattle.ipfix_reader.specs.declared.raw.RawSet.{RawSet}
use Rattle.ipfix_reader.specs.Walk.{RawSays, GivesSet, IsSomeMessage, message_of}
use Rattle.ipfix_reader.proofs.WalkLemmas.{body_said, said_none, said_more, said_all}
use Rattle.wire_spec.specs.WellFormed.{IsWellFormed}
use Rattle.arrival_spec.specs.Settings.{Settings}
use Rattle.arrival_spec.specs.Arrival.Arrival.{Raw}
use Rattle.text_spec.specs.Builtin.{builtin_rows}
use Rattle.run_spec.specs.Read.{ReadArrival}
use Rattle.run_spec.specs.Judge.{messages_of}
use Rattle.run_spec.proofs.ApartLemmas.{own_is}
use Rattle.col_base.specs.declared.base.SessionKey.{SessionKey}
use Rattle.parser_lane.proofs.ArrivalLemmas.{messages_more}
use Rattle.run_spec.specs.Touches.{dated, touches_before}
use Rattle.run_spec.specs.Outcome.{DecodedSet, Outcome, by_definition, outcome, outcomes, outcomes_after, decoded_in, decoded_sets}
use Rattle.run_spec.specs.Outcome.SkipReason.{ReservedId, NoTemplate}
use Rattle.run_spec.specs.Outcome.Outcome.{Touched, Skipped}
use Rattle.run_spec.specs.Work.Item.{Data}
use Rattle.run_spec.specs.Meaning.{IsOutcomeBy}
use Rattle.run_spec.specs.Result.{sets_text}
use Rattle.run_spec.proofs.MoreLemmas.{malformed_none, one_more_outcome}
use Rattle.file_templates.specs.declared.domains.Domains.{Domains}
use Rattle.file_templates.specs.SessionTemplates.{of_file, is_kept, templates_of, Admits, AreTouched, StandFor, StandAmid}
use Rattle.file_templates.proofs.SessionTemplatesLemmas.{stand_admitted, stand_crowded, stand_touched, stand_body, stand_later, part_found, part_unknown, part_low, amid_given, crowded_given}
use Rattle.call_spec.specs.Files.{file_settings}
use Rattle.file_lines.specs.declared.texts.Texts.{Texts}
use Rattle.file_lines.specs.Texts.{AddsText, AddsSets, PutsBody}
use Rattle.file_lines.specs.Session.{PutsData, TakesSet, TakenSoFar, TakesMessage, TakesNext}
use Rattle.file_lines.proofs.TextLemmas.{some_outcome, adds_none, adds_more, sets_both}

-- ---- data sets

pub data_low : (domains : Domains) (domain id : ℕ) (body : List ℕ) (texts : Texts) → id < 256 → PutsData domains domain id body texts texts
data_low domains domain id body texts low =
    (Skipped ReservedId, λ settings past time parts s. part_low settings time id (touches_before (of_file settings) past domain ++ flat_map (dated File time) parts) body low, adds_none texts)

pub data_unknown : (domains : Domains) (domain id : ℕ) (body : List ℕ) (texts : Texts) → 256 ≤ id → templates_of domains domain id ≡ None → PutsData domains domain id body texts texts
data_unknown domains domain id body texts high none = (Skipped NoTemplate, λ settings past time parts s. part_unknown settings id body s high none, adds_none texts)

pub data_found : (domains : Domains) (domain id : ℕ) (body : List ℕ) (old new : Texts) (definition : Definition) → IsWellFormed definition → 256 ≤ id → templates_of domains domain id ≡ Some definition
    → ((o : Outcome) → IsOutcomeBy definition id body o → PutsBody old new o) → PutsData domains domain id body old new
data_found domains domain id body old new definition well high found put = (
  by_definition id body (Some definition),
  λ settings past time parts s. part_found settings id definition body s high found,
  put (by_definition id body (Some definition)) (some_outcome id body definition well),
)

-- ---- sets

-- a data set has no template records
pub no_templates : (id : ℕ) → 256 ≤ id → kind_of id ≡ None
no_templates id high = rw (ne_eqb id 2 (λ e. omega arith), ne_eqb id 3 (λ e. omega arith)) refl

-- a set of template records
pub takes_templates : (raw : RawSet) (domain : ℕ) (old new : Domains) (texts : Texts) (touches : List Touch) → is_kept old domain ≡ true → RawSays raw (Touches touches) → AreTouched old domain touches new → TakesSet raw domain old new texts texts
takes_templates raw domain old new texts touches kept says t = record {
  part = Touches touches;
  says = says;
  kept = t.kept domain ∙ kept;
  stand = λ past time parts s. stand_touched touches s t;
  given = Touched;
  gives = λ settings past time parts s. refl;
  adds = adds_none texts;
}

-- any other set
pub takes_data : (raw : RawSet) (domain : ℕ) (domains : Domains) (old new : Texts) → is_kept domains domain ≡ true → kind_of raw.id ≡ None → PutsData domains domain raw.id raw.body.now old new
    → TakesSet raw domain domains domains old new
takes_data raw domain domains old new kept none p = record {
  part = Body raw.id raw.body.now;
  says = body_said raw none;
  kept = kept;
  stand = λ past time parts s. stand_body raw.id raw.body.now s;
  given = p.0;
  gives = p.1;
  adds = p.2;
}

-- ---- messages

-- nothing was taken yet
pub taken_none : (octets rest : List ℕ) (domain : ℕ) (domains : Domains) (texts : Texts) → rest ≡ drop 16 octets → is_kept domains domain ≡ true → TakenSoFar octets rest domain domains domains texts texts
taken_none octets rest domain domains texts same kept = record {
  parts = [];
  said = rw same (said_none octets);
  kept = kept;
  stand = λ past time s. s;
  given = [];
  gives = λ settings past time s. refl;
  adds = adds_none texts;
}

decoded_more : (given : List Outcome) (o : Outcome) → decoded_sets (given ++ o ∷ []) ≡ decoded_sets given ++ decoded_in o
decoded_more given o = flat_map-append decoded_in given (o ∷ []) ∙ ap (λ l. decoded_sets given ++ l) (append-nil (decoded_in o))

-- one set more
pub taken_more : (octets old new : List ℕ) (at to domain : ℕ) (raw : RawSet) (before domains after : Domains) (start texts next : Texts) → TakenSoFar octets old domain before domains start texts → GivesSet at old (Some raw) to new
    → TakesSet raw domain domains after texts next → TakenSoFar octets new domain before after start next
taken_more octets old new at to domain raw before domains after start texts next p g t = record {
  parts = p.parts ++ t.part ∷ [];
  said = said_more new to raw t.part p.said g t.says;
  kept = t.kept;
  stand = λ past time s. t.stand past time p.parts (p.stand past time s);
  given = p.given ++ t.given ∷ [];
  gives = λ settings past time s.
      let touches = touches_before (of_file settings) past domain in
      one_more_outcome (of_file settings) time touches p.parts t.part
      ∙ (ap (λ l. l ++ outcome (of_file settings) time (touches ++ flat_map (dated File time) p.parts) t.part ∷ []) (p.gives settings past time s)
      ∙ ap (λ o. p.given ++ o ∷ []) (t.gives settings past time p.parts (p.stand past time s)));
  adds = subst (λ l. AddsText start next l) (sym (sets_both (decoded_sets p.given) (decoded_in t.given)) ∙ ap (λ (l : List DecodedSet). sets_text true builtin_rows l) (sym (decoded_more p.given t.given)))
      (adds_more start texts next (sets_text true builtin_rows (decoded_sets p.given)) (sets_text true builtin_rows (decoded_in t.given)) p.adds t.adds);
}

-- all sets
pub taken_all : (octets old new : List ℕ) (at to domain : ℕ) (before domains : Domains) (start texts : Texts) → ∥ IsSomeMessage octets ∥₁ → TakenSoFar octets old domain before domains start texts → GivesSet at old None to new
    → TakesMessage octets domain before domains start texts
taken_all octets old new at to domain before domains start texts w p g = record {
  parts = p.parts;
  says = said_all new to w p.said g;
  stand = p.stand;
  given = p.given;
  gives = p.gives;
  adds = p.adds;
}

-- a malformed message
pub next_malformed : (key : SessionKey) (octets : List ℕ) (domains : Domains) (fault : Malformed) (texts : Texts) → FirstFault octets fault → TakesNext key octets domains domains texts texts
next_malformed key octets domains fault texts first = record {
  reading = Err fault;
  reads = first;
  stand = λ past s. subst (λ (l : List Message). StandFor domains l) (sym (malformed_none key key past fault)) s;
  item = Data key 0 0 0 [];
  gives = λ past s. refl;
  adds = adds_none texts;
}

-- a well-formed message comes behind the others of the session
well_more : (key : SessionKey) (before : List ReadArrival) (m : Message) → messages_of key (before ++ Raw key (Ok m) ∷ []) ≡ messages_of key before ++ m ∷ []
well_more key before m = messages_more key before (Raw key (Ok m)) ∙ ap (λ b. messages_of key before ++ cond b (m ∷ []) []) (own_is key)

-- a message of a domain that is kept
pub next_taken : (key : SessionKey) (octets : List ℕ) (domain : ℕ) (old admitted new : Domains) (before after : Texts) → domain ≡ be32_at 12 octets → Admits old domain true admitted → TakesMessage octets domain admitted new before after → TakesNext key octets old new before after
next_taken key octets domain old admitted new start texts here a p =
    let m : Message = message_of octets p.parts in
    let amid : (past : List Message) → StandFor old past → StandAmid new past m.export m.domain m.parts =
    λ past s. subst (λ d. StandAmid new past m.export d m.parts) here (p.stand past m.export (stand_admitted m.export s a refl)) in
    let given : (past : List Message) → StandFor old past → outcomes (of_file file_settings) past m ≡ p.given =
    λ past s. subst (λ d. outcomes_after (of_file file_settings) m.export (touches_before (of_file file_settings) past d) m.parts ≡ p.given) here (p.gives file_settings past m.export (stand_admitted m.export s a refl)) in
    record {
      reading = Ok m;
      reads = p.says;
      stand = λ before s. subst (λ (l : List Message). StandFor new l) (sym (well_more key before m)) (stand_later m (amid (messages_of key before) s));
      item = Data key m.domain m.export m.sequence (decoded_sets p.given);
      gives = λ before s.
          let past = messages_of key before in ap (λ l. Data key m.domain m.export m.sequence (decoded_sets l)) (amid_given file_settings m p.given (amid past s) (given past s));
      adds = p.adds;
    }

-- a message of a domain that is crowded out
pub next_crowded : (key : SessionKey) (octets : List ℕ) (domain : ℕ) (old new : Domains) (m : Message) (texts : Texts) → Reads octets (Ok m) → domain ≡ m.domain → Admits old domain false new → TakesNext key octets old new texts texts
next_crowded key octets domain old new m texts reads here a =
    let b : Admits old m.domain false new = subst (λ d. Admits old d false new) here a in
    record {
      reading = Ok m;
      reads = reads;
      stand = λ before s. subst (λ (l : List Message). StandFor new l) (sym (well_more key before m)) (stand_crowded m s b refl);
      item = Data key m.domain m.export m.sequence [];
      gives = λ before s. ap (λ l. Data key m.domain m.export m.sequence (decoded_sets l)) (crowded_given file_settings m s b refl);
      adds = adds_none texts;
    }

-- whatever came of the sets
pub next_by : {E : Type 0} (r : Result (Unit {0}) E) (octets : List ℕ) (domain : ℕ) (old admitted new : Domains) (before after : Texts) → domain ≡ be32_at 12 octets → Admits old domain true admitted → OnOk r (TakesMessage octets domain admitted new before after)
    → OnOk r ((key : SessionKey) → TakesNext key octets old new before after)
next_by (Ok x) octets domain old admitted new before after here a t = λ key. next_taken key octets domain old admitted new before after here a t
next_by (Err f) octets domain old admitted new before after here a t = tt
