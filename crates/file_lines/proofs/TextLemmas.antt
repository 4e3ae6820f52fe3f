-- Texts that are put and written, one after another.
use Rattle.std.proofs.Common.{◌≡◌, ◌≢◌, ℕ, zero, suc, ◌+◌, Bool, true, false, cond, List, [], ◌∷◌, ◌++◌, length, take, Option, Some, None, refl, ap, sym, subst, ◌∙◌, append_assoc, append-nil}
use Rattle.std.specs.Prelude.{Result, Ok, Err, OnOk, MatchOption, flat_map}
use Rattle.std.proofs.Math.Seq.{take-append-add}
use Rattle.std.proofs.lemmas.List.Concat.{flat_map-append}
use Rattle.col_base.specs.declared.base.Kind.{Kind}
use Rattle.wire_spec.specs.Content.{Definition}
use Rattle.wire_spec.specs.Record.{AreSomeRecords}
use Rattle.wire_spec.specs.WellFormed.{IsWellFormed}
use Rattle.text_spec.specs.Builtin.{builtin_rows}
use Rattle.run_spec.specs.Records.{Record, AreRecordsOf, records_of}
use Rattle.run_spec.specs.Outcome.{DecodedSet, Outcome, by_records, by_definition, decoded_in}
use Rattle.run_spec.specs.Outcome.Outcome.{Touched, Skipped, Empty, Decoded}
use Rattle.run_spec.specs.Meaning.{IsOutcomeBy}
use Rattle.run_spec.specs.Result.{record_text, is_printed, set_text, sets_text}
use Rattle.run_spec.proofs.RecordLemmas.{records_there, none_there}
use Rattle.site_io.specs.declared.outside.OutsideFault.{OutsideFault}
use Rattle.site_io.specs.declared.outside.OutsideFault.TheVariants.{Failed, NoMemory}
use Rattle.site_io.specs.Outside.{Counts}
use Rattle.site_io.specs.Writes.{Grows, Writes}
use Rattle.json_output.specs.Printed.{records_text}
use Rattle.json_output.specs.Suits.{Suits}
use Rattle.json_output.specs.declared.prepared.Prepared.{Prepared}
use Rattle.text_spec.specs.declared.element.Element.{Element}
use Rattle.call_spec.specs.Counts.{MovesBy}
use Rattle.call_spec.specs.Ends.{GrowsByFront, has_failed}
use Rattle.file_lines.specs.declared.texts.Texts.{Texts}
use Rattle.file_lines.specs.Texts.{KeepsFault, AddsText, AddsSets, Clears, Wrote, Flushes}

-- ---- what a body gives

-- a body gives something by a definition
pub some_outcome : (id : ℕ) (body : List ℕ) (def : Definition) → IsWellFormed def → IsOutcomeBy def id body (by_definition id body (Some def))
some_outcome id body def well = of (records_of def.fields body) refl
  where
    of : (r : Option (List Record)) → records_of def.fields body ≡ r → IsOutcomeBy def id body (by_records id def r)
    of None e = (refl, none_there def body well e)
    of (Some []) e = (records_there def body [] well e).cut
    of (Some (r ∷ records)) e = (refl, records_there def body (r ∷ records) well e, λ z. cc)

-- no records, no text
no_records_text : (def : Definition) → records_text true builtin_rows def [] ≡ []
no_records_text def = elim (is_printed true def.kind) as (λ b. cond {A = List ℕ} b [] [] ≡ []) [ true ↦ refl | false ↦ refl ]

-- what was put of a body is the text of what it gives
pub outcome_put : (def : Definition) (id : ℕ) (body : List ℕ) (o : Outcome) (old now : List ℕ) → ((AreSomeRecords def.fields body → ⊥) → now ≡ old) → ((records : List Record) → AreRecordsOf def body records → now ≡ old ++ records_text true builtin_rows def records)
    → IsOutcomeBy def id body o → now ≡ old ++ sets_text true builtin_rows (decoded_in o)
outcome_put def id body Touched old now none some is = absurd is
outcome_put def id body (Skipped reason) old now none some is = none (λ s. is.1 s.0 s.1) ∙ sym (append-nil old)
outcome_put def id body Empty old now none some is = some [] (record { cut = is; each = tt }) ∙ ap (λ t. old ++ t) (no_records_text def)
outcome_put def id body (Decoded d) old now none some is =
    some d.records is.1 ∙ ap (λ t. old ++ t) (ap (λ (x : DecodedSet). set_text true builtin_rows x) (sym is.0) ∙ sym (append-nil (set_text true builtin_rows d)))

-- ---- lines that are put

pub keeps_same : (f : Option OutsideFault) → KeepsFault f f
keeps_same None = tt
keeps_same (Some f) = refl

pub keeps_both : (f g h : Option OutsideFault) → KeepsFault f g → KeepsFault g h → KeepsFault f h
keeps_both None None h p q = q
keeps_both None (Some g) h p q = subst (λ (x : Option OutsideFault). KeepsFault None x) (sym q) p
keeps_both (Some f) None h p q = absurd (cc)
keeps_both (Some f) (Some g) h p q = q ∙ p

was_none : (f g : Option OutsideFault) → KeepsFault f g → g ≡ None → f ≡ None
was_none None g p e = refl
was_none (Some f) g p e = absurd (let s = sym p ∙ e in cc)

-- nothing was put
pub adds_none : (t : Texts) → AddsText t t []
adds_none t = (keeps_same t.fault, λ e. sym (append-nil t.lines))

-- one text behind another
pub adds_more : (a b c : Texts) (x y : List ℕ) → AddsText a b x → AddsText b c y → AddsText a c (x ++ y)
adds_more a b c x y p q =
    (keeps_both a.fault b.fault c.fault p.0 q.0, λ e. q.1 e ∙ (ap (λ l. l ++ y) (p.1 (was_none b.fault c.fault q.0 e)) ∙ append_assoc a.lines x y))

pub sets_both : (a b : List DecodedSet) → sets_text true builtin_rows (a ++ b) ≡ sets_text true builtin_rows a ++ sets_text true builtin_rows b
sets_both a b = flat_map-append (set_text true builtin_rows) a b

-- ---- texts that are written

pub grows_none : (old : Option (List ℕ)) → Grows old old []
grows_none None = tt
grows_none (Some xs) = sym (append-nil xs)

pub grows_more : (a b c : Option (List ℕ)) (first second : List ℕ) → Grows a b first → Grows b c second → Grows a c (first ++ second)
grows_more None b c first second p q = tt
grows_more (Some xs) None c first second p q = absurd p
grows_more (Some xs) (Some ys) None first second p q = absurd q
grows_more (Some xs) (Some ys) (Some zs) first second p q = q ∙ (ap (λ l. l ++ second) p ∙ append_assoc xs first second)

front_within : (n : ℕ) (text more : List ℕ) → (m : ℕ) × (take n text ≡ take m (text ++ more))
front_within zero text more = (0, refl)
front_within (suc n) [] more = (0, refl)
front_within (suc n) (x ∷ text) more = let f = front_within n text more in (suc f.0, ap (λ t. x ∷ t) f.1)

-- a front of a text is one of a longer text
pub front_longer : (old new : Option (List ℕ)) (text more : List ℕ) → GrowsByFront old new text → GrowsByFront old new (text ++ more)
front_longer old new text more f = let w = front_within f.0 text more in (w.0, subst (λ t. Grows old new t) w.1 f.1)

-- a front behind a text
front_behind : (a b c : Option (List ℕ)) (text more : List ℕ) → Grows a b text → GrowsByFront b c more → GrowsByFront a c (text ++ more)
front_behind a b c text more g f = (length text + f.0, subst (λ t. Grows a c t) (sym (take-append-add text more f.0)) (grows_more a b c text (take f.0 more) g f.1))

-- nothing is a front of any text
pub front_none : (old new : Option (List ℕ)) (text : List ℕ) → new ≡ old → GrowsByFront old new text
front_none old new text e = (0, subst (λ (n : Option (List ℕ)). Grows old n []) (sym e) (grows_none old))

-- and so is the whole text
pub front_whole : (old new : Option (List ℕ)) (text more : List ℕ) → Grows old new text → GrowsByFront old new (text ++ more)
front_whole old new text more g = front_behind old new new text more g (front_none new new more refl)

-- a write that ends an output leaves a front
pub write_fails : (old new : Option (List ℕ)) (total now_total : Option ℕ) (faults now_faults : ℕ) (piece : List ℕ) (f : OutsideFault) → Writes old new total now_total (Err f) piece → Counts {T = Unit {0}} faults now_faults (Err f)
    → Wrote old new faults now_faults piece (Some f)
write_fails old new total now_total faults now_faults piece Failed w c = record { octets = (w.0, w.2.octets); counts = c }
write_fails old new total now_total faults now_faults piece NoMemory w c = record { octets = front_none old new piece w.0; counts = c }

wrote_more : (a b c : Option (List ℕ)) (x y z : ℕ) (text more : List ℕ) (fault : Option OutsideFault) → Wrote a b x y text None → Wrote b c y z more fault → Wrote a c x z (text ++ more) fault
wrote_more a b c x y z text more None p q = record { octets = grows_more a b c text more p.octets q.octets; counts = q.counts ∙ p.counts }
wrote_more a b c x y z text more (Some f) p q = record { octets = front_behind a b c text more p.octets q.octets; counts = subst (λ n. MovesBy (has_failed (Some f)) n z) p.counts q.counts }

wrote_longer : (a b : Option (List ℕ)) (x y : ℕ) (text more : List ℕ) (f : OutsideFault) → Wrote a b x y text (Some f) → Wrote a b x y (text ++ more) (Some f)
wrote_longer a b x y text more f p = record { octets = front_longer a b text more p.octets; counts = p.counts }

-- an output that ends without a write has a front
ends_wanting : (a b : Option (List ℕ)) (x y : ℕ) (text more : List ℕ) → Wrote a b x y text None → Wrote a b x y (text ++ more) (Some NoMemory)
ends_wanting a b x y text more p = record { octets = front_whole a b text more p.octets; counts = p.counts }

pub keeps_wrote : (a b : Option (List ℕ)) (x y : ℕ) (text : List ℕ) (f g : Option OutsideFault) → KeepsFault f g → Wrote a b x y text f → Wrote a b x y text g
keeps_wrote a b x y text None None k p = p
keeps_wrote a b x y text None (Some g) k p = subst (λ t. Wrote a b x y t (Some g)) (append-nil text) (subst (λ (h : OutsideFault). Wrote a b x y (text ++ []) (Some h)) (sym k) (ends_wanting a b x y text [] p))
keeps_wrote a b x y text (Some f) g k p = subst (λ (h : Option OutsideFault). Wrote a b x y text h) (sym k) p

-- the output was still written to, or had ended
abbrev pub Flushed : Option (List ℕ) → Option (List ℕ) → ℕ → ℕ → List ℕ → Option OutsideFault → Option OutsideFault → Type 0
Flushed b c y z lines f g = MatchOption f (Wrote b c y z lines g) (λ e. (g ≡ Some e) × ((c ≡ b) × (z ≡ y)))

pub flush_wrote : (a b c : Option (List ℕ)) (x y z : ℕ) (text more lines : List ℕ) (f g h : Option OutsideFault) → Wrote a b x y text f → KeepsFault f g → (g ≡ None → lines ≡ more) → Flushed b c y z lines g h → Wrote a c x z (text ++ more) h
flush_wrote a b c x y z text more lines None None h p k is w = wrote_more a b c x y z text more h p (subst (λ t. Wrote b c y z t h) (is refl) w)
flush_wrote a b c x y z text more lines None (Some g) h p k is w =
    subst (λ (o : Option OutsideFault). Wrote a c x z (text ++ more) o) (sym w.0)
    (subst (λ (o : Option (List ℕ)). Wrote a o x z (text ++ more) (Some g)) (sym w.1.0)
    (subst (λ n. Wrote a b x n (text ++ more) (Some g)) (sym w.1.1) (subst (λ (e : OutsideFault). Wrote a b x y (text ++ more) (Some e)) (sym k) (ends_wanting a b x y text more p))))
flush_wrote a b c x y z text more lines (Some f) None h p k is w = absurd (cc)
flush_wrote a b c x y z text more lines (Some f) (Some g) h p k is w =
    subst (λ (o : Option OutsideFault). Wrote a c x z (text ++ more) o) (sym w.0)
    (subst (λ (o : Option (List ℕ)). Wrote a o x z (text ++ more) (Some g)) (sym w.1.0)
    (subst (λ n. Wrote a b x n (text ++ more) (Some g)) (sym w.1.1) (wrote_longer a b x y text more g (subst (λ (o : Option OutsideFault). Wrote a b x y text o) (sym k) p))))

module _ {K : Type 0} (held : K → Option (List ℕ)) (faults : K → ℕ) where
  flushed : (f h : Option OutsideFault) (lines : List ℕ) (sink now : K) → MatchOption f (Wrote (held sink) (held now) (faults sink) (faults now) lines h) (λ e. (h ≡ Some e) × (now ≡ sink))
      → Flushed (held sink) (held now) (faults sink) (faults now) lines f h
  flushed None h lines sink now w = w
  flushed (Some e) h lines sink now w = (w.0, (ap held w.1, ap faults w.1))

  -- a message's lines were written behind a text
  pub written_more : (first : Option (List ℕ)) (count : ℕ) (text more : List ℕ) (start cleared taken done : Texts) (sink now : K) → Clears start cleared → AddsText cleared taken more → Flushes held faults taken done sink now
      → Wrote first (held sink) count (faults sink) text start.fault → Wrote first (held now) count (faults now) (text ++ more) done.fault
  written_more first count text more start cleared taken done sink now clears adds flush w =
      flush_wrote first (held sink) (held now) count (faults sink) (faults now) text more taken.lines start.fault taken.fault done.fault w (subst (λ (f : Option OutsideFault). KeepsFault f taken.fault) clears.fault adds.0)
      (λ e. adds.1 e ∙ ap (λ l. l ++ more) clears.nothing) (flushed taken.fault done.fault taken.lines sink now flush)

-- the lines of a body
pub body_put : {E : Type 0} (r : Result (Unit {0}) E) (def : Definition) (prepared : Prepared) (body old new : List ℕ) → Suits true builtin_rows def prepared
    → OnOk r ((options : Bool) (table : List Element) (records : List Record) → Suits options table def prepared → AreRecordsOf def body records → new ≡ old ++ records_text options table def records)
    → ((AreSomeRecords def.fields body → ⊥) → new ≡ old) → OnOk r ((id : ℕ) (o : Outcome) → IsOutcomeBy def id body o → new ≡ old ++ sets_text true builtin_rows (decoded_in o))
body_put (Ok x) def prepared body old new suits some none = λ id o is. outcome_put def id body o old new none (λ records are. some true builtin_rows records suits are) is
body_put (Err f) def prepared body old new suits some none = tt
