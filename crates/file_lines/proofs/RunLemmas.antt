-- A run, one answer of its source after another.
use Rattle.std.proofs.Common.{◌≡◌, inl, ℕ, ◌+◌, ◌<◌, ◌^◌, Bool, true, false, List, [], ◌∷◌, ◌++◌, length, Option, Some, None, refl, ap, sym, subst, ◌∙◌, arith, append_assoc, append-nil, length-append}
use Rattle.std.specs.Prelude.{◌||◌, is_some}
use Rattle.arrival_spec.specs.declared.event.Scripted.{Scripted}
use Rattle.arrival_spec.specs.Arrival.{Arrival}
use Rattle.arrival_spec.specs.Arrival.Arrival.{SessionOpen, Raw, SessionClose, Periodic}
use Rattle.arrival_spec.specs.Run.{arrivals_of}
use Rattle.site_io.specs.declared.outside.OutsideFault.{OutsideFault}
use Rattle.site_io.specs.Events.{TakesFirst}
use Rattle.run_spec.specs.Read.{ReadArrival, AreReadAs}
use Rattle.run_spec.proofs.ReadLemmas.{one_more_read}
use Rattle.call_spec.specs.declared.end.InputEnd.{InputEnd}
use Rattle.call_spec.specs.declared.end.InputEnd.TheVariants as end
use Rattle.call_spec.specs.Files.{IsFileText, file_settings}
use Rattle.call_spec.specs.Counts.{MovesBy}
use Rattle.call_spec.specs.Ends.{TakenFrom, IsNothingLeft, EndsReading, GrowsAs, has_failed, source_failed, wants_memory}
use Rattle.session_table.specs.declared.arrival.Arrival.TheVariants as gives
use Rattle.input_lane.specs.declared.came.InletAnswer.{InletAnswer}
use Rattle.input_lane.specs.declared.came.InletAnswer.TheVariants as answer
use Rattle.input_lane.specs.declared.inlet.Inlet.{Inlet}
use Rattle.input_lane.specs.declared.state.Lane.{Lane}
use Rattle.input_lane.specs.declared.state.Reading.{Reading}
use Rattle.input_lane.specs.declared.state.Reading.TheVariants as reading
use Rattle.input_lane.specs.Inlets.{Answers, AnswersFrom, Asked, Asks, Causes, EndsAs, GoesOn, GoesOnBy, IsEmptyHanded, IsIdle, IsQuestion, IsReading, LessensBy, Stands, StandsBy, StandsBehind, StillBy, Stops, and_given, fault_of, is_end, still_left}
use Rattle.input_lane.specs.Inlets.Asked.{NotAsked, Gave, AtEnd, Failing, Wanted}
use Rattle.input_lane.proofs.StandLemmas.{ends_how, idle_reading, open_reading}
use Rattle.parser_lane.specs.Parsers.{CanCome, arrival_of}
use Rattle.run_input.specs.Standing.{end_by}
use Rattle.run_input.proofs.FrontLemmas.{got_comes, reads_front}
use Rattle.file_lines.specs.declared.open_sessions.OpenSessions.{OpenSessions}
use Rattle.file_lines.specs.declared.texts.Texts.{Texts}
use Rattle.file_lines.specs.Texts.{Wrote}
use Rattle.file_lines.specs.Session.{files}
use Rattle.file_lines.specs.Work.{IsDecoded, HasWritten, KeepsWritten, WorksOff, Writes, IsAsBefore, TakesAnswer}
use Rattle.file_lines.specs.Run.{IsFresh, IsReady, IsFront, Working, WorkedTo, WorksWaiting, SoFar, Ran, StepsTo}
use Rattle.file_lines.proofs.TextLemmas.{grows_none, front_whole, front_longer}
use Rattle.file_lines.proofs.ClosingLemmas.{front_text, over_text}

-- ---- what is left

took_event : (old new : Option (List Scripted)) (e : Scripted) → TakesFirst old new (Some e) → TakenFrom old new (e ∷ [])
took_event None new e t = tt
took_event (Some xs) None e t = absurd t
took_event (Some xs) (Some ys) e t = t

took_end : (old new : Option (List Scripted)) → TakesFirst old new None → TakenFrom old new [] × IsNothingLeft old new
took_end None new t = (tt, tt)
took_end (Some xs) None t = absurd t
took_end (Some xs) (Some ys) t = (t.0 ∙ sym t.1, t.1)

pub taken_none : (old new : Option (List Scripted)) → new ≡ old → TakenFrom old new []
taken_none None new e = tt
taken_none (Some xs) None e = absurd cc
taken_none (Some xs) (Some ys) e = cc

-- one taking after another
taken_more : (a b c : Option (List Scripted)) (given more : List Scripted) → TakenFrom a b given → TakenFrom b c more → TakenFrom a c (given ++ more)
taken_more None b c given more p q = tt
taken_more (Some xs) None c given more p q = absurd p
taken_more (Some xs) (Some ys) None given more p q = absurd q
taken_more (Some xs) (Some ys) (Some zs) given more p q = p ∙ (ap (λ r. given ++ r) q ∙ sym (append_assoc given more zs))

taken_same : (a b c : Option (List Scripted)) (given : List Scripted) → TakenFrom a b given → TakenFrom b c [] → TakenFrom a c given
taken_same a b c given p q = subst (λ (l : List Scripted). TakenFrom a c l) (append-nil given) (taken_more a b c given [] p q)

nothing_left : (a b c : Option (List Scripted)) (given : List Scripted) → TakenFrom a b given → IsNothingLeft b c → IsNothingLeft a c
nothing_left None b c given p q = tt
nothing_left (Some xs) None c given p q = absurd p
nothing_left (Some xs) (Some ys) None given p q = absurd q
nothing_left (Some xs) (Some ys) (Some zs) given p q = q

-- ---- what was written

-- what was written of the text, whatever ended the input
grows_by : (f : Option OutsideFault) (wants : Bool) (old new : Option (List ℕ)) (text : List ℕ) → GrowsAs (is_some f) old new text → GrowsAs (is_some f || wants) old new text
grows_by None false old new text g = g
grows_by None true old new text g = subst (λ t. GrowsAs true old new t) (append-nil text) (front_whole old new text [] g)
grows_by (Some f) wants old new text g = g

-- where memory was wanted it is a front of a longer text
grows_wanting : (f : Option OutsideFault) (old new : Option (List ℕ)) (text more : List ℕ) → GrowsAs (is_some f) old new text → GrowsAs (is_some f || true) old new (text ++ more)
grows_wanting None old new text more g = front_whole old new text more g
grows_wanting (Some f) old new text more g = front_longer old new text more g

-- ---- how reading stands

abbrev Given : Type 0
Given = Arrival (List ℕ)

-- reading that goes on isn't over, and no memory was wanted
goes_open : (given : List Scripted) (out : List Given) (lane : Lane) (how : Reading) → is_end how ≡ false → GoesOnBy how file_settings 0 given out lane → (how ≡ reading.Open) × IsReading file_settings 0 given out lane
goes_open given out lane reading.Open e g = (refl, g)
goes_open given out lane reading.Ended e g = absurd (cc)
goes_open given out lane reading.Failed e g = absurd (cc)
goes_open given out lane reading.Wanting e g = absurd g

pub open_stands : (given : List Scripted) (out : List Given) (lane : Lane) → lane.reading ≡ reading.Open → IsReading file_settings 0 given out lane → Stands file_settings 0 given out lane
open_stands given out lane reads_on r = subst (λ (h : Reading). StandsBy h file_settings 0 given out lane) (sym reads_on) r

still_reading : (old new : Reading) (a : InletAnswer) → StillBy old new a → new ≡ old
still_reading old new (answer.Got a) s = s
still_reading old new answer.Nothing s = absurd s
still_reading old new answer.NotYet s = absurd s
still_reading old new answer.NoMemory s = s.0

open_on : (how : Reading) → how ≡ reading.Open → is_end how ≡ false
open_on how e = ap is_end e

-- a file has no limit: an event ends no reading
no_limit : (taken : List Scripted) (how : Reading) → StandsBehind how file_settings taken → is_end how ≡ true → ⊥
no_limit taken reading.Open s e = cc
no_limit taken reading.Ended s e = omega (arith, s.0)
no_limit taken reading.Failed s e = s
no_limit taken reading.Wanting s e = cc

no_memory : (given : List Scripted) (out : List Given) (lane : Lane) (a : InletAnswer) → a ≡ answer.NoMemory → Answers file_settings 0 given out lane a → lane.reading ≡ reading.Wanting
no_memory given out lane a e s = subst (λ (b : InletAnswer). Answers file_settings 0 given out lane b) e s

module _ {K : Type 0} (held : K → Option (List ℕ)) (sink_faults : K → ℕ) where
  -- ---- one answer

  module _ (given : List Scripted) (out rest : List Given) (read : List ReadArrival) (text : List ℕ) (first : Option (List ℕ)) (count : ℕ) (lane : Lane) (old new : OpenSessions) (before after : Texts) (sink now : K)
      (front : arrivals_of file_settings 0 given ≡ out ++ rest) (reads : AreReadAs out read) (decoded : IsDecoded read old text) (has : HasWritten held sink_faults first count before sink text) (on : is_end lane.reading ≡ false) where
    wanted : (texts : Texts) (k : K) → HasWritten held sink_faults first count texts k text → IsFront held sink_faults given first count texts k
    wanted texts k h = let f = front_text given out rest read text front reads decoded.is in record { text = text; more = f.0; is = f.1; has = h }

    -- an arrival that isn't the end
    taken_arrival : (a : Given) (result : Option InputEnd) → CanCome read (Some a) → GoesOn file_settings 0 given (out ++ a ∷ []) lane → WorksOff held sink_faults (Some a) old new before after sink now result
        → WorkedTo held sink_faults given first count lane new after now result
    taken_arrival a None come goes works =
        let w = works read text first count decoded come has in
        let o = goes_open given (out ++ a ∷ []) lane lane.reading on goes in
        record {
          reads_on = o.0;
          out = out ++ a ∷ [];
          stands = o.1;
          read = read ++ w.read ∷ [];
          are_read = one_more_read out read a w.read reads w.is;
          text = w.text;
          decoded = w.decoded;
          has = w.has;
        }
    taken_arrival a (Some e) come goes works = subst (λ (x : InputEnd). WorkedTo held sink_faults given first count lane new after now (Some x)) (sym works.0) (wanted after now (works.1 text first count has))

    -- nothing arrived
    goes_on : IsReading file_settings 0 given out lane → lane.reading ≡ reading.Open → IsAsBefore old new before after sink now → Working held sink_faults given first count lane new after now
    goes_on r reads_on same = record {
      reads_on = reads_on;
      out = out;
      stands = r;
      read = read;
      are_read = reads;
      text = text;
      decoded = subst (λ (s : OpenSessions). IsDecoded read s text) (sym same.0) decoded;
      has = subst (λ (k : K). HasWritten held sink_faults first count after k text) (sym same.2) (subst (λ (t : Texts). HasWritten held sink_faults first count t sink text) (sym same.1) has);
    }

    pub taken_answer : (a : InletAnswer) (result : Option InputEnd) → Answers file_settings 0 given out lane a → TakesAnswer held sink_faults a old new before after sink now result → WorkedTo held sink_faults given first count lane new after now result
    taken_answer (answer.Got (gives.SessionOpen key transport)) result s t = taken_arrival (SessionOpen key transport) result (got_comes file_settings 0 given out lane read (gives.SessionOpen key transport) reads s) s t
    taken_answer (answer.Got (gives.Raw key octets)) result s t = taken_arrival (Raw key octets.value) result (got_comes file_settings 0 given out lane read (gives.Raw key octets) reads s) s t
    taken_answer (answer.Got (gives.SessionClose key)) result s t = taken_arrival (SessionClose key) result (got_comes file_settings 0 given out lane read (gives.SessionClose key) reads s) s t
    taken_answer (answer.Got (gives.Periodic n seconds)) result s t = taken_arrival (Periodic n seconds) result (got_comes file_settings 0 given out lane read (gives.Periodic n seconds) reads s) s t
    taken_answer (answer.Got gives.End) result s t = let e : true ≡ false = sym s.2 ∙ on in absurd (cc)
    taken_answer answer.Nothing result s t = subst (λ (r : Option InputEnd). WorkedTo held sink_faults given first count lane new after now r) (sym t.0) (goes_on s.0 s.2 t.1)
    taken_answer answer.NotYet result s t = subst (λ (r : Option InputEnd). WorkedTo held sink_faults given first count lane new after now r) (sym t.0) (goes_on s.0 s.2 t.1)
    taken_answer answer.NoMemory result s t =
        subst (λ (r : Option InputEnd). WorkedTo held sink_faults given first count lane new after now r) (sym t.0)
        (wanted after now (subst (λ (k : K). HasWritten held sink_faults first count after k text) (sym t.1.2) (subst (λ (x : Texts). HasWritten held sink_faults first count x sink text) (sym t.1.1) has)))

  -- ---- all that waits

  -- what waits next was worked off
  pub waiting_taken : (old new : Lane) (a : InletAnswer) (sessions now_sessions : OpenSessions) (texts now_texts : Texts) (sink now : K) (result : Option InputEnd) → AnswersFrom old new a → StillBy old.reading new.reading a
      → TakesAnswer held sink_faults a sessions now_sessions texts now_texts sink now result → WorksWaiting held sink_faults old new sessions now_sessions texts now_texts sink now result
  waiting_taken old new a sessions now_sessions texts now_texts sink now result answers still takes = λ given first count w.
      let f = reads_front file_settings 0 given [] w.out old w.stands in
      let front : arrivals_of file_settings 0 given ≡ w.out ++ f.0 = ap (arrivals_of file_settings 0) (sym (append-nil given)) ∙ f.1 in
      let s = answers file_settings 0 given w.out (open_stands given w.out old w.reads_on w.stands) in
      let on = open_on new.reading (still_reading old.reading new.reading a still ∙ w.reads_on) in
      taken_answer given w.out f.0 w.read w.text first count new sessions now_sessions texts now_texts sink now front w.are_read w.decoded w.has on a result s takes

  -- nothing waits
  pub waiting_none : (old new : Lane) (sessions : OpenSessions) (texts : Texts) (sink : K) → IsEmptyHanded old new → WorksWaiting held sink_faults old new sessions sessions texts texts sink sink None
  waiting_none old new sessions texts sink empty = λ given first count w. record {
    reads_on = empty.still;
    out = w.out;
    stands = (empty.stands file_settings 0 given w.out (open_stands given w.out old w.reads_on w.stands)).0;
    read = w.read;
    are_read = w.are_read;
    text = w.text;
    decoded = w.decoded;
    has = w.has;
  }

  -- one after another
  pub waiting_then : (a b c : Lane) (r s t : OpenSessions) (x y z : Texts) (j k l : K) (result : Option InputEnd) → WorksWaiting held sink_faults a b r s x y j k None → WorksWaiting held sink_faults b c s t y z k l result → WorksWaiting held sink_faults a c r t x z j l result
  waiting_then a b c r s t x y z j k l result p q = λ given first count w. q given first count (p given first count w)

  -- each lessens what waits
  pub waiting_lessens : (old new : Lane) (a : InletAnswer) (sessions now_sessions : OpenSessions) (texts now_texts : Texts) (sink now : K) → LessensBy old new a → StillBy old.reading new.reading a → TakesAnswer held sink_faults a sessions now_sessions texts now_texts sink now None
      → still_left new < still_left old
  waiting_lessens old new (answer.Got (gives.SessionOpen key transport)) sessions now_sessions texts now_texts sink now l s t = l
  waiting_lessens old new (answer.Got (gives.Raw key octets)) sessions now_sessions texts now_texts sink now l s t = l
  waiting_lessens old new (answer.Got (gives.SessionClose key)) sessions now_sessions texts now_texts sink now l s t = l
  waiting_lessens old new (answer.Got (gives.Periodic n seconds)) sessions now_sessions texts now_texts sink now l s t = l
  waiting_lessens old new (answer.Got gives.End) sessions now_sessions texts now_texts sink now l s t = absurd (cc)
  waiting_lessens old new answer.Nothing sessions now_sessions texts now_texts sink now l s t = absurd s
  waiting_lessens old new answer.NotYet sessions now_sessions texts now_texts sink now l s t = absurd s
  waiting_lessens old new answer.NoMemory sessions now_sessions texts now_texts sink now l s t = let e = t.0 in absurd (cc)

module _ {S K : Type 0} (left : S → Option (List Scripted)) (faults : S → ℕ) (held : K → Option (List ℕ)) (sink_faults : K → ℕ) where
  -- nothing was read yet
  pub so_none : (inlet : Inlet S) (sink : K) (sessions : OpenSessions) (texts : Texts) → IsReady inlet.lane → IsFresh sessions texts → SoFar left faults held sink_faults [] inlet.source inlet sink sink sessions texts
  so_none inlet sink sessions texts ready fresh = record {
    taken = taken_none (left inlet.source) (left inlet.source) refl;
    unfailed = refl;
    idle = ready.0;
    working = record {
      reads_on = ready.0.0;
      out = [];
      stands = open_reading file_settings 0 [] [] inlet.lane ready.0.0 ready.1;
      read = [];
      are_read = tt;
      text = [];
      decoded = record { stands = fresh.0; is = refl };
      has = subst (λ (f : Option OutsideFault). Wrote (held sink) (held sink) (sink_faults sink) (sink_faults sink) [] f) (sym fresh.1) (record { octets = grows_none (held sink); counts = refl });
    };
  }

  module _ (given : List Scripted) (first : S) (old : Inlet S) (first_sink sink : K) (sessions : OpenSessions) (texts : Texts) (so : SoFar left faults held sink_faults given first old first_sink sink sessions texts) where
    -- all that was read was written
    text_so_far : IsFileText given so.working.text
    text_so_far = over_text given so.working.out so.working.read so.working.text (idle_reading file_settings 0 given so.working.out old.lane so.idle (open_stands given so.working.out old.lane so.working.reads_on so.working.stands)).1 so.working.are_read so.working.decoded.is

    -- a run that ends behind these events
    pub ends_behind : (end : InputEnd) (now : S) → TakenFrom (left old.source) (left now) [] → MovesBy (source_failed end) (faults old.source) (faults now) → EndsReading (left first) (left now) given end → Ran left faults held sink_faults first now first_sink sink end texts.fault
    ends_behind end now taken counts ends = record {
      given = given;
      taken = taken_same (left first) (left old.source) (left now) given so.taken taken;
      unfailed = (old.source, so.unfailed, so.taken);
      counts = subst (λ n. MovesBy (source_failed end) n (faults now)) so.unfailed counts;
      ends = ends;
      text = so.working.text;
      is = text_so_far;
      octets = grows_by texts.fault (wants_memory end) (held first_sink) (held sink) so.working.text so.working.has.octets;
      sink_counts = so.working.has.counts;
    }

    module _ (lt : length given < 2 ^ 48) (asked : Asked) (mid : Inlet S) (a : InletAnswer) (q : IsQuestion asked) (asks : Asks left faults asked old.source mid.source) (causes : Causes asked old.lane.reading mid.lane.reading a)
        (said : Answers file_settings 0 (and_given asked given) so.working.out mid.lane a) where
      -- the source gave its answer, and had not failed
      taken_now : (k : Asked) → IsQuestion k → Asks left faults k old.source mid.source → Causes k old.lane.reading mid.lane.reading a → is_end mid.lane.reading ≡ false → TakenFrom (left first) (left mid.source) (and_given k given) × (faults mid.source ≡ faults first)
      taken_now NotAsked q took c on = absurd q
      taken_now (Gave e) q took c on = (taken_more (left first) (left old.source) (left mid.source) given (e ∷ []) so.taken (took_event (left old.source) (left mid.source) e took.0), took.1 ∙ so.unfailed)
      taken_now AtEnd q took c on = let no : true ≡ false = sym (ap is_end (ends_how reading.Ended mid.lane.reading a c.1)) ∙ on in absurd (cc)
      taken_now Failing q took c on = let no : true ≡ false = sym (ap is_end (ends_how reading.Failed mid.lane.reading a c.1)) ∙ on in absurd (cc)
      taken_now Wanted q took c on = (taken_same (left first) (left old.source) (left mid.source) given so.taken (taken_none (left old.source) (left mid.source) took.0), took.1 ∙ so.unfailed)

      -- an event was given where reading goes on
      gave_event : (k : Asked) → IsQuestion k → Causes k old.lane.reading mid.lane.reading a → Answers file_settings 0 (and_given k given) so.working.out mid.lane a → mid.lane.reading ≡ reading.Open → (e : Scripted) × (and_given k given ≡ given ++ e ∷ [])
      gave_event NotAsked q c s reads_on = absurd q
      gave_event (Gave e) q c s reads_on = (e, refl)
      gave_event AtEnd q c s reads_on = let no = sym (ends_how reading.Ended mid.lane.reading a c.1) ∙ reads_on in absurd (cc)
      gave_event Failing q c s reads_on = let no = sym (ends_how reading.Failed mid.lane.reading a c.1) ∙ reads_on in absurd (cc)
      gave_event Wanted q c s reads_on = let no = sym (no_memory given so.working.out mid.lane a c.1 s) ∙ reads_on in absurd (cc)

      -- memory was wanted behind it
      wanted_behind : is_end mid.lane.reading ≡ false → (source : S) → source ≡ mid.source → (now_texts : Texts) (now : K) → IsFront held sink_faults (and_given asked given) (held first_sink) (sink_faults first_sink) now_texts now
          → Ran left faults held sink_faults first source first_sink now end.Memory now_texts.fault
      wanted_behind on source same now_texts now f =
          let t = taken_now asked q asks causes on in
          let taken : TakenFrom (left first) (left source) (and_given asked given) = subst (λ (s : S). TakenFrom (left first) (left s) (and_given asked given)) (sym same) t.0 in
          record {
            given = and_given asked given;
            taken = taken;
            unfailed = (mid.source, t.1, t.0);
            counts = ap faults same ∙ t.1;
            ends = tt;
            text = f.text ++ f.more;
            is = f.is;
            octets = grows_wanting now_texts.fault (held first_sink) (held now) f.text f.more f.has.octets;
            sink_counts = f.has.counts;
          }

      -- the answer was worked off, and then all that waited
      pub steps_worked : is_end mid.lane.reading ≡ false → (now : Inlet S) → now.source ≡ mid.source → (now_sessions : OpenSessions) (now_texts : Texts) (now_sink : K) (result : Option InputEnd) → (result ≡ None → IsIdle now.lane × (mid.lane.reading ≡ reading.Open))
          → WorkedTo held sink_faults (and_given asked given) (held first_sink) (sink_faults first_sink) now.lane now_sessions now_texts now_sink result → StepsTo left faults held sink_faults given first now first_sink now_sink now_sessions now_texts result
      steps_worked on now same now_sessions now_texts now_sink None idle w =
          let i = idle refl in
          let t = taken_now asked q asks causes on in
          let g = gave_event asked q causes said i.1 in (
            g.0,
            record {
              taken = subst (λ (s : S). TakenFrom (left first) (left s) (given ++ g.0 ∷ [])) (sym same) (subst (λ (l : List Scripted). TakenFrom (left first) (left mid.source) l) g.1 t.0);
              unfailed = ap faults same ∙ t.1;
              idle = i.0;
              working = subst (λ (l : List Scripted). Working held sink_faults l (held first_sink) (sink_faults first_sink) now.lane now_sessions now_texts now_sink) g.1 w;
            },
          )
      steps_worked on now same now_sessions now_texts now_sink (Some end.End) idle w = absurd w
      steps_worked on now same now_sessions now_texts now_sink (Some end.Failed) idle w = absurd w
      steps_worked on now same now_sessions now_texts now_sink (Some end.Limit) idle w = absurd w
      steps_worked on now same now_sessions now_texts now_sink (Some end.Memory) idle w = wanted_behind on now.source same now_texts now_sink w

      -- the answer, worked off
      pub answer_worked : is_end mid.lane.reading ≡ false → (now_sessions : OpenSessions) (now_texts : Texts) (now_sink : K) (result : Option InputEnd) → TakesAnswer held sink_faults a sessions now_sessions texts now_texts sink now_sink result
          → WorkedTo held sink_faults (and_given asked given) (held first_sink) (sink_faults first_sink) mid.lane now_sessions now_texts now_sink result
      answer_worked on now_sessions now_texts now_sink result takes =
          let w = so.working in
          let f = front_of asked q in
          taken_answer held sink_faults (and_given asked given) w.out f.0 w.read w.text (held first_sink) (sink_faults first_sink) mid.lane sessions now_sessions texts now_texts sink now_sink f.1 w.are_read w.decoded w.has on a result said takes
        where
          same_given : (rest : List Given) × (arrivals_of file_settings 0 given ≡ so.working.out ++ rest)
          same_given = let f = reads_front file_settings 0 given [] so.working.out old.lane so.working.stands in (f.0, ap (arrivals_of file_settings 0) (sym (append-nil given)) ∙ f.1)

          front_of : (k : Asked) → IsQuestion k → (rest : List Given) × (arrivals_of file_settings 0 (and_given k given) ≡ so.working.out ++ rest)
          front_of NotAsked q = absurd q
          front_of (Gave e) q = reads_front file_settings 0 given (e ∷ []) so.working.out old.lane so.working.stands
          front_of AtEnd q = same_given
          front_of Failing q = same_given
          front_of Wanted q = same_given

      -- reading is over
      pub steps_over : Stops asked old.lane mid.lane → is_end mid.lane.reading ≡ true → (e : InputEnd) → e ≡ end_by (fault_of mid.lane.reading) → Ran left faults held sink_faults first mid.source first_sink sink e texts.fault
      steps_over stops over e is = by asked q asks causes stops said
        where
          stood : Stands file_settings 0 given so.working.out old.lane
          stood = open_stands given so.working.out old.lane so.working.reads_on so.working.stands

          ended : (how : Reading) → mid.lane.reading ≡ how → end_by (fault_of how) ≡ e
          ended how h = ap (λ (r : Reading). end_by (fault_of r)) (sym h) ∙ sym is

          by : (k : Asked) → IsQuestion k → Asks left faults k old.source mid.source → Causes k old.lane.reading mid.lane.reading a → Stops k old.lane mid.lane → Answers file_settings 0 (and_given k given) so.working.out mid.lane a
              → Ran left faults held sink_faults first mid.source first_sink sink e texts.fault
          by NotAsked q took c st s = absurd q
          by (Gave x) q took c st s = absurd (no_limit (given ++ x ∷ []) mid.lane.reading (st file_settings 0 given so.working.out stood) over)
          by AtEnd q took c st s =
              let t = took_end (left old.source) (left mid.source) took.0 in
              subst (λ (n : InputEnd). Ran left faults held sink_faults first mid.source first_sink sink n texts.fault) (ended reading.Ended (ends_how reading.Ended mid.lane.reading a c.1))
              (ends_behind end.End mid.source t.0 took.1 (nothing_left (left first) (left old.source) (left mid.source) given so.taken t.1, lt))
          by Failing q took c st s =
              subst (λ (n : InputEnd). Ran left faults held sink_faults first mid.source first_sink sink n texts.fault) (ended reading.Failed (ends_how reading.Failed mid.lane.reading a c.1))
              (ends_behind end.Failed mid.source (taken_none (left old.source) (left mid.source) took.0) took.1 lt)
          by Wanted q took c st s = let no : false ≡ true = sym (ap is_end (no_memory given so.working.out mid.lane a c.1 s)) ∙ over in absurd (cc)

  -- memory was wanted before anything was asked
  pub wanted_first : (source : S) (sink : K) (sessions : OpenSessions) (texts : Texts) → IsFresh sessions texts → Ran left faults held sink_faults source source sink sink end.Memory texts.fault
  wanted_first source sink sessions texts fresh =
      let none : TakenFrom (left source) (left source) [] = taken_none (left source) (left source) refl in
      record {
        given = [];
        taken = none;
        unfailed = (source, refl, none);
        counts = refl;
        ends = tt;
        text = [];
        is = over_text [] [] [] [] refl tt refl;
        octets = grows_by texts.fault true (held sink) (held sink) [] (subst (λ (f : Option OutsideFault). GrowsAs (is_some f) (held sink) (held sink) []) (sym fresh.1) (grows_none (held sink)));
        sink_counts = subst (λ (f : Option OutsideFault). MovesBy (has_failed f) (sink_faults sink) (sink_faults sink)) (sym fresh.1) refl;
      }

pub one_longer : (given : List Scripted) (e : Scripted) → length (given ++ e ∷ []) ≡ length given + 1
one_longer given e = simp length-append
