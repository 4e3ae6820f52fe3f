-- What an input brings, from what its source, its lane and its parser did.
use Rattle.std.proofs.Common.{◌≡◌, ℕ, List, [], ◌∷◌, ◌++◌, Option, Some, None, refl, ap, sym, subst, ◌∙◌}
use Rattle.std.specs.Prelude.{IsSome, is_some}
use Rattle.arrival_spec.specs.declared.event.Scripted.{Scripted}
use Rattle.arrival_spec.specs.Settings.{Settings}
use Rattle.run_spec.specs.Read.{ReadArrival, AreReadAs}
use Rattle.call_spec.specs.declared.end.InputEnd.{InputEnd}
use Rattle.call_spec.specs.declared.end.InputEnd.TheVariants as end
use Rattle.pipeline_message.specs.declared.message.Msg.{Msg}
use Rattle.session_table.specs.declared.arrival.Arrival.{Arrival as Arrived}
use Rattle.session_table.specs.declared.arrival.Arrival.TheVariants as gives
use Rattle.input_lane.specs.declared.came.InletAnswer.{InletAnswer}
use Rattle.input_lane.specs.declared.came.InletAnswer.TheVariants as asking
use Rattle.input_lane.specs.declared.state.Reading.{Reading}
use Rattle.input_lane.specs.Inlets.{Answers as Answered, Asked, Asks, Causes, Stops, and_given, fault_of}
use Rattle.input_lane.specs.Inlets.{Stands as LaneStands}
use Rattle.input_lane.specs.Inlets.Asked.{NotAsked, Gave, AtEnd, Failing, Wanted}
use Rattle.parser_lane.specs.declared.parser.Parser.{Parser}
use Rattle.parser_lane.specs.Parsers.{CanCome, MayCome, arrival_of}
use Rattle.run_input.specs.declared.input.Input.{Input}
use Rattle.run_input.specs.declared.input.InputAnswer.{InputAnswer}
use Rattle.run_input.specs.declared.input.InputAnswer.TheVariants as answer
use Rattle.run_input.specs.declared.work.Worked.TheVariants as worked
use Rattle.run_input.specs.Standing.{IsOpen, StandsBy, WorksOff, end_by}
use Rattle.run_input.specs.Inputs.{Answers, Asking, Brings, HasGiven, IsCause, IsRight, MayAsk}
use Rattle.run_input.proofs.FrontLemmas.{Given, got_comes}
use Rattle.run_input.proofs.StepLemmas.{fails_step, reads_step, taken_step, unfailed_step}
use Rattle.run_input.proofs.AnswerLemmas.{all_done, front_before, front_wanted, lane_stands, may_come_next, one_more_open, still_open}

module _ {S : Type 0} (left : S → Option (List Scripted)) (faults : S → ℕ) where
  abbrev Has : S → Settings → ℕ → List Scripted → List ReadArrival → Input S → Type 0
  Has first settings number given read x = HasGiven left faults first settings number given read x

  is_open : (first : S) (settings : Settings) (number : ℕ) (given : List Scripted) (read : List ReadArrival) (x : Input S) → x.end ≡ None → Has first settings number given read x → IsOpen settings number given read x.inlet.lane x.parser
  is_open first settings number given read x none h = subst (λ (o : Option InputEnd). StandsBy o settings number given read x.inlet.lane x.parser) none h.stands

  -- an input that has ended stays so
  pub ended_brings : (x : Input S) → IsSome x.end → Brings left faults x x answer.Ended
  ended_brings x some = (NotAsked, record { asks = refl; cause = tt; may = tt }, λ first settings number given read h. (h, some))

  -- whatever is brought, an input stands for something
  pub brings_right : (x y : Input S) (w : InputAnswer) → IsRight left faults x → Brings left faults x y w → IsRight left faults y
  brings_right x y w r b = by_answer w (b.2 r.first r.settings r.number r.given r.read r.has)
    where
      now : List Scripted
      now = and_given b.0 r.given

      by_answer : (v : InputAnswer) → Answers left faults r.first r.settings r.number now r.read y v → IsRight left faults y
      by_answer (answer.Message msg) a = record { first = r.first; settings = r.settings; number = r.number; given = now; read = r.read ++ a.0 ∷ []; has = a.2 }
      by_answer answer.Nothing a = record { first = r.first; settings = r.settings; number = r.number; given = now; read = r.read; has = a.0 }
      by_answer answer.NotYet a = record { first = r.first; settings = r.settings; number = r.number; given = now; read = r.read; has = a.0 }
      by_answer answer.Ended a = record { first = r.first; settings = r.settings; number = r.number; given = now; read = r.read; has = a.0 }

  -- what is known of a question to the lane
  pub record Question (asked : Asked) (a : InletAnswer) (x y : Input S) : Type 0 where
    pub asks : Asks left faults asked x.inlet.source y.inlet.source
    pub causes : Causes asked x.inlet.lane.reading y.inlet.lane.reading a
    pub stops : Stops asked x.inlet.lane y.inlet.lane
    pub answers : (settings : Settings) (input : ℕ) (taken : List Scripted) (out : List Given) → LaneStands settings input taken out x.inlet.lane → Answered settings input (and_given asked taken) out y.inlet.lane a
    pub number : y.number ≡ x.number
    pub parser : x.end ≡ None

  module _ (asked : Asked) (a : InletAnswer) (x y : Input S) (q : Question asked a x y) (first : S) (settings : Settings) (number : ℕ) (given : List Scripted) (read : List ReadArrival) (h : Has first settings number given read x) where
    opens : IsOpen settings number given read x.inlet.lane x.parser
    opens = is_open first settings number given read x q.parser h

    stood : LaneStands settings number given opens.out x.inlet.lane
    stood = lane_stands settings number given opens.out x.inlet.lane opens.goes_on

    said : Answered settings number (and_given asked given) opens.out y.inlet.lane a
    said = q.answers settings number given opens.out stood

    stands_now : (read' : List ReadArrival) → StandsBy y.end settings number (and_given asked given) read' y.inlet.lane y.parser → Has first settings number (and_given asked given) read' y
    stands_now read' s = record {
      numbered = q.number ∙ h.numbered;
      taken = taken_step left faults first x.inlet.source y.inlet.source settings number given opens.out x.inlet.lane y.inlet.lane a asked q.asks h.taken;
      unfailed = unfailed_step left faults first x.inlet.source y.inlet.source settings number given opens.out x.inlet.lane y.inlet.lane a asked q.asks q.causes h.taken h.fails h.unfailed;
      reads = reads_step left faults first x.inlet.source y.inlet.source settings number given opens.out x.inlet.lane y.inlet.lane a asked q.asks q.causes q.stops stood said h.taken h.reads;
      fails = fails_step left faults first x.inlet.source y.inlet.source settings number given opens.out x.inlet.lane y.inlet.lane a asked q.asks q.causes q.stops stood said h.fails;
      stands = s;
    }

    open_now : (read' : List ReadArrival) → y.end ≡ None → IsOpen settings number (and_given asked given) read' y.inlet.lane y.parser → Has first settings number (and_given asked given) read' y
    open_now read' none o = stands_now read' (subst (λ (e : Option InputEnd). StandsBy e settings number (and_given asked given) read' y.inlet.lane y.parser) (sym none) o)

    ended_now : (e : InputEnd) → y.end ≡ Some e → StandsBy (Some e) settings number (and_given asked given) read y.inlet.lane y.parser → Has first settings number (and_given asked given) read y
    ended_now e some s = stands_now read (subst (λ (o : Option InputEnd). StandsBy o settings number (and_given asked given) read y.inlet.lane y.parser) (sym some) s)

  some_is : (x : Input S) (e : InputEnd) → x.end ≡ Some e → IsSome x.end
  some_is x e is = ap is_some is

  -- an input that hasn't ended may ask
  may_ask : (asked : Asked) (end : Option InputEnd) → end ≡ None → MayAsk asked end
  may_ask NotAsked end none = tt
  may_ask (Gave e) end none = none
  may_ask AtEnd end none = none
  may_ask Failing end none = none
  may_ask Wanted end none = none

  asking_by : (asked : Asked) (a : InletAnswer) (w : InputAnswer) (x y : Input S) → Question asked a x y → IsCause asked w → Asking left faults asked x y w
  asking_by asked a w x y q c = record { asks = q.asks; cause = c; may = may_ask asked x.end q.parser }

  nothing_cause : (asked : Asked) (old new : Reading) → Causes asked old new asking.Nothing → IsCause asked answer.Nothing
  nothing_cause NotAsked old new c = absurd c
  nothing_cause (Gave e) old new c = c.1
  nothing_cause AtEnd old new c = absurd c.1
  nothing_cause Failing old new c = absurd c.1
  nothing_cause Wanted old new c = absurd (let wrong : asking.Nothing ≡ asking.NoMemory = c.1 in cc)

  look_cause : (asked : Asked) (old new : Reading) → Causes asked old new asking.NotYet → IsCause asked answer.NotYet
  look_cause NotAsked old new c = absurd c
  look_cause (Gave e) old new c = c.1
  look_cause AtEnd old new c = absurd c.1
  look_cause Failing old new c = absurd c.1
  look_cause Wanted old new c = absurd (let wrong : asking.NotYet ≡ asking.NoMemory = c.1 in cc)

  want_cause : (asked : Asked) (old new : Reading) → Causes asked old new asking.NoMemory → IsCause asked answer.Ended
  want_cause NotAsked old new c = tt
  want_cause (Gave e) old new c = c.1
  want_cause AtEnd old new c = tt
  want_cause Failing old new c = tt
  want_cause Wanted old new c = refl

  message_cause : (asked : Asked) (arrival : Arrived) (msg : Msg) (old new : Reading) → Causes asked old new (asking.Got arrival) → IsCause asked (answer.Message msg)
  message_cause NotAsked arrival msg old new c = tt
  message_cause (Gave e) arrival msg old new c = c.1
  message_cause AtEnd arrival msg old new c = tt
  message_cause Failing arrival msg old new c = tt
  message_cause Wanted arrival msg old new c = absurd (let wrong : asking.Got arrival ≡ asking.NoMemory = c.1 in cc)

  end_cause : (asked : Asked) (arrival : Arrived) (old new : Reading) → Causes asked old new (asking.Got arrival) → IsCause asked answer.Ended
  end_cause NotAsked arrival old new c = tt
  end_cause (Gave e) arrival old new c = c.1
  end_cause AtEnd arrival old new c = tt
  end_cause Failing arrival old new c = tt
  end_cause Wanted arrival old new c = refl

  pub nothing_brings : (asked : Asked) (x y : Input S) → Question asked asking.Nothing x y → y.end ≡ None → y.parser ≡ x.parser → Brings left faults x y answer.Nothing
  nothing_brings asked x y q none same = (
    asked,
    asking_by asked asking.Nothing answer.Nothing x y q (nothing_cause asked x.inlet.lane.reading y.inlet.lane.reading q.causes),
    λ first settings number given read h.
        let o = opens asked asking.Nothing x y q first settings number given read h in
        let s = said asked asking.Nothing x y q first settings number given read h in (
          open_now asked asking.Nothing x y q first settings number given read h read none
              (subst (λ (p : Parser). IsOpen settings number (and_given asked given) read y.inlet.lane p) (sym same) (still_open settings number given read (and_given asked given) x.inlet.lane y.inlet.lane x.parser o s.0 s.2)),
          none,
          subst (λ l. AreReadAs l read) s.1 o.are_read,
        ),
  )

  pub not_yet_brings : (asked : Asked) (x y : Input S) → Question asked asking.NotYet x y → y.end ≡ None → y.parser ≡ x.parser → Brings left faults x y answer.NotYet
  not_yet_brings asked x y q none same = (
    asked,
    asking_by asked asking.NotYet answer.NotYet x y q (look_cause asked x.inlet.lane.reading y.inlet.lane.reading q.causes),
    λ first settings number given read h.
        let o = opens asked asking.NotYet x y q first settings number given read h in
        let s = said asked asking.NotYet x y q first settings number given read h in (
          open_now asked asking.NotYet x y q first settings number given read h read none
              (subst (λ (p : Parser). IsOpen settings number (and_given asked given) read y.inlet.lane p) (sym same) (still_open settings number given read (and_given asked given) x.inlet.lane y.inlet.lane x.parser o s.0 s.2)),
          none,
          subst (λ l. AreReadAs l read) s.1 o.are_read,
        ),
  )

  pub want_brings : (asked : Asked) (x y : Input S) → Question asked asking.NoMemory x y → y.end ≡ Some end.Memory → Brings left faults x y answer.Ended
  want_brings asked x y q some = (
    asked,
    asking_by asked asking.NoMemory answer.Ended x y q (want_cause asked x.inlet.lane.reading y.inlet.lane.reading q.causes),
    λ first settings number given read h.
        let o = opens asked asking.NoMemory x y q first settings number given read h in (
          ended_now asked asking.NoMemory x y q first settings number given read h end.Memory some (front_wanted settings number given read asked x.inlet.lane y.inlet.lane.reading x.parser o q.causes),
          some_is y end.Memory some,
        ),
  )

  -- ---- with an arrival

  pub got_may_come : (asked : Asked) (arrival : Arrived) (x y : Input S) → IsRight left faults x → Question asked (asking.Got arrival) x y → MayCome arrival x.parser
  got_may_come asked arrival x y r q =
      may_come_next r.settings r.number r.given r.read asked x.inlet.lane y.inlet.lane x.parser arrival (opens asked (asking.Got arrival) x y q r.first r.settings r.number r.given r.read r.has)
      (said asked (asking.Got arrival) x y q r.first r.settings r.number r.given r.read r.has)

  pub message_brings : (asked : Asked) (arrival : Arrived) (msg : Msg) (x y : Input S) → Question asked (asking.Got arrival) x y → y.end ≡ None → WorksOff (arrival_of arrival) x.parser y.parser (worked.Message msg) → Brings left faults x y (answer.Message msg)
  message_brings asked arrival msg x y q none w = (asked, asking_by asked (asking.Got arrival) (answer.Message msg) x y q (message_cause asked arrival msg x.inlet.lane.reading y.inlet.lane.reading q.causes), λ first settings number given read h. by_arrival first settings number given read h (arrival_of arrival) refl w)
    where
      by_arrival : (first : S) (settings : Settings) (number : ℕ) (given : List Scripted) (read : List ReadArrival) (h : Has first settings number given read x) (o : Option Given) → arrival_of arrival ≡ o → WorksOff o x.parser y.parser (worked.Message msg)
          → Answers left faults first settings number (and_given asked given) read y (answer.Message msg)
      by_arrival first settings number given read h None is w = absurd w
      by_arrival first settings number given read h (Some b) is w =
          let o = opens asked (asking.Got arrival) x y q first settings number given read h in
          let s = said asked (asking.Got arrival) x y q first settings number given read h in
          let comes = subst (λ (v : Option Given). CanCome read v) is (got_comes settings number (and_given asked given) o.out y.inlet.lane read arrival o.are_read s) in
          let g = w.1.2 settings read o.stands comes in (
            w.1.0,
            g.0,
            open_now asked (asking.Got arrival) x y q first settings number given read h (read ++ w.1.0 ∷ []) none
                (one_more_open settings number given read (and_given asked given) x.inlet.lane y.inlet.lane x.parser y.parser arrival b w.1.0 o is s w.1.1 w.0 g.1),
            none,
          )

  pub unworked_brings : (asked : Asked) (arrival : Arrived) (x y : Input S) (p : Parser) → Question asked (asking.Got arrival) x y → y.end ≡ Some end.Memory → WorksOff (arrival_of arrival) x.parser p worked.Wanted → Brings left faults x y answer.Ended
  unworked_brings asked arrival x y p q some w = (asked, asking_by asked (asking.Got arrival) answer.Ended x y q (end_cause asked arrival x.inlet.lane.reading y.inlet.lane.reading q.causes), λ first settings number given read h. by_arrival first settings number given read h (arrival_of arrival) refl w)
    where
      by_arrival : (first : S) (settings : Settings) (number : ℕ) (given : List Scripted) (read : List ReadArrival) (h : Has first settings number given read x) (o : Option Given) → arrival_of arrival ≡ o → WorksOff o x.parser p worked.Wanted
          → Answers left faults first settings number (and_given asked given) read y answer.Ended
      by_arrival first settings number given read h None is w = absurd w
      by_arrival first settings number given read h (Some b) is w =
          let o = opens asked (asking.Got arrival) x y q first settings number given read h in
          let s = said asked (asking.Got arrival) x y q first settings number given read h in (
            ended_now asked (asking.Got arrival) x y q first settings number given read h end.Memory some (front_before settings number given read (and_given asked given) x.inlet.lane y.inlet.lane x.parser arrival b o is s),
            some_is y end.Memory some,
          )

  end_is : (arrival : Arrived) → arrival_of arrival ≡ None → arrival ≡ gives.End
  end_is gives.End is = refl
  end_is (gives.SessionOpen key transport) is = absurd cc
  end_is (gives.Raw key octets) is = absurd cc
  end_is (gives.SessionClose key) is = absurd cc
  end_is (gives.Periodic n seconds) is = absurd cc

  pub last_brings : (asked : Asked) (arrival : Arrived) (x y : Input S) → Question asked (asking.Got arrival) x y → y.end ≡ Some (end_by (fault_of y.inlet.lane.reading)) → WorksOff (arrival_of arrival) x.parser y.parser worked.Last → Brings left faults x y answer.Ended
  last_brings asked arrival x y q some w = (asked, asking_by asked (asking.Got arrival) answer.Ended x y q (end_cause asked arrival x.inlet.lane.reading y.inlet.lane.reading q.causes), λ first settings number given read h. by_arrival first settings number given read h (arrival_of arrival) refl w)
    where
      by_arrival : (first : S) (settings : Settings) (number : ℕ) (given : List Scripted) (read : List ReadArrival) (h : Has first settings number given read x) (o : Option Given) → arrival_of arrival ≡ o → WorksOff o x.parser y.parser worked.Last
          → Answers left faults first settings number (and_given asked given) read y answer.Ended
      by_arrival first settings number given read h (Some b) is w = absurd w
      by_arrival first settings number given read h None is w =
          let o = opens asked (asking.Got arrival) x y q first settings number given read h in
          let s = subst (λ (v : Arrived). Answered settings number (and_given asked given) o.out y.inlet.lane (asking.Got v)) (end_is arrival is) (said asked (asking.Got arrival) x y q first settings number given read h) in (
            ended_now asked (asking.Got arrival) x y q first settings number given read h (end_by (fault_of y.inlet.lane.reading)) some
                (subst (λ (p : Parser). StandsBy (Some (end_by (fault_of y.inlet.lane.reading))) settings number (and_given asked given) read y.inlet.lane p) (sym w)
                (all_done settings number given read (and_given asked given) x.inlet.lane y.inlet.lane x.parser o s)),
            some_is y (end_by (fault_of y.inlet.lane.reading)) some,
          )
