-- What an input stands for behind each of its answers.
use Rattle.std.proofs.Common.{◌≡◌, ℕ, true, false, List, [], ◌∷◌, ◌++◌, Some, refl, sym, subst, ◌∙◌, append_assoc, append-nil}
use Rattle.arrival_spec.specs.declared.event.Scripted.{Scripted}
use Rattle.arrival_spec.specs.Settings.{Settings}
use Rattle.arrival_spec.specs.Run.{marks_of}
use Rattle.run_spec.specs.Read.{ReadArrival, AreReadAs, IsReadAs}
use Rattle.run_spec.proofs.ReadLemmas.{one_more_read}
use Rattle.session_table.specs.declared.arrival.Arrival.{Arrival as Arrived}
use Rattle.session_table.specs.declared.arrival.Arrival.TheVariants as gives
use Rattle.input_lane.specs.declared.came.InletAnswer.TheVariants as answer
use Rattle.input_lane.specs.declared.state.Lane.{Lane}
use Rattle.input_lane.specs.declared.state.Reading.{Reading}
use Rattle.input_lane.specs.declared.state.Reading.TheVariants as reading
use Rattle.input_lane.specs.Inlets.{Answers as Answered, Asked, Causes, GoesOn, GoesOnBy, IsReading, and_given, fault_of, is_end}
use Rattle.input_lane.specs.Inlets.{Stands as LaneStands}
use Rattle.input_lane.specs.Inlets.Asked.{NotAsked, Gave, AtEnd, Failing, Wanted}
use Rattle.input_lane.proofs.MarkLemmas.{counts_marks}
use Rattle.input_lane.proofs.StandLemmas.{goes_on_stands}
use Rattle.parser_lane.specs.declared.parser.Parser.{Parser}
use Rattle.parser_lane.specs.Parsers.{MayCome, arrival_of, Stands as ParserStands}
use Rattle.run_input.specs.Standing.{IsDone, IsFront, IsOpen, StandsBy, end_by}
use Rattle.run_input.proofs.FrontLemmas.{Given, goes_front, got_comes, got_goes, reads_front}

-- an input that goes on stands, too
pub lane_stands : (settings : Settings) (k : ℕ) (given : List Scripted) (out : List Given) (x : Lane) → GoesOn settings k given out x → LaneStands settings k given out x
lane_stands settings k given out x g = goes_on_stands settings k given out x x.reading g

module _ (settings : Settings) (k : ℕ) (given : List Scripted) (read : List ReadArrival) where
  -- an arrival may come for the parser
  pub may_come_next : (asked : Asked) (x y : Lane) (p : Parser) (arrival : Arrived) (o : IsOpen settings k given read x p) → Answered settings k (and_given asked given) o.out y (answer.Got arrival) → MayCome arrival p
  may_come_next asked x y p arrival o g = record {
    settings = settings;
    read = read;
    stands = λ still. o.stands;
    comes = got_comes settings k (and_given asked given) o.out y read arrival o.are_read g;
  }

  -- nothing came, and reading goes on
  pub still_open : (now : List Scripted) (x y : Lane) (p : Parser) (o : IsOpen settings k given read x p) → IsReading settings k now o.out y → y.reading ≡ reading.Open → IsOpen settings k now read y p
  still_open now x y p o r on = record {
    out = o.out;
    goes_on = subst (λ (h : Reading). GoesOnBy h settings k now o.out y) (sym on) r;
    are_read = o.are_read;
    working = o.working;
    stands = o.stands;
  }

  -- an arrival was worked off
  pub one_more_open : (now : List Scripted) (x y : Lane) (p q : Parser) (arrival : Arrived) (a : Given) (r : ReadArrival) (o : IsOpen settings k given read x p) → arrival_of arrival ≡ Some a → Answered settings k now o.out y (answer.Got arrival)
      → IsReadAs a r → q.wanting ≡ false → ParserStands settings (read ++ r ∷ []) q.sessions → IsOpen settings k now (read ++ r ∷ []) y q
  one_more_open now x y p q arrival a r o is g says working stands = record {
    out = o.out ++ a ∷ [];
    goes_on = got_goes settings k now o.out y arrival a is g;
    are_read = one_more_read o.out read a r o.are_read says;
    working = working;
    stands = stands;
  }

  -- memory was wanted for an arrival
  pub front_before : (now : List Scripted) (x y : Lane) (p : Parser) (arrival : Arrived) (a : Given) (o : IsOpen settings k given read x p) → arrival_of arrival ≡ Some a → Answered settings k now o.out y (answer.Got arrival) → IsFront settings k now read
  front_before now x y p arrival a o is g =
      let f = goes_front settings k now (o.out ++ a ∷ []) y (got_goes settings k now o.out y arrival a is g) in
      record { out = o.out; rest = a ∷ f.0; whole = f.1 ∙ append_assoc o.out (a ∷ []) f.0; are_read = o.are_read }

  reading_on : (x : Lane) (p : Parser) (o : IsOpen settings k given read x p) → x.reading ≡ reading.Open → IsReading settings k given o.out x
  reading_on x p o on = subst (λ (h : Reading). GoesOnBy h settings k given o.out x) on o.goes_on

  front_with : (more : List Scripted) (x : Lane) (p : Parser) (o : IsOpen settings k given read x p) → x.reading ≡ reading.Open → IsFront settings k (given ++ more) read
  front_with more x p o on = let f = reads_front settings k given more o.out x (reading_on x p o on) in record { out = o.out; rest = f.0; whole = f.1; are_read = o.are_read }

  front_now : (x : Lane) (p : Parser) (o : IsOpen settings k given read x p) → x.reading ≡ reading.Open → IsFront settings k given read
  front_now x p o on = subst (λ l. IsFront settings k l read) (append-nil given) (front_with [] x p o on)

  -- memory was wanted for reading
  pub front_wanted : (asked : Asked) (x : Lane) (now : Reading) (p : Parser) (o : IsOpen settings k given read x p) → Causes asked x.reading now answer.NoMemory → IsFront settings k (and_given asked given) read
  front_wanted NotAsked x now p o c = absurd (subst (λ (h : Reading). GoesOnBy h settings k given o.out x) c.1 o.goes_on)
  front_wanted (Gave e) x now p o c = front_with (e ∷ []) x p o c.0
  front_wanted AtEnd x now p o c = absurd c.1
  front_wanted Failing x now p o c = absurd c.1
  front_wanted Wanted x now p o c = front_now x p o c.0

  -- all arrivals were worked off
  pub all_done : (now : List Scripted) (x y : Lane) (p : Parser) (o : IsOpen settings k given read x p) → Answered settings k now o.out y (answer.Got gives.End) → StandsBy (Some (end_by (fault_of y.reading))) settings k now read y p
  all_done now x y p o g = by_reading y.reading refl g.2
    where
      done : IsDone settings k now read y p
      done = record {
        are_read = subst (λ l. AreReadAs l read) g.1 o.are_read;
        marks = counts_marks (marks_of settings k now) y.state.tally g.0.counts;
        works = o.stands.counts_are;
      }

      by_reading : (h : Reading) → y.reading ≡ h → is_end h ≡ true → StandsBy (Some (end_by (fault_of h))) settings k now read y p
      by_reading reading.Open is e = absurd cc
      by_reading reading.Ended is e = (done, is)
      by_reading reading.Failed is e = (done, is)
      by_reading reading.Wanting is e = absurd cc
