-- One arrival, worked off by a parser.
use Rattle.std.proofs.Common.{◌≡◌, Bool, true, false, Option, Some, None, refl, sym, subst, ◌∙◌}
use Rattle.std.specs.Prelude.{MatchOption}
use Rattle.pipeline_message.specs.declared.message.Msg.{Msg}
use Rattle.pipeline_message.specs.Items.{IsSoundMessage}
use Rattle.session_table.specs.declared.arrival.Arrival.{Arrival as Arrived}
use Rattle.parser_lane.specs.declared.parser.Parser.{Parser}
use Rattle.parser_lane.specs.Parsers.{CanCome, MayCome, Works, WorksBy, arrival_of}
use Rattle.run_input.specs.declared.work.Worked.TheVariants as worked
use Rattle.run_input.specs.Standing.{WorksOff}
use Rattle.run_input.proofs.FrontLemmas.{Given}

pub works_last : (o : Option Given) (b : Bool) (p : Parser) → MatchOption o (b ≡ true) (λ _. b ≡ false) → b ≡ true → WorksOff o p p worked.Last
works_last None b p m is = refl
works_last (Some a) b p m is = absurd (let wrong : false ≡ true = sym m ∙ is in cc)

pub works_message : (o : Option Given) (b : Bool) (p q : Parser) (msg : Msg) → MatchOption o (b ≡ true) (λ _. b ≡ false) → b ≡ false → q.wanting ≡ false → WorksBy o p.sessions q.sessions msg → WorksOff o p q (worked.Message msg)
works_message None b p q msg m is working w = absurd (let wrong : true ≡ false = sym m ∙ is in cc)
works_message (Some a) b p q msg m is working w = (working, (w.0, w.1, λ settings read s c. (let g = w.2 settings read s c in (g.item, g.stands))))

pub works_wanted : (o : Option Given) (b : Bool) (p q : Parser) → MatchOption o (b ≡ true) (λ _. b ≡ false) → b ≡ false → WorksOff o p q worked.Wanted
works_wanted None b p q m is = absurd (let wrong : true ≡ false = sym m ∙ is in cc)
works_wanted (Some a) b p q m is = tt

-- what a parser makes of an arrival that may come is sound
pub sound_message : (arrival : Arrived) (p q : Parser) (msg : Msg) → MayCome arrival p → p.wanting ≡ false → Works arrival p.sessions q.sessions msg → IsSoundMessage msg
sound_message arrival p q msg may working w = by_arrival (arrival_of arrival) may.comes w
  where
    by_arrival : (o : Option Given) → CanCome may.read o → WorksBy o p.sessions q.sessions msg → IsSoundMessage msg
    by_arrival None c w = subst IsSoundMessage (sym w.0) tt
    by_arrival (Some a) c w = (w.2 may.settings may.read (may.stands working) c).sound
