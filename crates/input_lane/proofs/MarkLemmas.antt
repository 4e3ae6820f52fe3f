-- What marks add to no counts is what a run counts of them.
use Rattle.std.proofs.Common.{◌≡◌, ℕ, ◌+◌, List, [], ◌∷◌, refl, ap, sym, ◌∙◌, arith, cond}
use Rattle.std.specs.Prelude.{count_by}
use Rattle.std.proofs.lemmas.List.Sums.{sum_by-cons}
use Rattle.arrival_spec.specs.Arrival.{Arrival}
use Rattle.arrival_spec.specs.Arrival.Arrival.{SessionOpen, Raw, SessionClose, Periodic}
use Rattle.arrival_spec.specs.Mark.{Mark, arrivals_in, is_torn, is_broken, is_refused, is_stray}
use Rattle.arrival_spec.specs.Mark.Mark.{Arrives, Stray, Refused, Torn, Broken}
use Rattle.count_spec.specs.Counts.{opens_one}
use Rattle.count_spec.specs.Shown.{shown_number}
use Rattle.input_lane.specs.declared.tally.Tally.{Tally}
use Rattle.input_lane.specs.Tallies.{Counted, CountsMarks, adds, is_opening, no_counts}

openings : (marks : List Mark) → count_by is_opening marks ≡ count_by opens_one (arrivals_in marks)
openings [] = refl
openings (Arrives (SessionOpen key transport) ∷ marks) =
    sum_by-cons (λ (m : Mark). cond (is_opening m) 1 0) (Arrives (SessionOpen key transport)) marks
    ∙ (ap (λ n. 1 + n) (openings marks)
    ∙ sym (sum_by-cons (λ (a : Arrival (List ℕ)). cond (opens_one a) 1 0) (SessionOpen key transport) (arrivals_in marks)))
openings (Arrives (Raw key octets) ∷ marks) = openings marks
openings (Arrives (SessionClose key) ∷ marks) = openings marks
openings (Arrives (Periodic input seconds) ∷ marks) = openings marks
openings (Stray ∷ marks) = openings marks
openings (Refused ∷ marks) = openings marks
openings (Torn ∷ marks) = openings marks
openings (Broken ∷ marks) = openings marks

from_none : (n : ℕ) → adds 0 n ≡ shown_number n
from_none n = omega arith

pub counts_marks : (marks : List Mark) (t : Tally) → Counted marks no_counts t → CountsMarks marks t
counts_marks marks t c = record {
  sessions = c.sessions ∙ (from_none (count_by is_opening marks) ∙ ap shown_number (openings marks));
  torn = c.torn ∙ from_none (count_by is_torn marks);
  broken = c.broken ∙ from_none (count_by is_broken marks);
  refused = c.refused ∙ from_none (count_by is_refused marks);
  stray = c.stray ∙ from_none (count_by is_stray marks);
}
