-- What generated messages say, and their records.
use Rattle.std.specs.Prelude.{ℕ, zero, suc, ◌≡◌, ◌<◌, ◌≤◌, ◌+◌, ◌*◌, ◌%◌, ◌==◌, if◌then◌else◌, List, [], ◌∷◌, ◌++◌, map}
use Rattle.wire_spec.specs.Content.{Message, Part}
use Rattle.wire_spec.specs.Content.Part.{Touches, Body}
use Rattle.wire_spec.specs.Content.Touch.{Define}
use Rattle.arrival_spec.specs.Numbers.{first_numbers}
use Rattle.load_spec.specs.Draws.{state_after, draws}
use Rattle.load_spec.specs.Load.{defined_as, draws_before, fields_at, place_in_domain, records_size_at}

-- the set of template records of a domain's message at place q, if it has one
abbrev pub template_part_at : ℕ → List Part
template_part_at q = if q % 250 == 0 then Touches (Define 256 (defined_as (fields_at q)) ∷ []) ∷ [] else []

-- what message i says where its records are drawn from a state
abbrev pub message_said : ℕ → ℕ → Message
message_said x i = record {
  export = 1000 + i;
  sequence = 4 * place_in_domain i;
  domain = 1 + i % 4;
  parts = template_part_at (place_in_domain i) ++ Body 256 (draws (records_size_at (place_in_domain i)) x) ∷ [];
}

-- what the messages of a number say
abbrev pub load_said : ℕ → ℕ → List Message
load_said number count = map (λ i. message_said (state_after (draws_before i) number) i) (first_numbers count)

-- so many records of a size, one drawn behind another
abbrev pub records_drawn : ℕ → ℕ → ℕ → List (List ℕ)
records_drawn zero size x = []
records_drawn (suc n) size x = draws size x ∷ records_drawn n size (state_after size x)

-- Of a domain the message at place p defines the fields of the message at place q, and none between them has a template.
pub record WasDefinedLast (p q : ℕ) : Type 0 where
  pub before : p ≤ q
  pub defines : template_part_at p ≡ Touches (Define 256 (defined_as (fields_at q)) ∷ []) ∷ []
  pub none_between : (r : ℕ) → p < r → r ≤ q → template_part_at r ≡ []
