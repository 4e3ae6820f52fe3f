-- The rows of an input's connections, in order of opening.
use Rattle.std.specs.Prelude.{ℕ, ◌≡◌, ◌==◌, Bool, false, List, [], ◌∷◌, find, Option, Some, None}
use Rattle.std.specs.List.{AllByRecursion}
use Rattle.site_io.specs.Outside.{one_more}
use Rattle.input_lane.specs.declared.stream.Stream.{Stream}
use Rattle.input_lane.specs.declared.stream.Stream.TheVariants as stream

-- a connection that was opened and not closed: its number, the number of its session, none where it has none, and what came of
-- it and was no message yet
pub record Link : Type 0 where
  pub conn : ℕ
  pub session : Option ℕ
  pub rest : List ℕ

abbrev pub stream_link : ℕ → Stream → Link
stream_link conn (stream.Open session rest) = record { conn = conn; session = Some session; rest = rest }
stream_link conn stream.Dead = record { conn = conn; session = None; rest = [] }

abbrev pub link_row : ℕ × Stream → Link
link_row entry = stream_link entry.0 entry.1

abbrev pub link_is : ℕ → Link → Bool
link_is c x = x.conn == c

-- the connection is there
abbrev pub HasLink : ℕ → List Link → Type 0
HasLink c links = (x : Link) × (find (link_is c) links ≡ Some x)

-- the count of torn sessions, once a stream with this rest ended
abbrev pub torn_at : ℕ → List ℕ → ℕ
torn_at count [] = count
torn_at count (o ∷ rest) = one_more count

abbrev pub torn_by : ℕ → Link → ℕ
torn_by count x = torn_at count x.rest

abbrev pub torn_more : ℕ → Stream → ℕ
torn_more count s = torn_by count (stream_link 0 s)

-- no two are of one connection
abbrev pub AreApart : List Link → Type 0
AreApart [] = Unit {0}
AreApart (x ∷ links) = AllByRecursion (λ y. link_is x.conn y ≡ false) links × AreApart links
