-- What a list of octets is after its octets were written over.
use Rattle.std.specs.Prelude.{ℕ, List, ◌++◌, length, take, drop}

-- the octets that were written stand in front, and none is more than there was
abbrev pub written_over : List ℕ → List ℕ → List ℕ
written_over written old = take (length old) (written ++ drop (length written) old)
