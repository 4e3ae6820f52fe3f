-- The numbers that octets stand for (RFC 7011, section 6.1.1).
use Rattle.std.specs.Prelude.{ℕ, ◌+◌, ◌-◌, ◌*◌, ◌^◌, List, fold, length, nat_lt, ℤ, pos, negsuc, if◌then◌else◌}

-- the unsigned number, the first octet the highest
abbrev pub number_of : List ℕ → ℕ
number_of octets = fold (λ n octet. 256 * n + octet) 0 octets

-- how many numbers so many octets can say
abbrev pub range_of : List ℕ → ℕ
range_of octets = 256 ^ length octets

-- the two's complement number: from half the range on, the number less the whole range (negsuc n is -(n + 1))
abbrev pub signed_number_of : List ℕ → ℤ
signed_number_of octets = if nat_lt (2 * number_of octets) (range_of octets) then pos (number_of octets)
    else negsuc (range_of octets - number_of octets - 1)
