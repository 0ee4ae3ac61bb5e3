-- A connection of an instance: `formal=actual`. Source: the Berkeley Logic Interchange Format (BLIF), University of California, Berkeley.
use Rattle.std.specs.Prelude.{ℕ, ◌+◌, ◌==◌, ◌&&◌, Bool, not, List, length, drop, take_while, nat_lt}

-- what stands before the first `=`
abbrev pub formal_of : List ℕ → List ℕ
formal_of connection = take_while (λ b. not (b == 61)) connection

-- what stands behind the first `=`
abbrev pub actual_of : List ℕ → List ℕ
actual_of connection = drop (length (formal_of connection) + 1) connection

-- neither side is empty
abbrev pub is_connection : List ℕ → Bool
is_connection token = nat_lt 0 (length (formal_of token)) && nat_lt 0 (length (actual_of token))
