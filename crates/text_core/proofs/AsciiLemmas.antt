-- Bytes in ASCII.
use Rattle.std.proofs.Common.{ℕ, zero, suc, ◌<◌, List, [], ◌∷◌, length, get_or, arith, lit<, All}
use Rattle.std.specs.Str.{IsAscii}

from-all : (bytes : List ℕ) → ((k d : ℕ) → k < length bytes → get_or bytes k d < 128) → IsAscii bytes
from-all [] each i = lit< tt
from-all (b ∷ bytes) each zero = each 0 0 (omega arith)
from-all (b ∷ bytes) each (suc i) = from-all bytes (λ k d less. each (suc k) d (omega arith)) i

pub ascii : (bytes : List ℕ) → All (λ b. b < 128) bytes → IsAscii bytes
ascii bytes each = from-all bytes each
