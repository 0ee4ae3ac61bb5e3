-- What a latch holds in the first cycle. Source: the Berkeley Logic Interchange Format (BLIF), University of California, Berkeley.
use Rattle.std.specs.Prelude.{List, [], ◌∷◌, codes, if◌then◌else◌}
use Rattle.std.specs.Str.{bytes_eq}
use Rattle.net_core.specs.declared.latch.Start.{Start}
use Rattle.net_core.specs.declared.latch.Start.TheVariants.{Zero, One, Unknown}
use Rattle.net_blif.specs.Statement.{Token}

-- 0 and 1 are bits; another start is not known
abbrev pub start_said : Token → Start
start_said token = if bytes_eq token (codes "0") then Zero else (if bytes_eq token (codes "1") then One else Unknown)

-- what the words behind the nets of a latch say: where none is the start, it is not known
abbrev pub start_of : List Token → Start
start_of [] = Unknown
start_of (start ∷ []) = start_said start
start_of (kind ∷ control ∷ []) = Unknown
start_of (kind ∷ control ∷ start ∷ rest) = start_said start
