-- Rising ranks.
use Rattle.std.proofs.Common.{◌≡◌, ℕ, ◌<◌, List, [], ◌∷◌, sym}
use Rattle.std.specs.declared.cmp.Ordering.TheVariants.{Less}
use Rattle.std.specs.Cmp.{nat_cmp_total, ranked}
use Rattle.std.specs.Ordering.{nat_cmp}
use Rattle.std.specs.List.{AllByRecursion}

-- each rank of the list is above x
abbrev pub Above : ℕ → List ℕ → Type 0
Above x rs = AllByRecursion (λ y. nat_cmp x y ≡ Less) rs

pub from_less : (x y : ℕ) → nat_cmp x y ≡ Less → x < y
from_less x y e = ranked x y Less (sym e)

pub above_trans : (x y : ℕ) (rs : List ℕ) → nat_cmp x y ≡ Less → Above y rs → Above x rs
above_trans x y [] l up = tt
above_trans x y (z ∷ rs) l up = (nat_cmp_total.trans x y z l up.0, above_trans x y rs l up.1)
