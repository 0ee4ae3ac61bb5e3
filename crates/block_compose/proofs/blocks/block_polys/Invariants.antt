use Rattle.std.proofs.Common.{◌≡◌, ℕ, ◌<◌, Some, map}
use Rattle.std.specs.Prelude.{slice_get}
use Rattle.block_compose.specs.private.Blocks.{ArePolys, HasPoly}
use Rattle.block_compose.proofs.blocks.block_polys.Given as goal

-- the blocks of the numbers so far have their polynomials
abbrev pub invariant-loop-i : goal.invariant-loop-i
invariant-loop-i g l =
    record {
      are : ArePolys (g.F.Ring.degree l.field) (g.F.Ring.product l.field) l.blocks l.circuits (map (λ list. list.items) l.bases) l.bound l.polys.items;
      done : (j number : ℕ) → j < l.i → slice_get l.numbers j ≡ Some number → HasPoly l.polys.items number;
    }
