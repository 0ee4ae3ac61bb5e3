use Rattle.std.proofs.Common.{◌≡◌, ℕ, ◌<◌, Some}
use Rattle.std.specs.Prelude.{slice_get}
use Rattle.compose_blocks.specs.declared.uses.Found.{Found}
use Rattle.compose_blocks.specs.private.Found.{AreCircuits, HasCircuit}
use Rattle.compose_blocks.proofs.used_circuits.circuits_of.Given as goal

-- the blocks of the instances so far have their circuits
abbrev pub invariant-loop-i : goal.invariant-loop-i
invariant-loop-i l =
    record {
      are : AreCircuits l.design l.blocks l.circuits.items;
      done : (j : ℕ) (found : Found) → j < l.i → slice_get l.list j ≡ Some found → HasCircuit l.circuits.items found.block;
    }
