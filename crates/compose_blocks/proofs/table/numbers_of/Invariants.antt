use Rattle.std.proofs.Common.{◌≡◌, ℕ, List, take}
use Rattle.std.specs.HashMap.{get_by_text}
use Rattle.compose_model.specs.Hierarchy.{block_from}
use Rattle.compose_blocks.proofs.table.numbers_of.Given as goal

-- the names so far have their numbers
abbrev pub invariant-loop-i : goal.invariant-loop-i
invariant-loop-i l = (name : List ℕ) → get_by_text l.numbers name ≡ block_from 0 (take l.i l.blocks) name
